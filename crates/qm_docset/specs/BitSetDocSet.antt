-- What a cursor over a bit set shows of its fields.
use Rattle.std.specs.Prelude.{◌≡◌, ◌*◌, ◌≤◌, List, map, drop}
use Rattle.qm_docset.specs.BitSet.{set_max_value, set_members_from, members_left}
use Rattle.qm_docset.specs.Entry.{Entry, head_document, plain}
use Rattle.qm_docset.specs.declared.bitset_docset.BitSetDocSet.{BitSetDocSet}
use Rattle.qm_docset.specs.declared.numbers.TheConstants.{TERMINATED}

-- the members that remain
abbrev pub remaining_members : BitSetDocSet → List Entry
remaining_members s = map plain (set_members_from s.docs s.doc)

-- it stands on the first of them, or at TERMINATED, and keeps the others by words
pub record IsOnMember (s : BitSetDocSet) : Type 0 where
  pub here : s.doc ≡ head_document (remaining_members s)
  pub behind : map plain (members_left s.docs s.bucket s.word) ≡ drop 1 (remaining_members s)
  pub bucket : 64 * s.bucket ≤ TERMINATED

-- its members are documents
pub record IsBitSetCursor (s : BitSetDocSet) : Type 0 where
  pub documents : set_max_value s.docs ≤ TERMINATED
  pub within : s.doc ≤ TERMINATED
