-- What a union of postings over a bit set shows, over the ghost members of its members.
use Rattle.std.specs.Prelude.{◌≤◌, List, All}
use Rattle.qm_docset.specs.BitSetDocSet.{IsBitSetCursor, IsOnMember, remaining_members}
use Rattle.qm_docset.specs.Entry.{Entry, Limits, head_document}
use Rattle.qm_docset.specs.Lists.{ArePlaced, lists, bounds}
use Rattle.qm_docset.specs.declared.docset.DocSet.{Ghosts}
use Rattle.qm_phrase.specs.PostingUnions.{limits_of_postings, united_over}
use Rattle.qm_phrase.specs.declared.union.bitset_union.BitSetPostingUnion.{BitSetPostingUnion}

module _ {P : Type 0} (D : Ghosts P) where
  -- the documents that remain
  abbrev pub bitset_union_left : BitSetPostingUnion P → List Entry
  bitset_union_left s = united_over (remaining_members s.bitset) (lists D s.members.items)

  -- its limits
  abbrev pub bitset_union_limits : BitSetPostingUnion P → Limits
  bitset_union_limits s = limits_of_postings (bounds D s.members.items)

  -- a cursor over the set that stands on its first document, and placed members, none of which stands
  -- before it
  pub record IsBitSetUnion (s : BitSetPostingUnion P) : Type 0 where
    pub set : IsBitSetCursor s.bitset
    pub on_member : IsOnMember s.bitset
    pub members : ArePlaced D s.members.items
    pub aligned : All (λ m. head_document (remaining_members s.bitset) ≤ head_document (D.entries m)) s.members.items
