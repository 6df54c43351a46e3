-- The members that remain to a cursor over a bit set are entries.
use Rattle.qm_docset.specs.BitSet.{set_has, set_max_value, set_members_from}
use Rattle.qm_docset.specs.BitSetDocSet.{remaining_members, IsBitSetCursor}
use Rattle.qm_docset.specs.Entry.{AreEntries, no_limits}
use Rattle.qm_docset.specs.MembersFacts.{AreEntries-members_between}
use Rattle.qm_docset.specs.declared.bitset_docset.BitSetDocSet.{BitSetDocSet}

pub AreEntries-remaining : (s : BitSetDocSet) → IsBitSetCursor s → AreEntries 0 no_limits (remaining_members s)
unfolding set_members_from
AreEntries-remaining s valid = AreEntries-members_between (set_has s.docs) s.doc (set_max_value s.docs) valid.documents
