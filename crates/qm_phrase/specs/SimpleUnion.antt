-- What a union of postings shows, over the ghost members of its members.
use Rattle.std.specs.Prelude.{◌≡◌, List}
use Rattle.qm_combine.specs.Union.{least_head}
use Rattle.qm_docset.specs.Entry.{Entry, Limits}
use Rattle.qm_docset.specs.Lists.{ArePlaced, lists, bounds}
use Rattle.qm_docset.specs.declared.docset.DocSet.{Ghosts}
use Rattle.qm_phrase.specs.PostingUnions.{limits_of_postings, united_entries}
use Rattle.qm_phrase.specs.declared.union.simple_union.SimpleUnion.{SimpleUnion}

module _ {P : Type 0} (D : Ghosts P) where
  -- the documents that remain
  abbrev pub simple_union_left : SimpleUnion P → List Entry
  simple_union_left s = united_entries (lists D s.members.items)

  -- its limits
  abbrev pub simple_union_limits : SimpleUnion P → Limits
  simple_union_limits s = limits_of_postings (bounds D s.members.items)

  -- placed members beside the least of the documents that they stand on
  pub record IsSimpleUnion (s : SimpleUnion P) : Type 0 where
    pub members : ArePlaced D s.members.items
    pub first : s.doc ≡ least_head (lists D s.members.items)
