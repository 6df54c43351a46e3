use Rattle.std.proofs.Common.{◌≡◌}
use Rattle.qm_docset.specs.Members.{members_between}
use Rattle.qm_postings.specs.Segment.{is_deleted}
use Rattle.qm_store.proofs.deletions.deleted_numbers.Given as goal

abbrev pub invariant-loop-doc : goal.invariant-loop-doc
invariant-loop-doc l = l.numbers.items ≡ members_between (is_deleted l.segment.segment) 0 l.doc
