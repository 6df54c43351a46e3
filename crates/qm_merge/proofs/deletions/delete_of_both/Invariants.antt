use Rattle.std.proofs.Common.{◌≡◌}
use Rattle.qm_docset.specs.Members.{members_between}
use Rattle.qm_postings.specs.Segment.{without}
use Rattle.qm_merge.specs.Merging.{was_deleted}
use Rattle.qm_merge.proofs.deletions.delete_of_both.Given as goal

abbrev pub invariant-loop-doc : goal.invariant-loop-doc
invariant-loop-doc l =
    l.segment.segment ≡ without (members_between (was_deleted l.first.segment l.second.segment) 0 l.doc) l.fn.segment.segment
