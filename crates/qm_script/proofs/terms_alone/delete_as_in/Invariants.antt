use Rattle.std.proofs.Common.{◌≡◌}
use Rattle.qm_docset.specs.Members.{members_between}
use Rattle.qm_postings.specs.Segment.{is_deleted, without}
use Rattle.qm_script.proofs.terms_alone.delete_as_in.Given as goal

abbrev pub invariant-loop-doc : goal.invariant-loop-doc
invariant-loop-doc l = l.segment.segment ≡ without (members_between (is_deleted l.other.segment) 0 l.doc) l.fn.segment.segment
