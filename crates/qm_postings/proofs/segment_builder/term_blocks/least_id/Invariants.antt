use Rattle.std.proofs.Common.{◌≡◌, take}
use Rattle.qm_postings.specs.Kept.{least_id}
use Rattle.qm_postings.proofs.segment_builder.term_blocks.least_id.Given as goal

abbrev pub invariant-loop-document : goal.invariant-loop-document
invariant-loop-document l = l.least ≡ least_id l.ids (take l.document-index l.documents)
