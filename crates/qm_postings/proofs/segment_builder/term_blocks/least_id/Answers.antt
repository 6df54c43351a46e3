use Rattle.std.proofs.Common.{arith}
use Rattle.qm_postings.proofs.BoundLemmas.{least-more, least-none}
use Rattle.qm_postings.proofs.segment_builder.term_blocks.least_id.Goals as goal

pub loop-document-init : goal.loop-document-init
loop-document-init c = least-none c.args.ids.now

pub loop-document-preserved : goal.loop-document-preserved
loop-document-preserved c = omega (
  arith,
  c.lesser-least.ensures,
  c.id_of.ensures,
  c.loop-document.invariant,
  least-more c.args.ids.now c.args.documents.now c.loop-document.document-index 0 c.loop-document-test.true,
)
