use Rattle.std.proofs.Common.{arith}
use Rattle.birchagain_bytes.proofs.OpenCounts.{left-counted}
use Rattle.birchagain_bytes.proofs.open_documents.documents_behind.Goals as goal

pub loop-segment-preserved : goal.loop-segment-preserved
loop-segment-preserved c =
    let segments = c.args.segments.now in
    let at = c.loop-segment.segment-index in
    let reader = c.segment-item.result in
    let counted = left-counted segments at reader reader c.loop-segment-test.true c.segment-item.is in
    omega (arith, counted, c.requires.within, c.loop-segment.invariant, c.from-left.ensures, c.max_doc.ensures.number)
