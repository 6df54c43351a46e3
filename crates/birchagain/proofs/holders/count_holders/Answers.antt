use Rattle.std.proofs.Common.{arith, length}
use Rattle.birchagain.specs.Holding.{holders_in}
use Rattle.birchagain.proofs.HolderCounts.{holders-few}
use Rattle.birchagain.proofs.LeftWords.{left-sum, left-summed}
use Rattle.birchagain.proofs.holders.count_holders.Goals as goal

pub loop-segment-preserved : goal.loop-segment-preserved
loop-segment-preserved c =
    let segments = c.args.segments.now in
    let at = c.loop-segment.segment-index in
    let reader = c.segment-item.result in
    let below = c.loop-segment-test.true in
    let counted = left-summed (holders_in c.args.term.now) (λ r. r.segment) segments at reader reader below c.segment-item.is in
    let documents = left-sum (λ r. length r.segment.documents) segments at reader reader below c.segment-item.is in
    let few = holders-few c.args.term.now reader.segment in record {
      counted = omega (arith, counted, c.loop-segment.invariant.counted, c.from-count.ensures, c.count_holders_in.ensures);
      fits = omega (arith, documents, few, c.loop-segment.invariant.fits, c.from-count.ensures, c.count_holders_in.ensures);
    }
