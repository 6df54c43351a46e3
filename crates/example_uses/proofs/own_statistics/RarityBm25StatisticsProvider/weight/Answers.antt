-- One term more weighs its own rarity more.
use Rattle.std.proofs.Common.{ap, arith}
use Rattle.std.proofs.lemmas.List.Sums.{sum_by_more}
use Rattle.example_uses.specs.Rarity.{rarity}
use Rattle.example_uses.proofs.own_statistics.RarityBm25StatisticsProvider.weight.Goals as goal

pub loop-term-preserved : goal.loop-term-preserved
loop-term-preserved c =
    let weigh = rarity c.args.self.now.reader.now.segment in
    let terms = c.args.terms.now in
    let more = sum_by_more weigh terms c.loop-term.term-index c.term-item.result c.loop-term-test.true in
    let same = ap weigh c.term-item.is in
    omega (arith, more, same, c.in-Some.ensures.1, c.rarity.ensures, c.loop-term.invariant)
