use Rattle.std.proofs.Common.{◌≡◌, take}
use Rattle.std.specs.List.{sum_by}
use Rattle.example_uses.specs.Rarity.{rarity}
use Rattle.example_uses.proofs.own_statistics.RarityBm25StatisticsProvider.weight.Given as goal

-- the sum so far is what the terms so far weigh
abbrev pub invariant-loop-term : goal.invariant-loop-term
invariant-loop-term l = l.sum ≡ sum_by (rarity l.self.reader.now.segment) (take l.term-index l.terms)
