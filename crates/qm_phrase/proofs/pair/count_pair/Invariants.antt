use Rattle.std.proofs.Common.{◌≡◌, ◌+◌, ◌-◌, ◌≤◌, [], ◌∷◌, All, drop, length, min}
use Rattle.qm_postings.specs.Positions.{shifted}
use Rattle.qm_phrase.specs.Places.{Ascends}
use Rattle.qm_phrase.specs.Starts.{starts}
use Rattle.qm_phrase.proofs.pair.count_pair.Given as goal

abbrev pub invariant-loop-count : goal.invariant-loop-count
invariant-loop-count l = record {
  rows : All (Ascends 0) (shifted l.shift (drop l.passed l.positions) ∷ shifted l.other_shift (drop l.other_passed l.other_positions) ∷ []);
  within : l.count ≤ l.most;
  counted : min l.most (l.count + starts l.slop (shifted l.shift (drop l.passed l.positions) ∷ shifted l.other_shift (drop l.other_passed l.other_positions) ∷ []))
      ≡ min l.most (starts l.slop (shifted l.shift l.positions ∷ shifted l.other_shift l.other_positions ∷ []));
}

abbrev pub decreases-loop-count : goal.decreases-loop-count
decreases-loop-count l = length l.positions - l.passed + (length l.other_positions - l.other_passed)
