use Rattle.std.proofs.Common.{◌≡◌, ◌<◌, ℕ, get_or, length}
use Rattle.birchagain.proofs.start.norms.Given as goal

abbrev pub invariant-loop-id : goal.invariant-loop-id
invariant-loop-id l = record {
  len : length l.norms ≡ 256;
  filled : (k : ℕ) (d : ℕ) → k < l.id → get_or l.norms k d ≡ k;
}
