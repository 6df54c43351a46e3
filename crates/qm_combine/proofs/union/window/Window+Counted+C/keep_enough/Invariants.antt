use Rattle.std.proofs.Common.{◌≡◌, ℕ, ◌*◌, ◌&&◌, ◌||◌, nat_le, slice_index_or}
use Rattle.qm_docset.specs.Words.{words_have}
use Rattle.qm_combine.proofs.union.window.Window+Counted+C.keep_enough.Given as goal

abbrev pub invariant-loop-bucket : goal.invariant-loop-bucket
invariant-loop-bucket g l = record {
  start : l.self.start ≡ l.fn.self.start;
  last : l.self.last ≡ l.fn.self.last;
  combiner : l.self.combiner ≡ l.fn.self.combiner;
  states : l.self.states ≡ l.fn.self.states;
  kept : (x : ℕ) → words_have l.self.buckets.items x ≡ (words_have l.fn.self.buckets.items x
      && (nat_le (64 * l.bucket) x || nat_le l.minimum (slice_index_or l.fn.self.states.items x l.fn.self.combiner).count));
}
