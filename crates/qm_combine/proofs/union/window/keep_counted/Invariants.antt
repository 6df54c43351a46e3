use Rattle.std.proofs.Common.{◌≡◌, ℕ, ◌+◌, ◌||◌, ◌&&◌, length, nat_le, slice_index_or}
use Rattle.qm_docset.specs.TinySet.{tiny_has, tiny_members}
use Rattle.qm_combine.proofs.union.window.keep_counted.Given as goal

abbrev pub invariant-loop-lowest : goal.invariant-loop-lowest
invariant-loop-lowest g l = (x : ℕ) → tiny_has l.kept x
    ≡ (tiny_has l.fn.word x && (tiny_has l.left x || nat_le l.minimum (slice_index_or l.states (l.first + x) l.cleared).count))

abbrev pub decreases-loop-lowest : goal.decreases-loop-lowest
decreases-loop-lowest g l = length (tiny_members l.left)
