use Rattle.std.proofs.Common.{◌≡◌, ◌-◌, []}
use Rattle.qm_store.specs.Items.{items_at}
use Rattle.qm_store.specs.Weights.{weight_at}
use Rattle.qm_store.proofs.weight_bytes.read_weights.Given as goal

abbrev pub invariant-loop : goal.invariant-loop
invariant-loop l = items_at weight_at (l.count - l.counter) l.weights.entries l.rest ≡ items_at weight_at l.count [] l.initial.rest
