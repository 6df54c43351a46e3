use Rattle.std.proofs.Common.{◌≡◌, ◌++◌, List, ℕ}
use Rattle.std.specs.Prelude.{All}
use Rattle.std.specs.List.{flat_map}
use Rattle.qm_schema.specs.Term.{TermKey}
use Rattle.qm_store.specs.Weights.{IsWeight, weight_bytes}
use Rattle.qm_store.proofs.weight_bytes.push_weights.Given as goal

abbrev pub invariant-loop-term : goal.invariant-loop-term
invariant-loop-term l = record {
  whole : l.out.items ++ flat_map weight_bytes l.term-iterator ≡ l.initial.out.items ++ flat_map weight_bytes l.weights.entries;
  done : (front : List (TermKey × ℕ)) × (front ++ l.term-iterator ≡ l.weights.entries) × All IsWeight front;
}
