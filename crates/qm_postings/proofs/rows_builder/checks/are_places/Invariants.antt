use Rattle.std.proofs.Common.{◌≤◌, ◌↔◌, drop, length}
use Rattle.qm_postings.specs.Rows.{ArePlaces}
use Rattle.qm_postings.proofs.rows_builder.checks.are_places.Given as goal

abbrev pub invariant-loop-frequency : goal.invariant-loop-frequency
invariant-loop-frequency l = record {
  within : l.start ≤ length l.positions;
  left : ArePlaces l.frequencies l.positions ↔ ArePlaces (drop l.frequency-index l.frequencies) (drop l.start l.positions);
}
