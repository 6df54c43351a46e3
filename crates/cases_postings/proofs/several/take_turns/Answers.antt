-- The callback may always be called, and each turn leaves fewer postings.
use Rattle.std.proofs.Common.{rules}
use Rattle.qm_term.specs.RunsFacts.{MayPrune-always}
use Rattle.cases_postings.proofs.several.take_turns.Goals as goal

pub loop-run-init : goal.loop-run-init
loop-run-init g c = c.requires

pub turn-requires-clause-valid : goal.turn-requires-clause-valid
turn-requires-clause-valid g c = c.loop-run.invariant

pub turn-requires-clause-callable : goal.turn-requires-clause-callable
turn-requires-clause-callable g c = search (rules, MayPrune-always)

pub loop-run-smaller-then-is_tick_at_most : goal.loop-run-smaller-then-is_tick_at_most
loop-run-smaller-then-is_tick_at_most g c = (c.turn.ensures.turn c.loop-run-test.true).turn.fewer

pub loop-run-preserved-then-is_tick_at_most : goal.loop-run-preserved-then-is_tick_at_most
loop-run-preserved-then-is_tick_at_most g c = c.turn.ensures.valid

pub loop-run-smaller : goal.loop-run-smaller
loop-run-smaller g c = (c.turn.ensures.turn c.loop-run-test.true).turn.fewer

pub loop-run-preserved : goal.loop-run-preserved
loop-run-preserved g c = c.turn.ensures.valid

pub turn-is_over-requires-clause-callable : goal.turn-is_over-requires-clause-callable
turn-is_over-requires-clause-callable g c = search (rules, MayPrune-always)
