-- What a score makes of a cell.
use Rattle.std.specs.Prelude.{ℕ, ◌+◌}
use Rattle.qm_term.specs.declared.wand.cells.Cell.{Cell}

-- a cell with a score and a bound more
abbrev pub cell_with : {C : Type 0} → (C → ℕ → C) → ℕ → ℕ → Cell C → Cell C
cell_with step score bound cell = record { bound = cell.bound + bound; state = step cell.state score }
