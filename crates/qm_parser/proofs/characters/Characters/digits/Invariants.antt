use Rattle.std.proofs.Common.{◌≡◌, ◌≤◌, length}
use Rattle.qm_parser.specs.Cursor.{characters_left}
use Rattle.qm_parser.specs.Numbers.{digits_at}
use Rattle.qm_parser.proofs.characters.Characters.digits.Given as goal

abbrev pub invariant-loop-c : goal.invariant-loop-c
invariant-loop-c l = (l.number ≤ 4294967296) × (digits_at l.number (characters_left l.self) ≡ digits_at 0 (characters_left l.initial.self))

abbrev pub decreases-loop-c : goal.decreases-loop-c
decreases-loop-c l = length (characters_left l.self)
