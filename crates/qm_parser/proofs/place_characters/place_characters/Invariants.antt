use Rattle.std.specs.Str.Iter.{char_indices_offset, char_indices_rest}
use Rattle.qm_parser.proofs.PlacedLemmas.{Placing}
use Rattle.qm_parser.specs.Characters.{placed_characters}
use Rattle.qm_parser.proofs.place_characters.place_characters.Given as goal

abbrev pub invariant-loop-place : goal.invariant-loop-place
invariant-loop-place l = Placing l.placed.items (char_indices_offset l.place-iterator) (char_indices_rest l.place-iterator) (placed_characters l.text)
