-- The characters of a text, with their places.
use Rattle.std.specs.Prelude.{ℕ, ◌+◌, List, [], ◌∷◌, length}
use Rattle.std.specs.Char.{encode_utf8}
use Rattle.std.specs.Str.{chars}
use Rattle.qm_parser.specs.declared.place_characters.Character.{Character}

-- these characters, of which the first has its first byte at this place
abbrev pub placed_from : ℕ → List ℕ → List Character
placed_from place [] = []
placed_from place (c ∷ cs) = record { letter = c; place = place } ∷ placed_from (place + length (encode_utf8 c)) cs

-- the characters of a text, which is bytes
abbrev pub placed_characters : List ℕ → List Character
placed_characters text = placed_from 0 (chars text)
