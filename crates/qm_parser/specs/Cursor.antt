-- What is left of the characters of a text.
use Rattle.std.specs.Prelude.{List, drop}
use Rattle.qm_parser.specs.declared.characters.Characters.{Characters}
use Rattle.qm_parser.specs.declared.place_characters.Character.{Character}

-- those that were not read yet
abbrev pub characters_left : Characters → List Character
characters_left c = drop c.next c.characters.now
