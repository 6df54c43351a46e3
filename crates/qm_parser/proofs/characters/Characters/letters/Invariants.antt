use Rattle.std.proofs.Common.{◌≡◌, None, length, string_bytes}
use Rattle.qm_parser.specs.Cursor.{characters_left}
use Rattle.qm_parser.specs.Letters.{letters_at}
use Rattle.qm_parser.proofs.LetterLemmas.{with_front}
use Rattle.qm_parser.proofs.characters.Characters.letters.Given as goal

abbrev pub invariant-loop-c : goal.invariant-loop-c
invariant-loop-c l = with_front (string_bytes l.letters) (letters_at l.is_quoted l.escape (characters_left l.self)) ≡ letters_at l.is_quoted None (characters_left l.initial.self)

abbrev pub decreases-loop-c : goal.decreases-loop-c
decreases-loop-c l = length (characters_left l.self)
