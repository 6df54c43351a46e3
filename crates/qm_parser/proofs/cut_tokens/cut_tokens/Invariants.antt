use Rattle.std.proofs.Common.{◌≡◌, ◌-◌, length, map}
use Rattle.qm_parser.proofs.TokenLemmas.{with_tokens}
use Rattle.qm_parser.specs.Cursor.{characters_left}
use Rattle.qm_parser.specs.Tokens.{tokens, tokens_at}
use Rattle.qm_parser.specs.Views.{token_of}
use Rattle.qm_parser.proofs.cut_tokens.cut_tokens.Given as goal

abbrev pub invariant-loop : goal.invariant-loop
invariant-loop l = with_tokens (map token_of l.cut.items) (tokens_at (length l.characters - l.counter) (characters_left l.left)) ≡ tokens l.characters
