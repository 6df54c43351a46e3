-- The tokens of a text, with their places.
use Rattle.std.specs.Prelude.{ℕ, zero, suc, if◌then◌else◌, List, [], ◌∷◌, Result, Ok, length}
use Rattle.std.specs.Char.{is_whitespace}
use Rattle.qm_parser.specs.Pieces.{Piece, piece_at}
use Rattle.qm_parser.specs.Reading.{◌>>=◌}
use Rattle.qm_parser.specs.declared.parse_error.Refusal.{Refusal}
use Rattle.qm_parser.specs.declared.place_characters.Character.{Character}

-- a token, and the place of its first byte
pub record Token : Type 0 where
  pub piece : Piece
  pub place : ℕ

-- The tokens of these characters, which white space may stand between; at most so many tokens and
-- characters of white space are read.
unfoldable pub tokens_at : ℕ → List Character → Result (List Token) Refusal
tokens_at zero cs = Ok []
tokens_at (suc n) [] = Ok []
tokens_at (suc n) (c ∷ cs) = if is_whitespace c.letter then tokens_at n cs else (piece_at c (c ∷ cs) >>= λ p.
    tokens_at n p.1 >>= λ ts. Ok (record { piece = p.0; place = c.place } ∷ ts))

-- The tokens of these characters. There are at most as many as characters: each has at least one.
abbrev pub tokens : List Character → Result (List Token) Refusal
tokens cs = tokens_at (length cs) cs
