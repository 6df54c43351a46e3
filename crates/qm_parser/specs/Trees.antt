-- The tree of a text. Its tokens are read one after another, each into the clauses of the innermost
-- parenthesis that is open.
use Rattle.std.specs.Prelude.{ℕ, true, false, nat_lt, if◌then◌else◌, List, [], ◌∷◌, Option, None, Some, Result, Ok, length}
use Rattle.qm_parser.specs.Characters.{placed_characters}
use Rattle.qm_parser.specs.Levels.{Level, add_operand, complete, fresh, join, level_query, nameless, signless}
use Rattle.qm_parser.specs.Pieces.{Piece, and_piece, close_piece, leaf_piece, name_piece, open_piece, or_piece, sign_piece}
use Rattle.qm_parser.specs.Query.{Query, boost, leaf}
use Rattle.qm_parser.specs.Reading.{refused, ◌>>=◌}
use Rattle.qm_parser.specs.Tokens.{Token, tokens}
use Rattle.qm_parser.specs.declared.parse_error.Refusal.{Refusal}
use Rattle.qm_parser.specs.declared.refusal_kind.RefusalKind.TheVariants.{OpenParenthesis, StrayParenthesis, TooDeep}

-- what was read so far: the clauses of the innermost parenthesis that is open, or of the text, and those
-- around it, of which the first is the next
pub record State : Type 0 where
  pub inner : Level
  pub outer : List Level

-- how deep parentheses may stand in one another
abbrev pub most_depth : ℕ
most_depth = 64

-- the query, boosted where there is a boost
abbrev pub boosted : Option ℕ → Query → Query
boosted None q = q
boosted (Some factor) q = boost factor q

-- these clauses inside those
abbrev pub within : Level → List Level → State
within inner outer = record { inner = inner; outer = outer }

-- a `(` at this place
abbrev pub open_level : Level → List Level → ℕ → Result State Refusal
open_level inner outer place =
    if nat_lt (length outer) most_depth then Ok (within (fresh place) (inner ∷ outer)) else refused TooDeep place

-- a `)` at this place: what it ends is a part of the query around
abbrev pub end_level : Level → List Level → Option ℕ → ℕ → Result State Refusal
end_level inner [] factor place = refused StrayParenthesis place
end_level inner (around ∷ outer) factor place = Ok (within (add_operand (boosted factor (level_query inner)) around) outer)

-- the same, where nothing waits before it
abbrev pub close_level : Level → List Level → Option ℕ → ℕ → Result State Refusal
close_level inner outer factor place = complete inner >>= λ u. end_level inner outer factor place

-- what a token at this place does to the clauses
unfoldable pub read_piece : Level → List Level → Piece → ℕ → Result State Refusal
read_piece inner outer (leaf_piece l factor) place = Ok (within (add_operand (boosted factor (leaf l)) inner) outer)
read_piece inner outer (name_piece name) place = nameless inner >>= λ u. Ok (within (record inner { name = Some (name, place) }) outer)
read_piece inner outer (sign_piece sign) place = signless inner >>= λ u. Ok (within (record inner { sign = Some (sign, place) }) outer)
read_piece inner outer and_piece place = join true place inner >>= λ level. Ok (within level outer)
read_piece inner outer or_piece place = join false place inner >>= λ level. Ok (within level outer)
read_piece inner outer open_piece place = open_level inner outer place
read_piece inner outer (close_piece factor) place = close_level inner outer factor place

-- one more token
abbrev pub step : State → Token → Result State Refusal
step state token = read_piece state.inner state.outer token.piece token.place

-- these tokens, one after another
unfoldable pub steps : State → List Token → Result State Refusal
steps state [] = Ok state
steps state (token ∷ ts) = step state token >>= λ next. steps next ts

-- the end of the text
abbrev pub end_text : State → Result Query Refusal
end_text state = complete state.inner >>= λ u. elim state.outer [
  | [] ↦ Ok (level_query state.inner)
  | level ∷ outer ↦ refused OpenParenthesis state.inner.opened
]

-- the tree that tokens say
unfoldable pub tree_of_tokens : List Token → Result Query Refusal
tree_of_tokens ts = steps (within (fresh 0) []) ts >>= end_text

-- The tree that a text says, or why it says none: its first token that isn't one, or else the first
-- token that has no part in a tree.
unfoldable pub tree_of_text : List ℕ → Result Query Refusal
tree_of_text text = tokens (placed_characters text) >>= tree_of_tokens
