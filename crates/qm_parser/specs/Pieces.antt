-- The tokens of a query, and how each is read.
use Rattle.std.specs.Prelude.{ℕ, Bool, true, false, ◌==◌, ◌||◌, if◌then◌else◌, List, Option, None, Some, Result, Ok, codes, drop}
use Rattle.std.specs.Str.{bytes_eq}
use Rattle.qm_parser.specs.Letters.{letters_at}
use Rattle.qm_parser.specs.Numbers.{boost_at, slop_at}
use Rattle.qm_parser.specs.Query.{Leaf, all, beginning, phrase, phrase_beginning, word}
use Rattle.qm_parser.specs.Reading.{refused, ◌>>=◌}
use Rattle.qm_parser.specs.Signs.{begins, end_at, gap_follows, is_apart, is_range_sign, misplaced, sign_at}
use Rattle.qm_parser.specs.declared.parse_error.Refusal.{Refusal}
use Rattle.qm_parser.specs.declared.parsed_query.Sign.{Sign}
use Rattle.qm_parser.specs.declared.parsed_query.Sign.TheVariants.{Must, MustNot}
use Rattle.qm_parser.specs.declared.place_characters.Character.{Character}
use Rattle.qm_parser.specs.declared.refusal_kind.RefusalKind.TheVariants.{AnyValue, FieldWithoutValue, OpenQuote, Set, SignWithoutClause, Wildcard}

pub data Piece : Type 0 where
  -- a word, a phrase or `*`, and the boost behind it
  leaf_piece : Leaf → Option ℕ → Piece
  -- `name:`
  name_piece : List ℕ → Piece
  -- `+`, `-` or `NOT`
  sign_piece : Sign → Piece
  -- `AND`
  and_piece : Piece
  -- `OR`
  or_piece : Piece
  -- `(`
  open_piece : Piece
  -- `)`, and the boost behind it
  close_piece : Option ℕ → Piece

-- what reads a token from the front of some characters, and leaves those behind it
abbrev pub PieceReader : Type 0
PieceReader = List Character → Result (Piece × List Character) Refusal

-- a part of a query, and the boost behind it
unfoldable pub boosted_leaf : Leaf → PieceReader
boosted_leaf l cs = do
  b ← boost_at cs
  Ok (leaf_piece l b.0, b.1)

-- a part of a query whose last sign, a star, stands at this place
unfoldable pub leaf_behind_star : Leaf → ℕ → PieceReader
leaf_behind_star l star cs = if is_apart cs then boosted_leaf l cs else refused Wildcard star

-- a sign at this place, which its clause follows at once
unfoldable pub signed : Sign → ℕ → PieceReader
signed sign place cs = if gap_follows (drop 1 cs) then refused SignWithoutClause place else Ok (sign_piece sign, drop 1 cs)

-- `"a b"` with a star behind it, or without one
abbrev pub phrase_with_star : List ℕ → Option ℕ × List Character → Result (Piece × List Character) Refusal
phrase_with_star text (Some star, cs) = leaf_behind_star (phrase_beginning text) star cs
phrase_with_star text (None, cs) = boosted_leaf (phrase text 0) cs

-- `"a b"` with a slop behind it, or without one
abbrev pub phrase_with_slop : List ℕ → Option ℕ × List Character → Result (Piece × List Character) Refusal
phrase_with_slop text (Some place, cs) = do
  slop ← slop_at place cs
  boosted_leaf (phrase text slop.0) slop.1
phrase_with_slop text (None, cs) = phrase_with_star text (sign_at 42 cs)

-- what stands behind a phrase, whose text this is
unfoldable pub behind_quote : List ℕ → PieceReader
behind_quote text cs = phrase_with_slop text (sign_at 126 cs)

-- a phrase of this text, from its last quote on
abbrev pub ended_phrase : List ℕ → ℕ → Option ℕ × List Character → Result (Piece × List Character) Refusal
ended_phrase text place (Some quote, cs) = behind_quote text cs
ended_phrase text place (None, cs) = refused OpenQuote place

-- the phrase whose first quote is at this place
unfoldable pub phrase_at : ℕ → PieceReader
phrase_at place cs = do
  text ← letters_at true None (drop 1 cs)
  ended_phrase text.0 place (sign_at 34 text.1)

-- the name of a field at this place, behind its `:`
unfoldable pub behind_name : List ℕ → ℕ → PieceReader
behind_name name place cs =
    if begins 42 cs then refused AnyValue place
    else if gap_follows cs then refused FieldWithoutValue place
    else Ok (name_piece name, cs)

-- a word at this place with neither a `:` nor a `*` behind it
unfoldable pub plain_word : List ℕ → ℕ → PieceReader
plain_word w place cs =
    if bytes_eq w (codes "AND") then (end_at cs >>= λ u. Ok (and_piece, cs))
    else if bytes_eq w (codes "OR") then (end_at cs >>= λ u. Ok (or_piece, cs))
    else if bytes_eq w (codes "NOT") then (end_at cs >>= λ u. Ok (sign_piece MustNot, cs))
    else if bytes_eq w (codes "IN") then refused Set place
    else boosted_leaf (word w) cs

-- a word at this place with no `:` behind it, and with a star behind it, or without one
abbrev pub word_with_star : List ℕ → ℕ → Option ℕ × List Character → Result (Piece × List Character) Refusal
word_with_star w place (Some star, cs) = leaf_behind_star (beginning w) star cs
word_with_star w place (None, cs) = plain_word w place cs

-- a word at this place with a `:` behind it, or without one
abbrev pub word_with_colon : List ℕ → ℕ → Option ℕ × List Character → Result (Piece × List Character) Refusal
word_with_colon w place (Some colon, cs) = behind_name w place cs
word_with_colon w place (None, cs) = word_with_star w place (sign_at 42 cs)

-- the word at this place, the name of a field, or an operator
unfoldable pub word_at : ℕ → PieceReader
word_at place cs = do
  w ← letters_at false None cs
  word_with_colon w.0 place (sign_at 58 w.1)

-- whether no token begins with this: `^`, `~`, `?`, `:`, `/`, or a sign of ranges
abbrev pub begins_nothing : ℕ → Bool
begins_nothing c = (c == 94) || ((c == 126) || ((c == 63) || ((c == 58) || ((c == 47) || is_range_sign c))))

-- the token that begins with this character, the first of these
unfoldable pub piece_at : Character → PieceReader
piece_at c cs =
    if c.letter == 40 then Ok (open_piece, drop 1 cs)
    else if c.letter == 41 then (boost_at (drop 1 cs) >>= λ b. Ok (close_piece b.0, b.1))
    else if c.letter == 43 then signed Must c.place cs
    else if c.letter == 45 then signed MustNot c.place cs
    else if c.letter == 34 then phrase_at c.place cs
    else if c.letter == 42 then leaf_behind_star all c.place (drop 1 cs)
    else if begins_nothing c.letter then refused (misplaced c.letter) c.place
    else word_at c.place cs
