-- How queries are typed: their tokens, and the characters of these. The language reads each back from there.
use Rattle.std.specs.Prelude.{◌≡◌, ◌||◌, ◌<◌, ◌≤◌, ◌^◌, ℕ, suc, max, Bool, false, if◌then◌else◌, List, [], ◌∷◌, ◌++◌, Option, None, Some, codes, length}
use Rattle.std.specs.Char.{is_whitespace}
use Rattle.std.specs.Fmt.{decimal}
use Rattle.std.specs.List.{AllByRecursion, flat_map}
use Rattle.std.specs.Str.{IsUtf8, bytes_eq, chars}
use Rattle.qm_parser.specs.Letters.{is_sign}
use Rattle.qm_parser.specs.Pieces.{Piece, and_piece, close_piece, leaf_piece, name_piece, open_piece, or_piece, sign_piece}
use Rattle.qm_parser.specs.Query.{Clauses, Leaf, Query, all, beginning, boolean, boost, clause, empty, field, leaf, no_clause, phrase, phrase_beginning, word}
use Rattle.qm_parser.specs.Trees.{most_depth}
use Rattle.qm_parser.specs.declared.parsed_query.Sign.{Sign}
use Rattle.qm_parser.specs.declared.parsed_query.Sign.TheVariants.{Must, MustNot, Should}

-- ---- the tokens of a query

-- tokens in parentheses, with a boost or none
abbrev pub parenthesised : List Piece → Option ℕ → List Piece
parenthesised ps factor = open_piece ∷ (ps ++ close_piece factor ∷ [])

-- A query that has these tokens, as a part of another, with a boost or none: a word and a phrase stand for
-- themselves, and all else stands in parentheses.
abbrev pub as_operand : Query → List Piece → Option ℕ → List Piece
as_operand (leaf (word w)) ps factor = leaf_piece (word w) factor ∷ []
as_operand (leaf (beginning w)) ps factor = leaf_piece (beginning w) factor ∷ []
as_operand (leaf (phrase text slop)) ps factor = leaf_piece (phrase text slop) factor ∷ []
as_operand (leaf (phrase_beginning text)) ps factor = leaf_piece (phrase_beginning text) factor ∷ []
as_operand (leaf all) ps factor = parenthesised ps factor
as_operand empty ps factor = parenthesised ps factor
as_operand (field name q) ps factor = parenthesised ps factor
as_operand (boost n q) ps factor = parenthesised ps factor
as_operand (boolean cs) ps factor = parenthesised ps factor

-- the token before a clause: none where it should match
abbrev pub sign_pieces : Sign → List Piece
sign_pieces Should = []
sign_pieces Must = sign_piece Must ∷ []
sign_pieces MustNot = sign_piece MustNot ∷ []

abbrev mutual
  -- the tokens of a query
  pub pieces : Query → List Piece
  pieces empty = []
  pieces (leaf l) = leaf_piece l None ∷ []
  pieces (field name q) = name_piece name ∷ as_operand q (pieces q) None
  pieces (boost factor q) = as_operand q (pieces q) (Some factor)
  pieces (boolean cs) = clause_pieces cs

  -- the tokens of clauses
  pub clause_pieces : Clauses → List Piece
  clause_pieces no_clause = []
  clause_pieces (clause sign q cs) = sign_pieces sign ++ (as_operand q (pieces q) None ++ clause_pieces cs)

-- ---- the characters of a query

-- letters, with a `\` before each that is a sign
abbrev pub escaped : List ℕ → List ℕ
escaped [] = []
escaped (c ∷ cs) = if is_sign c then 92 ∷ c ∷ escaped cs else c ∷ escaped cs

-- a text between quotes
abbrev pub quoted : List ℕ → List ℕ
quoted text = 34 ∷ (escaped (chars text) ++ 34 ∷ [])

-- the characters of a word, of a phrase, or of all
abbrev pub leaf_text : Leaf → List ℕ
leaf_text all = 42 ∷ []
leaf_text (word w) = escaped (chars w)
leaf_text (beginning w) = escaped (chars w) ++ 42 ∷ []
leaf_text (phrase text slop) = quoted text ++ 126 ∷ decimal slop
leaf_text (phrase_beginning text) = quoted text ++ 42 ∷ []

-- the characters of a boost, if there is one
abbrev pub boost_text : Option ℕ → List ℕ
boost_text None = []
boost_text (Some factor) = 94 ∷ decimal factor

-- the characters of a token, with a space behind it where none may follow at once
abbrev pub piece_text : Piece → List ℕ
piece_text (leaf_piece l factor) = leaf_text l ++ (boost_text factor ++ 32 ∷ [])
piece_text (name_piece name) = escaped (chars name) ++ 58 ∷ []
piece_text (sign_piece Should) = []
piece_text (sign_piece Must) = 43 ∷ []
piece_text (sign_piece MustNot) = 45 ∷ []
piece_text and_piece = codes "AND "
piece_text or_piece = codes "OR "
piece_text open_piece = 40 ∷ []
piece_text (close_piece factor) = 41 ∷ (boost_text factor ++ 32 ∷ [])

-- the characters of a query: those of its tokens
abbrev pub spelled : Query → List ℕ
spelled q = flat_map piece_text (pieces q)

-- ---- how deep its parentheses stand in one another

-- how deep those of a part of another query do, which stand inside one another as deep as this
abbrev pub operand_depth : Query → ℕ → ℕ
operand_depth (leaf (word w)) depth = 0
operand_depth (leaf (beginning w)) depth = 0
operand_depth (leaf (phrase text slop)) depth = 0
operand_depth (leaf (phrase_beginning text)) depth = 0
operand_depth (leaf all) depth = suc depth
operand_depth empty depth = suc depth
operand_depth (field name q) depth = suc depth
operand_depth (boost n q) depth = suc depth
operand_depth (boolean cs) depth = suc depth

abbrev mutual
  -- how deep those of a query do
  pub query_depth : Query → ℕ
  query_depth empty = 0
  query_depth (leaf l) = 0
  query_depth (field name q) = operand_depth q (query_depth q)
  query_depth (boost factor q) = operand_depth q (query_depth q)
  query_depth (boolean cs) = clauses_depth cs

  -- how deep those of the deepest clause do
  pub clauses_depth : Clauses → ℕ
  clauses_depth no_clause = 0
  clauses_depth (clause sign q cs) = max (operand_depth q (query_depth q)) (clauses_depth cs)

-- ---- what can be typed

-- a word or a name: it isn't empty, and no white space is in it
pub record IsTypedWord (w : List ℕ) : Type 0 where
  pub text : IsUtf8 w
  pub some : 0 < length w
  pub no_space : AllByRecursion (λ c. is_whitespace c ≡ false) (chars w)

-- whether a word is AND, OR, NOT or IN
abbrev pub is_operator : List ℕ → Bool
is_operator w = ((bytes_eq w (codes "AND") || bytes_eq w (codes "OR")) || bytes_eq w (codes "NOT")) || bytes_eq w (codes "IN")

-- a word without white space that is no operator, a phrase of any text, a slop in its range
abbrev pub LeafCanBeTyped : Leaf → Type 0
LeafCanBeTyped all = Unit {0}
LeafCanBeTyped (word w) = IsTypedWord w × (is_operator w ≡ false)
LeafCanBeTyped (beginning w) = IsTypedWord w
LeafCanBeTyped (phrase text slop) = IsUtf8 text × (slop < 2 ^ 32)
LeafCanBeTyped (phrase_beginning text) = IsUtf8 text

-- clauses that are a list of their own: there are some, and not one alone that only should match
abbrev pub AreSeveral : Clauses → Type 0
AreSeveral no_clause = ⊥
AreSeveral (clause Should q no_clause) = ⊥
AreSeveral (clause Should q (clause sign p cs)) = Unit {0}
AreSeveral (clause Must q cs) = Unit {0}
AreSeveral (clause MustNot q cs) = Unit {0}

abbrev mutual
  -- all words of a query can be typed, and its numbers are in their ranges
  pub HasTypedParts : Query → Type 0
  HasTypedParts empty = Unit {0}
  HasTypedParts (leaf l) = LeafCanBeTyped l
  HasTypedParts (field name q) = IsTypedWord name × HasTypedParts q
  HasTypedParts (boost factor q) = (factor < 2 ^ 31) × HasTypedParts q
  HasTypedParts (boolean cs) = AreSeveral cs × HaveTypedParts cs

  -- the same of clauses
  pub HaveTypedParts : Clauses → Type 0
  HaveTypedParts no_clause = Unit {0}
  HaveTypedParts (clause sign q cs) = HasTypedParts q × HaveTypedParts cs

-- its words and numbers can be typed, and it isn't too deep
pub record CanBeTyped (q : Query) : Type 0 where
  pub parts : HasTypedParts q
  pub shallow : query_depth q ≤ most_depth

-- a text that spells a query: its characters are those of the query
pub record Spells (text : List ℕ) (q : Query) : Type 0 where
  pub can_be : CanBeTyped q
  pub is : chars text ≡ spelled q
