-- What the text of a query says: a tree. Words and names stand in it as the bytes of their letters.
use Rattle.std.specs.Prelude.{ℕ, List, [], ◌∷◌}
use Rattle.qm_parser.specs.declared.parsed_query.Sign.{Sign}

-- a part of a query that holds no other
pub data Leaf : Type 0 where
  -- `*`
  all : Leaf
  -- `a`
  word : List ℕ → Leaf
  -- `a*`: the beginning of a word
  beginning : List ℕ → Leaf
  -- `"a b"~2`: the text between the quotes, and the slop
  phrase : List ℕ → ℕ → Leaf
  -- `"a b"*`: the text between the quotes, which ends in the beginning of a word
  phrase_beginning : List ℕ → Leaf

mutual
  -- what the text of a query says
  pub data Query : Type 0 where
    -- nothing was typed
    empty : Query
    leaf : Leaf → Query
    -- `name:Q`
    field : List ℕ → Query → Query
    -- `Q^2`
    boost : ℕ → Query → Query
    boolean : Clauses → Query

  -- clauses, each with how it counts
  pub data Clauses : Type 0 where
    no_clause : Clauses
    clause : Sign → Query → Clauses → Clauses

-- a list of clauses
abbrev pub clauses_of : List (Sign × Query) → Clauses
clauses_of [] = no_clause
clauses_of (c ∷ cs) = clause c.0 c.1 (clauses_of cs)
