-- Which query of the language of scripts a typed one says. Its words are taken letter by letter.
use Rattle.std.specs.Prelude.{ℕ, Bool, true, false, ◌||◌, List, [], ◌∷◌, pos}
use Rattle.qm_parser.specs.Query as typed
use Rattle.qm_parser.specs.declared.parsed_query.Sign.{Sign}
use Rattle.qm_parser.specs.declared.parsed_query.Sign.TheVariants as sign
use Rattle.qm_postings.specs.Document.{words_of}
use Rattle.qm_schema.specs.declared.occur.Occur.{Occur}
use Rattle.qm_schema.specs.declared.occur.Occur.TheVariants.{Must, MustNot, Should}
use Rattle.qm_script.specs.Script.{Clauses, Query, all, boolean, boost, clause, no_clause, none, phrase, phrase_prefix, term}

-- how many words the beginning of one goes on to at most: as many as a query can say, so all
abbrev pub most_expansions : ℕ
most_expansions = 4294967295

-- words behind one another: two at least are a phrase, one alone is that word, and none find nothing
abbrev pub words_query : ℕ → List (List ℕ) → Query
words_query slop [] = none
words_query slop (w ∷ []) = term w
words_query slop (w ∷ v ∷ words) = phrase slop (w ∷ v ∷ words)

-- the same, where the last is the beginning of a word; none find nothing
abbrev pub beginning_query : List (List ℕ) → Query
beginning_query [] = none
beginning_query (w ∷ words) = phrase_prefix most_expansions (w ∷ words)

-- all, a word, the beginning of one, and the words of the text between quotes, which ASCII spaces part
abbrev pub leaf_query : typed.Leaf → Query
leaf_query typed.all = all
leaf_query (typed.word w) = term w
leaf_query (typed.beginning w) = beginning_query (w ∷ [])
leaf_query (typed.phrase text slop) = words_query slop (words_of text)
leaf_query (typed.phrase_beginning text) = beginning_query (words_of text)

-- how a clause with this sign occurs
abbrev pub occur_of : Sign → Occur
occur_of sign.Should = Should
occur_of sign.Must = Must
occur_of sign.MustNot = MustNot

abbrev mutual
  -- the query that a typed one says, form by form; what is asked of a field is asked of the one that documents have
  pub said_query : typed.Query → Query
  said_query typed.empty = none
  said_query (typed.leaf l) = leaf_query l
  said_query (typed.field name q) = said_query q
  said_query (typed.boost factor q) = boost (pos factor) (said_query q)
  said_query (typed.boolean clauses) = boolean 0 (said_clauses clauses)

  -- the same of clauses
  pub said_clauses : typed.Clauses → Clauses
  said_clauses typed.no_clause = no_clause
  said_clauses (typed.clause s q clauses) = clause (occur_of s) (said_query q) (said_clauses clauses)

abbrev mutual
  -- whether a field is named in a typed query, which is refused
  pub names_field : typed.Query → Bool
  names_field typed.empty = false
  names_field (typed.leaf l) = false
  names_field (typed.field name q) = true
  names_field (typed.boost factor q) = names_field q
  names_field (typed.boolean clauses) = have_field clauses

  -- or in some of its clauses
  pub have_field : typed.Clauses → Bool
  have_field typed.no_clause = false
  have_field (typed.clause s q clauses) = names_field q || have_field clauses
