-- The query that a line spells, as the query layer has it, or why there is none. Words are terms of the one
-- field that a script's documents have, of which frequencies are read. Inner queries come first, in order.
use Rattle.std.specs.Prelude.{◌≡◌, ◌⊎◌, ℕ, nat_abs, nat_lt, if◌then◌else◌, List, [], ◌∷◌, Option, None, Some, Result, Ok, Err, map}
use Rattle.std.specs.List.{enumerate_from}
use Rattle.qm_query.specs.Offsets.{row_refusal, with_two}
use Rattle.qm_query.specs.Parts.{PrefixParts}
use Rattle.qm_query.specs.Query as query
use Rattle.qm_query.specs.Query.{Disjuncts, Query, query_of}
use Rattle.qm_query.specs.declared.any_query.AnyQuery.{AnyQuery}
use Rattle.qm_schema.specs.Term.{TermKey}
use Rattle.qm_schema.specs.declared.error.QueryError.{QueryError}
use Rattle.qm_schema.specs.declared.error.QueryError.TheVariants.{EmptyPrefix, Memory, TieBreaker}
use Rattle.qm_schema.specs.declared.occur.Occur.{Occur}
use Rattle.qm_schema.specs.declared.schema.option.IndexRecordOption.TheVariants.{WithFreqs}
use Rattle.qm_script.specs.Script as spelled
use Rattle.qm_script.specs.Script.{Clauses, Queries, all, none, term, phrase, phrase_prefix, boolean, boost, constant, disjunction_max, no_clause, clause}
use Rattle.qm_script.specs.Script.{no_query, query}
use Rattle.birchagain.specs.Body.{body_term}

-- what is made where no refusal is due
abbrev pub unless : {X : Type 0} → Option QueryError → X → Result X QueryError
unless None x = Ok x
unless (Some due) x = Err due

-- one after the other, as far as the first refusal
infixl 10 ◌>>=◌
abbrev pub ◌>>=◌ : {A B : Type 0} → Result A QueryError → (A → Result B QueryError) → Result B QueryError
Ok x >>= f = f x
Err e >>= f = Err e

-- ---- queries without queries below them

abbrev pub term_asked : List ℕ → Result Query QueryError
term_asked word = Ok (query.term (record { term = body_term word; option = WithFreqs }))

abbrev pub phrase_asked : ℕ → List (List ℕ) → Result Query QueryError
phrase_asked slop words =
    unless (with_two (map body_term words) (row_refusal (map body_term words)))
    (query.phrase (record { terms = enumerate_from 0 (map body_term words); slop = slop }))

-- terms with their offsets, of which the last is the prefix
abbrev pub prefix_parts : ℕ → ℕ × TermKey → List (ℕ × TermKey) → PrefixParts
prefix_parts most t [] = record { terms = []; prefix = t; max_expansions = most }
prefix_parts most t (u ∷ us) = record (prefix_parts most u us) { terms = t ∷ (prefix_parts most u us).terms }

abbrev pub phrase_prefix_asked : ℕ → List (List ℕ) → Result Query QueryError
phrase_prefix_asked most [] = Err EmptyPrefix
phrase_prefix_asked most (w ∷ words) =
    unless (row_refusal (map body_term (w ∷ words))) (query.phrase_prefix (prefix_parts most (0, body_term w) (enumerate_from 1 (map body_term words))))

-- ---- all queries

abbrev pub disjunction_max_asked : ℕ → Disjuncts → Result Query QueryError
disjunction_max_asked tie_breaker disjuncts = if nat_lt 1000 tie_breaker then Err TieBreaker else Ok (query.disjunction_max tie_breaker disjuncts)

abbrev mutual
  -- the query of qm_query that a line spells, or the first refusal of a constructor, inner queries first
  pub asked : spelled.Query → Result Query QueryError
  asked all = Ok query.all
  asked none = Ok query.none
  asked (term word) = term_asked word
  asked (phrase slop words) = phrase_asked slop words
  asked (phrase_prefix most words) = phrase_prefix_asked most words
  asked (boolean minimum clauses) = clauses_asked clauses >>= λ cs. Ok (query.boolean minimum (query.subqueries cs))
  asked (boost factor inner) = asked inner >>= λ q. Ok (query.boost (nat_abs factor) q)
  asked (constant score inner) = asked inner >>= λ q. Ok (query.constant (nat_abs score) q)
  asked (disjunction_max tie_breaker queries) = disjuncts_asked queries >>= λ qs. disjunction_max_asked tie_breaker (query.disjuncts qs)

  pub clauses_asked : Clauses → Result (List (Occur × Query)) QueryError
  clauses_asked no_clause = Ok []
  clauses_asked (clause occur inner clauses) = asked inner >>= λ q. clauses_asked clauses >>= λ cs. Ok ((occur, q) ∷ cs)

  pub disjuncts_asked : Queries → Result (List Query) QueryError
  disjuncts_asked no_query = Ok []
  disjuncts_asked (query inner queries) = asked inner >>= λ q. disjuncts_asked queries >>= λ qs. Ok (q ∷ qs)

-- what a builder answered: what is asked, unless memory ran out
abbrev pub Builds : Result Query QueryError → Result AnyQuery QueryError → Type 0
Builds wanted (Ok q) = wanted ≡ Ok (query_of q)
Builds wanted (Err e) = (e ≡ Memory) ⊎ (wanted ≡ Err e)
