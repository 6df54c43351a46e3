-- Why there is no weight of a query: want of memory, or what the first leaf says that is refused, in the
-- order of the clauses. Of a leaf the field comes before the provider, which is asked with scoring on alone.
use Rattle.std.specs.Prelude.{◌≡◌, ℕ, ◌<◌, ◌⊎◌, IsTrue, List, [], ◌∷◌, Option, None, Some, length}
use Rattle.qm_postings.specs.declared.statistics.Bm25StatisticsProvider.{Ghosts}
use Rattle.qm_schema.specs.Term.{TermKey}
use Rattle.qm_schema.specs.declared.error.QueryError.{QueryError}
use Rattle.qm_schema.specs.declared.error.QueryError.TheVariants.{Memory}
use Rattle.qm_query.specs.EnableScoring.{schema_of}
use Rattle.qm_query.specs.Fields.{is_served, phrase_field_refusal, prefix_field_refusal, term_field_refusal}
use Rattle.qm_query.specs.Offsets.{first_field, bare_terms}
use Rattle.qm_query.specs.Parts.{PrefixParts}
use Rattle.qm_query.specs.Query.{Query, Subqueries, Disjuncts, all, none, term, phrase, phrase_prefix, boolean, boost, constant, disjunction_max, no_subquery}
use Rattle.qm_query.specs.Query.{subquery, no_disjunct, disjunct}
use Rattle.qm_query.specs.declared.enable_scoring.EnableScoring.{EnableScoring}
use Rattle.qm_query.specs.declared.enable_scoring.EnableScoring.TheVariants.{Enabled, Disabled}

-- the refusal that is due for a field, and where none is, one that the provider may answer
abbrev pub IsLeafRefusal : Option QueryError → (QueryError → Type 0) → QueryError → Type 0
IsLeafRefusal (Some due) by_provider error = error ≡ due
IsLeafRefusal None by_provider error = by_provider error

module _ {P : Type 0} (S : Ghosts P) where
  -- the provider may refuse these terms so
  abbrev pub IsByProvider : EnableScoring P → List TermKey → QueryError → Type 0
  IsByProvider (Enabled searcher provider) terms error = S.may_refuse provider.now terms error
  IsByProvider (Disabled schema searcher) terms error = ⊥

module _ {P : Type 0} (S : Ghosts P) (under : EnableScoring P) where
  -- a prefix alone weighs nothing, so no provider is asked
  abbrev pub IsPrefixByProvider : List (ℕ × TermKey) → QueryError → Type 0
  IsPrefixByProvider terms error = (0 < length terms) × IsByProvider S under (bare_terms terms) error

  -- a phrase of these terms is refused so: its field has to serve a phrase
  abbrev pub IsPhraseRefusal : ℕ → List TermKey → QueryError → Type 0
  IsPhraseRefusal field terms error = IsLeafRefusal (phrase_field_refusal (schema_of under) field) (IsByProvider S under terms) error

  -- a phrase with a prefix behind its full terms is refused so, or for want of memory
  abbrev pub IsFullPrefixRefusal : PrefixParts → QueryError → Type 0
  IsFullPrefixRefusal parts error = (error ≡ Memory) ⊎ IsPhraseRefusal parts.prefix.1.field (bare_terms parts.terms) error

  abbrev mutual
    -- a leaf of the query is refused so, and the fields of all leaves before it serve
    pub IsRefused : Query → QueryError → Type 0
    IsRefused all error = ⊥
    IsRefused none error = ⊥
    IsRefused (term q) error = IsLeafRefusal (term_field_refusal (schema_of under) q.term.field) (IsByProvider S under (q.term ∷ [])) error
    IsRefused (phrase q) error = IsPhraseRefusal (first_field (λ t. t.1) q.terms) (bare_terms q.terms) error
    IsRefused (phrase_prefix q) error =
        IsLeafRefusal (prefix_field_refusal (schema_of under) q.terms q.prefix.1.field) (IsPrefixByProvider q.terms) error
    IsRefused (boolean minimum clauses) error = IsClauseRefused clauses error
    IsRefused (boost factor inside) error = IsRefused inside error
    IsRefused (constant score inside) error = IsRefused inside error
    IsRefused (disjunction_max tie_breaker disjuncts) error = IsDisjunctRefused disjuncts error

    pub IsClauseRefused : Subqueries → QueryError → Type 0
    IsClauseRefused no_subquery error = ⊥
    IsClauseRefused (subquery occur query clauses) error =
        IsRefused query error ⊎ (IsTrue (is_served (schema_of under) query) × IsClauseRefused clauses error)

    pub IsDisjunctRefused : Disjuncts → QueryError → Type 0
    IsDisjunctRefused no_disjunct error = ⊥
    IsDisjunctRefused (disjunct query disjuncts) error =
        IsRefused query error ⊎ (IsTrue (is_served (schema_of under) query) × IsDisjunctRefused disjuncts error)

  -- the weight of a query is refused so
  abbrev pub IsWeightRefusal : Query → QueryError → Type 0
  IsWeightRefusal query error = (error ≡ Memory) ⊎ IsRefused query error
