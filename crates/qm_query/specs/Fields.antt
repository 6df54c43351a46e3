-- What queries ask of the fields of their terms.
use Rattle.std.specs.Prelude.{ℕ, Bool, true, false, ◌&&◌, ◌==◌, if◌then◌else◌, List, Option, None, Some, is_none, is_some, length, slice_get}
use Rattle.qm_schema.specs.Option.{has_positions}
use Rattle.qm_schema.specs.Schema.{FieldFacts}
use Rattle.qm_schema.specs.Term.{TermKey}
use Rattle.qm_schema.specs.declared.error.QueryError.{QueryError}
use Rattle.qm_schema.specs.declared.error.QueryError.TheVariants.{UnknownField, NotIndexed, NoPositions}
use Rattle.qm_schema.specs.declared.schema.option.IndexRecordOption.{IndexRecordOption}
use Rattle.qm_query.specs.Offsets.{first_field}
use Rattle.qm_query.specs.Query.{Query, Subqueries, Disjuncts, all, none, term, phrase, phrase_prefix, boolean, boost, constant, disjunction_max, no_subquery}
use Rattle.qm_query.specs.Query.{subquery, no_disjunct, disjunct}

-- ---- one field

abbrev pub refusal_without_index : Option FieldFacts → Option QueryError
refusal_without_index None = Some UnknownField
refusal_without_index (Some facts) = if is_some facts.indexed then None else Some NotIndexed

abbrev pub indexes_positions : Option IndexRecordOption → Bool
indexes_positions None = false
indexes_positions (Some option) = has_positions option

abbrev pub refusal_without_positions : Option FieldFacts → Option QueryError
refusal_without_positions None = Some UnknownField
refusal_without_positions (Some facts) = if indexes_positions facts.indexed then None else Some NoPositions

-- why a term, or a prefix alone, can't be looked for in a field; None where it can
abbrev pub term_field_refusal : List FieldFacts → ℕ → Option QueryError
term_field_refusal fields field = refusal_without_index (slice_get fields field)

-- why a phrase can't
abbrev pub phrase_field_refusal : List FieldFacts → ℕ → Option QueryError
phrase_field_refusal fields field = refusal_without_positions (slice_get fields field)

-- why a phrase prefix can't; without full terms it is a prefix alone
abbrev pub prefix_field_refusal : List FieldFacts → List (ℕ × TermKey) → ℕ → Option QueryError
prefix_field_refusal fields terms field = if length terms == 0 then term_field_refusal fields field else phrase_field_refusal fields field

-- ---- all fields of a query

abbrev mutual
  -- whether every field that the query asks of serves it, also below a MustNot
  pub is_served : List FieldFacts → Query → Bool
  is_served fields all = true
  is_served fields none = true
  is_served fields (term t) = is_none (term_field_refusal fields t.term.field)
  is_served fields (phrase p) = is_none (phrase_field_refusal fields (first_field (λ t. t.1) p.terms))
  is_served fields (phrase_prefix p) = is_none (prefix_field_refusal fields p.terms p.prefix.1.field)
  is_served fields (boolean minimum clauses) = are_clauses_served fields clauses
  is_served fields (boost factor inside) = is_served fields inside
  is_served fields (constant score inside) = is_served fields inside
  is_served fields (disjunction_max tie_breaker disjuncts) = are_disjuncts_served fields disjuncts

  pub are_clauses_served : List FieldFacts → Subqueries → Bool
  are_clauses_served fields no_subquery = true
  are_clauses_served fields (subquery occur query clauses) = is_served fields query && are_clauses_served fields clauses

  pub are_disjuncts_served : List FieldFacts → Disjuncts → Bool
  are_disjuncts_served fields no_disjunct = true
  are_disjuncts_served fields (disjunct query disjuncts) = is_served fields query && are_disjuncts_served fields disjuncts
