-- Terms with their offsets: why some of them make no phrase, and the order that a query keeps them in.
use Rattle.std.specs.Prelude.{◌≡◌, ℕ, ◌==◌, All, nat_lt, Bool, if◌then◌else◌, List, [], ◌∷◌, Option, None, Some, IsPermutation, length, map}
use Rattle.std.specs.List.{find, list_all}
use Rattle.std.specs.List.Sorted.{IsNonDecreasingBy, IsStableByKey}
use Rattle.std.specs.Option.{option_map}
use Rattle.std.specs.Ordering.{nat_cmp}
use Rattle.qm_schema.specs.Term.{TermKey}
use Rattle.qm_schema.specs.declared.error.QueryError.{QueryError}
use Rattle.qm_schema.specs.declared.error.QueryError.TheVariants.{TooFewTerms, EmptyPrefix, MixedFields, OffsetTooLarge}

-- the terms alone
abbrev pub bare_terms : List (ℕ × TermKey) → List TermKey
bare_terms terms = map (λ t. t.1) terms

-- the field of the first term, `term` being what is the term of an element
abbrev pub first_field : {X : Type 0} → (X → TermKey) → List X → ℕ
first_field term [] = 0
first_field term (x ∷ xs) = (term x).field

-- whether all have it
abbrev pub are_of_one_field : {X : Type 0} → (X → TermKey) → List X → Bool
are_of_one_field term xs = list_all (λ x. (term x).field == first_field term xs) xs

-- terms with their offsets that are all of one field, this one
abbrev pub AreOfField : ℕ → List (ℕ × TermKey) → Type 0
AreOfField field terms = All (λ t. t.1.field ≡ field) terms

-- the same, whatever the field
abbrev pub AreOfOneField : List (ℕ × TermKey) → Type 0
AreOfOneField terms = AreOfField (first_field (λ t. t.1) terms) terms

-- the first offset above 4294967295
abbrev pub too_large_offset : List (ℕ × TermKey) → Option ℕ
too_large_offset terms = option_map (λ t. t.0) (find (λ t. nat_lt 4294967295 t.0) terms)

-- why terms with their offsets make no phrase, whatever their number: their fields differ, or else an
-- offset is too large; None where they make one
abbrev pub terms_refusal : List (ℕ × TermKey) → Option QueryError
terms_refusal terms = if are_of_one_field (λ t. t.1) terms then option_map OffsetTooLarge (too_large_offset terms) else Some MixedFields

-- the same of terms that stand one behind the other, from offset 0 on
abbrev pub row_refusal : List TermKey → Option QueryError
row_refusal terms =
    if are_of_one_field (λ t. t) terms then (if nat_lt 4294967296 (length terms) then Some (OffsetTooLarge 4294967296) else None) else Some MixedFields

-- a phrase wants two terms, a phrase prefix one
abbrev pub with_two : {X : Type 0} → List X → Option QueryError → Option QueryError
with_two terms otherwise = if nat_lt (length terms) 2 then Some TooFewTerms else otherwise

-- the same of no term, where a phrase prefix wants one
abbrev pub with_one : {X : Type 0} → List X → Option QueryError → Option QueryError
with_one terms otherwise = if nat_lt (length terms) 1 then Some EmptyPrefix else otherwise

-- a list by its offsets: terms of one offset stand as they were given
pub record IsByOffset (given sorted : List (ℕ × TermKey)) : Type 0 where
  pub same : IsPermutation given sorted
  pub ascending : IsNonDecreasingBy (λ t. t.0) sorted
  pub stable : IsStableByKey (λ t. t.0) nat_cmp given sorted
