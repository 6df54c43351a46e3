-- What is known of the fields of a schema, which is a list of it: a field's number is its place there.
use Rattle.std.specs.Prelude.{ℕ, Bool, List, Option, nat_eq, refl}
use Rattle.std.specs.List.{position}
use Rattle.std.specs.Cmp.Lexicographic.{pointwise}
use Rattle.std.specs.Coded.{Coded, code_by, coded×, coded_list, coded_option, coded_bool, coded_ℕ}
use Rattle.qm_schema.specs.contracts.schema.option.IndexRecordOption as option
use Rattle.qm_schema.specs.declared.schema.option.IndexRecordOption.{IndexRecordOption}

-- what is known of a field: the bytes of its name, what its postings keep (none where it isn't indexed), whether it
-- keeps a length for each document. A schema is the list of these, and a field's number is its place
pub record FieldFacts : Type 0 where
  pub name : List ℕ
  pub indexed : Option IndexRecordOption
  pub lengths : Bool

-- its code, for a model that is made of schemas
abbrev pub facts_code : Coded FieldFacts
facts_code =
    code_by (List ℕ × (Option IndexRecordOption × Bool)) (coded× (coded_list coded_ℕ) (coded× (coded_option (option.the_row).coded) coded_bool))
    (λ f. (f.name, (f.indexed, f.lengths))) (λ p. record { name = p.0; indexed = p.1.0; lengths = p.1.1 }) (λ _. refl)

-- whether a field has a name, byte for byte
abbrev pub is_named : List ℕ → FieldFacts → Bool
is_named name facts = pointwise nat_eq facts.name name

-- the number of the first field of that name
abbrev pub field_named : List ℕ → List FieldFacts → Option ℕ
field_named name fields = position (is_named name) fields
