-- The fields of a script's documents.
use Rattle.std.specs.Prelude.{List}
use Rattle.qm_schema.specs.Schema.{FieldFacts}
use Rattle.birchagain.specs.Body.{body_fields}

-- one field, indexed with positions, with lengths
abbrev pub script_fields : List FieldFacts
script_fields = body_fields
