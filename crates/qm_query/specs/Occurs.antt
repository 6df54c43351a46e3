-- Which clauses are Should clauses.
use Rattle.std.specs.Prelude.{Bool, true, false}
use Rattle.qm_schema.specs.declared.occur.Occur.{Occur}
use Rattle.qm_schema.specs.declared.occur.Occur.TheVariants.{Should, Must, MustNot}

abbrev pub is_should : Occur → Bool
is_should Should = true
is_should Must = false
is_should MustNot = false
