-- The terms of a phrase as words spell them.
use Rattle.std.specs.Prelude.{◌≤◌}
use Rattle.cases_postings.specs.contracts.own_postings.OwnPostingsDocSet.TheImpl as own
use Rattle.cases_postings.specs.declared.given_terms.GivenTerm.{GivenTerm}
use Rattle.cases_postings.specs.declared.given_terms.GivenTerm.TheVariants.{Own, Equal}

-- at an offset of 32 bits, and a cursor where it has postings of its own
abbrev pub IsGiven : GivenTerm → Type 0
IsGiven (Own offset postings) = own.ghosts.valid postings × (offset ≤ 4294967295)
IsGiven (Equal offset number) = offset ≤ 4294967295
