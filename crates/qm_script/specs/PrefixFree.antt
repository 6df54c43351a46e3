-- Queries whose phrase prefixes pass a test, as those without any. What a query without a prefix says of a document is
-- to be read in that document alone; a prefix is expanded to terms of other documents of the segment too.
use Rattle.std.specs.Prelude.{ℕ, Bool, true, ◌&&◌}
use Rattle.qm_schema.specs.Term.{TermKey}
use Rattle.qm_weight.specs.Tree.{Tree, Clauses, all, none, term, phrase, phrase_prefix, boolean, boost, constant, clause, no_clause}

-- a test of a prefix, and of the most terms that it is expanded to
abbrev pub PrefixTest : Type 0
PrefixTest = TermKey → ℕ → Bool

abbrev mutual
  -- whether each phrase prefix anywhere in the tree passes it
  pub all_prefixes : PrefixTest → Tree → Bool
  all_prefixes test all = true
  all_prefixes test none = true
  all_prefixes test (term t option weight) = true
  all_prefixes test (phrase terms slop weight) = true
  all_prefixes test (phrase_prefix full prefix most weight) = test prefix.term most
  all_prefixes test (boolean scoring minimum combiner clauses) = clauses_all_prefixes test clauses
  all_prefixes test (boost k inside) = all_prefixes test inside
  all_prefixes test (constant s inside) = all_prefixes test inside

  -- whether each in any of the clauses does
  pub clauses_all_prefixes : PrefixTest → Clauses → Bool
  clauses_all_prefixes test no_clause = true
  clauses_all_prefixes test (clause occur inside clauses) = all_prefixes test inside && clauses_all_prefixes test clauses
