-- Which terms are wanted, by a list of them.
use Rattle.std.specs.Prelude.{Bool, List}
use Rattle.std.specs.List.{list_any}
use Rattle.std.specs.Ordering.{eq_by_cmp}
use Rattle.qm_schema.specs.Term.{TermKey, term_cmp}

-- whether a term is one of these
abbrev pub is_wanted : List TermKey → TermKey → Bool
is_wanted terms t = list_any (eq_by_cmp term_cmp t) terms
