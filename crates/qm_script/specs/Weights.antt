-- What words weigh.
use Rattle.std.specs.Prelude.{◌≡◌, ℕ}
use Rattle.std.specs.FinMap.{FinMap, get}
use Rattle.std.specs.List.{range_with_len}
use Rattle.qm_postings.specs.Statistics.{Searched}
use Rattle.qm_schema.specs.Term.{TermKey, term_cmp}
use Rattle.qm_script.specs.ProgramNumbers.{ungiven_weight}

-- A searcher that weighs words as a script says, and a length by the number of its words.
pub record IsWeighedBy (weights : FinMap term_cmp ℕ) (searched : Searched) : Type 0 where
  pub given : (q : TermKey) → get searched.weights q ≡ get weights q
  pub others : searched.default_weight ≡ ungiven_weight
  pub norms : searched.norms ≡ range_with_len 0 256
