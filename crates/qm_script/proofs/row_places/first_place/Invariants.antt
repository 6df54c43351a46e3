use Rattle.std.proofs.Common.{◌≡◌, ℕ, ◌-◌, ◌<◌, ◌≤◌, get_or, length}
use Rattle.std.specs.declared.cmp.Ordering.TheVariants.{Less}
use Rattle.qm_postings.specs.Numbering.{no_term}
use Rattle.qm_schema.specs.Term.{term_cmp}
use Rattle.qm_script.proofs.FoundRows.{terms_of}
use Rattle.qm_script.proofs.row_places.first_place.Given as goal

-- each row before `low` is of a term that comes before it, and none from `high` on
abbrev pub invariant-loop-low : goal.invariant-loop-low
invariant-loop-low l = record {
  ordered : l.low ≤ l.high;
  within : l.high ≤ length l.segment.rows;
  before : (k : ℕ) → k < l.low → term_cmp (get_or (terms_of l.segment.rows) k no_term) l.term ≡ Less;
  others : (k : ℕ) → l.high ≤ k → k < length (terms_of l.segment.rows) → ¬ (term_cmp (get_or (terms_of l.segment.rows) k no_term) l.term ≡ Less);
}

abbrev pub decreases-loop-low : goal.decreases-loop-low
decreases-loop-low l = l.high - l.low
