-- Lists of documents that a cursor can be made of.
use Rattle.std.specs.Prelude.{ℕ, ◌<◌, List, All}
use Rattle.std.specs.List.Sorted.{IsStrictlyIncreasing}
use Rattle.qm_docset.specs.declared.numbers.TheConstants.{TERMINATED}

-- strictly ascending, all below TERMINATED
pub record AreDocuments (docs : List ℕ) : Type 0 where
  pub ascending : IsStrictlyIncreasing docs
  pub below_end : All (λ d. d < TERMINATED) docs
