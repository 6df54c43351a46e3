-- Documents in a row, with the least of each 32 of them, and the least of each 32 of these.
use Rattle.std.specs.Prelude.{◌≡◌, ℕ, ◌≤◌, List, [], ◌∷◌, drop, length, min, take}
use Rattle.qm_docset.specs.declared.numbers.TheConstants.{TERMINATED}
use Rattle.qm_scorer.specs.declared.least_docs.LeastDocs.{LeastDocs}

-- the least of some documents, and the end where there are none
abbrev pub least_of : List ℕ → ℕ
least_of [] = TERMINATED
least_of (d ∷ ds) = min d (least_of ds)

-- the least of each 32 of a row
abbrev pub AreLeasts : List ℕ → List ℕ → Type 0
AreLeasts [] row = row ≡ []
AreLeasts (l ∷ ls) row = (1 ≤ length row) × (l ≡ least_of (take 32 row)) × AreLeasts ls (drop 32 row)

-- both rows of leasts are those of the row below
pub record IsLeastDocs (row : LeastDocs) : Type 0 where
  pub leasts : AreLeasts row.leasts.items row.docs.items
  pub tops : AreLeasts row.tops.items row.leasts.items
