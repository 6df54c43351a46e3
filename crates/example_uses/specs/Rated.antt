-- What documents are rated.
use Rattle.std.specs.Prelude.{ℕ, ◌≤◌, List, min, slice_get, unwrap_or}
use Rattle.std.proofs.Common.{arith}

-- the greatest rating that counts
abbrev pub most_rated : ℕ
most_rated = 100

-- what a document is rated: 0 where the ratings end before it
abbrev pub rating : List ℕ → ℕ → ℕ
rating ratings document = min most_rated (unwrap_or (slice_get ratings document) 0)

pub rating-le : (ratings : List ℕ) (document : ℕ) → rating ratings document ≤ most_rated
rating-le ratings document = omega arith
