-- A set of numbers is a test of each number; its members between two bounds are a list.
use Rattle.std.specs.Prelude.{ℕ, ◌-◌, Bool, List, filter}
use Rattle.std.specs.List.{range_with_len}

-- the members from `low` to below `high`, ascending
unfoldable pub members_between : (ℕ → Bool) → ℕ → ℕ → List ℕ
members_between has low high = filter has (range_with_len low (high - low))
