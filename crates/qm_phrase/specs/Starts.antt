-- Where a phrase begins in a document. Each term has a set of places: its positions, shifted so that
-- the terms of a phrase without gaps stand on one place.
use Rattle.std.specs.Prelude.{ℕ, ◌+◌, nat_le, min, Bool, ◌&&◌, List}
use Rattle.std.specs.List.{count_by, list_all, list_any, range_with_len}
use Rattle.qm_postings.specs.Positions.{is_in}

-- whether a set has a place from x to x + slop
abbrev pub has_near : ℕ → ℕ → List ℕ → Bool
has_near slop x s = list_any (λ q. nat_le x q && nat_le q (x + slop)) s

-- whether some set has the place
abbrev pub is_place : List (List ℕ) → ℕ → Bool
is_place sets x = list_any (λ s. is_in x s) sets

-- a start: a place of some term, from which on every term has one within the slop
abbrev pub is_start : ℕ → List (List ℕ) → ℕ → Bool
is_start slop sets x = is_place sets x && list_all (λ s. has_near slop x s) sets

-- the number of starts below a number
unfoldable pub starts_below : ℕ → List (List ℕ) → ℕ → ℕ
starts_below slop sets n = count_by (λ x. is_start slop sets x) (range_with_len 0 n)

-- past every position plus every shift
abbrev pub all_places : ℕ
all_places = 8589934592

-- the number of starts
unfoldable pub starts : ℕ → List (List ℕ) → ℕ
starts slop sets = starts_below slop sets all_places

-- the number of starts as it is answered: at most 4294967295
abbrev pub starts_held : ℕ → List (List ℕ) → ℕ
starts_held slop sets = min 4294967295 (starts slop sets)
