-- Numbers as bytes: seven bits in each, the lowest first, with the eighth set where more come; nine bytes at most.
use Rattle.std.specs.Prelude.{ℕ, ◌+◌, ◌-◌, ◌*◌, ◌/◌, ◌%◌, nat_lt, if◌then◌else◌, List, [], ◌∷◌, Option, Some, None}
use Rattle.std.proofs.Common.{zero, suc}

-- the bytes of a number: at most so many, and one
abbrev pub number_bytes : ℕ → ℕ → List ℕ
number_bytes zero n = n ∷ []
number_bytes (suc more) n = if nat_lt n 128 then n ∷ [] else (n % 128 + 128) ∷ number_bytes more (n / 128)

-- those of any number below 2^63
abbrev pub spelled : ℕ → List ℕ
spelled n = number_bytes 8 n

-- a number that was read, with the bytes behind it, where a byte of 128 or more stood before it
abbrev pub above : ℕ → Option (ℕ × List ℕ) → Option (ℕ × List ℕ)
above low None = None
above low (Some p) = Some (low - 128 + 128 * p.0, p.1)

-- the number that some bytes begin with, and the bytes behind it
abbrev pub number_at : ℕ → List ℕ → Option (ℕ × List ℕ)
number_at more [] = None
number_at zero (b ∷ bs) = if nat_lt b 128 then Some (b, bs) else None
number_at (suc more) (b ∷ bs) = if nat_lt b 128 then Some (b, bs) else above b (number_at more bs)
