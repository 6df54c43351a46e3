-- Numbers of eight bytes, and of four, the lowest first.
use Rattle.std.specs.Prelude.{ℕ, nat_lt, if◌then◌else◌, List, Option, None, Some, drop, length, take}
use Rattle.std.specs.Int.{Width, w32, w64, from_le_bytes}

-- the number of so many bytes that some bytes begin with, and the bytes behind it
abbrev pub fixed_at : Width → ℕ → List ℕ → Option (ℕ × List ℕ)
fixed_at w size bs = if nat_lt (length bs) size then None else Some (from_le_bytes w (take size bs), drop size bs)

-- that of eight bytes
abbrev pub word_at : List ℕ → Option (ℕ × List ℕ)
word_at bs = fixed_at w64 8 bs

-- and that of four
abbrev pub half_at : List ℕ → Option (ℕ × List ℕ)
half_at bs = fixed_at w32 4 bs
