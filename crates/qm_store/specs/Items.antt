-- Things of one kind as bytes, one behind the other, with their number in front.
use Rattle.std.specs.Prelude.{ℕ, nat_le, if◌then◌else◌, List, [], ◌∷◌, ◌++◌, Option, None, Some, drop, length, take}
use Rattle.std.proofs.Common.{zero, suc}
use Rattle.std.specs.List.{flat_map}
use Rattle.qm_store.specs.Numbers.{number_at, spelled}
use Rattle.qm_store.specs.RowBytes.{followed_by}

-- things, and their number in front
abbrev pub counted : {A : Type 0} → (A → List ℕ) → List A → List ℕ
counted spell xs = spelled (length xs) ++ flat_map spell xs

-- some things, with so many more that some bytes begin with, each read by those before it; and the bytes behind them
unfoldable pub items_at : {A : Type 0} → (List A → List ℕ → Option (A × List ℕ)) → ℕ → List A → List ℕ → Option (List A × List ℕ)
items_at read zero front bs = Some (front, bs)
items_at read (suc count) front bs = followed_by (read front bs) (λ x rest. items_at read count (front ++ x ∷ []) rest)

-- so many things that some bytes begin with, each read by itself
abbrev pub each_at : {A : Type 0} → (List ℕ → Option (A × List ℕ)) → ℕ → List ℕ → Option (List A × List ℕ)
each_at read count bs = items_at (λ front rest. read rest) count [] bs

-- a number that four bytes have room for, and the bytes behind it
abbrev pub fitting : ℕ → List ℕ → Option (ℕ × List ℕ)
fitting n rest = if nat_le n 4294967295 then Some (n, rest) else None

abbrev pub small_at : List ℕ → Option (ℕ × List ℕ)
small_at bs = followed_by (number_at 8 bs) fitting

-- ---- bytes, and how many they are

abbrev pub counted_bytes : List ℕ → List ℕ
counted_bytes bs = spelled (length bs) ++ bs

-- so many bytes, and those behind them
abbrev pub parted_at : ℕ → List ℕ → Option (List ℕ × List ℕ)
parted_at count bs = if nat_le count (length bs) then Some (take count bs, drop count bs) else None

abbrev pub bytes_at : List ℕ → Option (List ℕ × List ℕ)
bytes_at bs = followed_by (number_at 8 bs) parted_at
