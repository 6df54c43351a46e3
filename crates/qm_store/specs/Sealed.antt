-- Bytes in front of their digest; and a small file that is read whole: its first bytes, its body, and last the digest of
-- all bytes before.
use Rattle.std.specs.Prelude.{ℕ, ◌-◌, ◌==◌, nat_lt, if◌then◌else◌, List, ◌++◌, Option, None, Some, Result, Ok, Err, drop, length, ok_or, option_map, take}
use Rattle.std.specs.Int.{w64, from_le_bytes, to_le_bytes}
use Rattle.qm_store.specs.Heads.{headed_as}
use Rattle.qm_store.specs.Pieces.{digest}
use Rattle.qm_store.specs.declared.store_error.StoreError.{StoreError}
use Rattle.qm_store.specs.declared.store_error.StoreError.TheVariants.{Damaged}

-- bytes that stand at a place, and behind them their digest
abbrev pub sealed_at : ℕ → ℕ → List ℕ → List ℕ
sealed_at key at bs = bs ++ to_le_bytes w64 (digest key at bs)

-- bytes, and behind them the digest of those from a place on
abbrev pub sealed_from : ℕ → ℕ → List ℕ → List ℕ
sealed_from key at bs = bs ++ to_le_bytes w64 (digest key at (drop at bs))

-- a whole file, and behind it its digest
abbrev pub sealed : ℕ → List ℕ → List ℕ
sealed key bs = sealed_at key 0 bs

-- bytes that stand at a place, where these eight are their digest
abbrev pub sealed_by : ℕ → ℕ → List ℕ → List ℕ → Option (List ℕ)
sealed_by key at last bs = if digest key at bs == from_le_bytes w64 last then Some bs else None

-- what stands at a place in front of its digest, the last eight of these bytes
abbrev pub unsealed : ℕ → ℕ → List ℕ → Option (List ℕ)
unsealed key at bs = if nat_lt (length bs) 8 then None else sealed_by key at (drop (length bs - 8) bs) (take (length bs - 8) bs)

-- the body of a file, where its last eight bytes are the digest of all before
abbrev pub body_in : ℕ → List ℕ → Option (List ℕ)
body_in key file = if nat_lt (length file) 24 then None else option_map (λ bs. drop 16 bs) (unsealed key 0 file)

-- what the bytes that were read tell, and damaged where they tell nothing
abbrev pub told_by : {A B : Type 0} → Result A StoreError → (A → Option B) → Result B StoreError
told_by (Ok x) told = ok_or (told x) Damaged
told_by (Err e) told = Err e

-- the body of a file of a kind
abbrev pub body_of : List ℕ → ℕ → List ℕ → Result (List ℕ) StoreError
body_of kind key file = told_by (headed_as kind file) (body_in key)
