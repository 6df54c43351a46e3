-- A digest has eight bytes.
use Rattle.std.proofs.Common.{ℕ, ◌+◌, ◌*◌, ◌/◌, ◌%◌, ◌^◌, ◌<◌, ◌==◌, Bool, true, false, cond, List, [], ◌∷◌, arith, bit_and, bit_or}
use Rattle.std.specs.Prelude.{bit_xor, fold}
use Rattle.std.specs.Int.{w64, to_le_bytes}
use Rattle.std.specs.Hash.DefaultHasher.{finish, initial, round, wrapping_add, write, write_byte, write_word}
use Rattle.std.specs.declared.hash.DefaultHasher.{DefaultHasher}
use Rattle.std.proofs.lemmas.Nat.{or_lt, shr_le, xor_lt}
use Rattle.qm_store.specs.Pieces.{digest}

-- what a state keeps
record Fits (s : DefaultHasher) : Type 0 where
  one : s.v1 < 2 ^ 64
  three : s.v3 < 2 ^ 64
  tail : s.tail < 2 ^ 64

below : (x : ℕ) → x % 2 ^ 64 < 2 ^ 64
below x = omega arith

added : (x y : ℕ) → wrapping_add x y < 2 ^ 64
added x y = below (x + y)

turned : (n k j : ℕ) → n < 2 ^ 64 → bit_or ((n * 2 ^ k) % 2 ^ 64) (n / 2 ^ j) < 2 ^ 64
turned n k j fits = or_lt 64 ((n * 2 ^ k) % 2 ^ 64) (n / 2 ^ j) (below (n * 2 ^ k)) (omega (arith, shr_le n j, fits))

rounded : (s : DefaultHasher) → Fits s → Fits (round s)
unfolding round
rounded s fits = record {
  one = xor_lt 64 _ _ (turned _ 17 47 (xor_lt 64 _ _ (turned s.v1 13 51 fits.one) (added _ _))) (added _ _);
  three = xor_lt 64 _ _ (turned _ 21 43 (xor_lt 64 _ _ (turned s.v3 16 48 fits.three) (added _ _))) (added _ _);
  tail = fits.tail;
}

with_word : (s : DefaultHasher) (m : ℕ) → Fits s → m < 2 ^ 64 → Fits (write_word s m)
unfolding write_word
with_word s m fits word =
    let t = rounded (record s { v3 = bit_xor s.v3 m }) (record { one = fits.one; three = xor_lt 64 s.v3 m fits.three word; tail = fits.tail }) in
    record { one = t.one; three = t.three; tail = t.tail }

with_one : (s : DefaultHasher) (b : ℕ) → Fits s → Fits (write_byte s b)
unfolding write_byte
with_one s b fits = go (wrapping_add s.length 1 % 8 == 0)
  where
    tail : ℕ
    tail = bit_or s.tail ((b * 2 ^ (8 * (s.length % 8))) % 2 ^ 64)

    whole : tail < 2 ^ 64
    whole = or_lt 64 s.tail ((b * 2 ^ (8 * (s.length % 8))) % 2 ^ 64) fits.tail (below (b * 2 ^ (8 * (s.length % 8))))

    t : DefaultHasher
    t = record s { tail = tail; length = wrapping_add s.length 1 }

    there : Fits t
    there = record { one = fits.one; three = fits.three; tail = whole }

    u : DefaultHasher
    u = write_word t tail

    go : (full : Bool) → Fits (cond full (record u { tail = 0 }) t)
    go true = let f = with_word t tail there whole in record { one = f.one; three = f.three; tail = omega arith }
    go false = there

with_all : (bs : List ℕ) (s : DefaultHasher) → Fits s → Fits (fold write_byte s bs)
with_all [] s fits = fits
with_all (b ∷ bs) s fits = with_all bs (write_byte s b) (with_one s b fits)

begun : Fits initial
unfolding initial
begun = record { one = omega arith; three = omega arith; tail = omega arith }

zeroth : (s : DefaultHasher) → (round s).v0 < 2 ^ 64
unfolding round
zeroth s = added _ _

second : (s : DefaultHasher) → (round s).v2 < 2 ^ 64
unfolding round
second s = turned _ 32 32 (added _ _)

ended : (s : DefaultHasher) → Fits s → finish s < 2 ^ 64
unfolding finish
ended s fits =
    let last = bit_or ((bit_and s.length 255 * 2 ^ 56) % 2 ^ 64) s.tail in
    let t = write_word s last in
    let kept = with_word s last fits (or_lt 64 _ s.tail (below (bit_and s.length 255 * 2 ^ 56)) fits.tail) in
    let w : DefaultHasher = record t { v2 = bit_xor t.v2 255 } in
    let again : Fits w = record { one = kept.one; three = kept.three; tail = kept.tail } in
    let u = rounded (round (round w)) (rounded (round w) (rounded w again)) in
    xor_lt 64 _ _ (xor_lt 64 _ _ (xor_lt 64 _ _ (zeroth (round (round w))) u.one) (second (round (round w)))) u.three

pub digest-fits : (key at : ℕ) (bs : List ℕ) → digest key at bs < 2 ^ 64
unfolding digest write
digest-fits key at bs = ended _ (with_all bs _ (with_all (to_le_bytes w64 at) _ (with_all (to_le_bytes w64 key) initial begun)))
