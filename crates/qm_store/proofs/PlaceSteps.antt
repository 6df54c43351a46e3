-- Places one behind the other, and the pieces of 256 that they make.
use Rattle.std.proofs.Common.{◌≡◌, ℕ, zero, suc, ◌+◌, ◌-◌, ◌*◌, ◌<◌, ◌≤◌, List, [], ◌∷◌, ◌++◌, drop, length, min, take, refl, ap, sym, ◌∙◌, append_assoc, arith}
use Rattle.std.specs.Int.{w64, to_le_bytes}
use Rattle.std.specs.List.{flat_map, range_with_len}
use Rattle.std.proofs.Math.Seq.{drop-append-add, take-add}
use Rattle.std.proofs.lemmas.Grind.{div_ceil_times}
use Rattle.std.proofs.lemmas.List.{drop_all, length-append, length-drop, length-take, take_min}
use Rattle.qm_store.specs.Pieces.{digest}
use Rattle.qm_store.specs.Places.{piece_count, piece_len, piece_of, piece_sealed, piece_start, pieces_bytes, place_bytes, places_head, places_size, stored_places}
use Rattle.qm_store.specs.declared.document_place.DocumentPlace.{DocumentPlace}

-- ---- places

place-long : (p : DocumentPlace) → length (place_bytes p) ≡ 16
unfolding place_bytes
place-long p = refl

pub length-places : (ps : List DocumentPlace) → length (flat_map place_bytes ps) ≡ length ps * 16
length-places [] = refl
length-places (p ∷ ps) = omega (arith, length-append (place_bytes p) (flat_map place_bytes ps), place-long p, length-places ps)

pub drop-places : (j : ℕ) (ps : List DocumentPlace) → drop (j * 16) (flat_map place_bytes ps) ≡ flat_map place_bytes (drop j ps)
drop-places zero ps = refl
drop-places (suc j) [] = drop_all (suc j * 16) [] (omega arith)
drop-places (suc j) (p ∷ ps) =
    let e : suc j * 16 ≡ length (place_bytes p) + j * 16 = omega (arith, place-long p) in
    (λ i. drop (e i) (place_bytes p ++ flat_map place_bytes ps))
    ∙ drop-append-add (place_bytes p) (flat_map place_bytes ps) (j * 16)
    ∙ drop-places j ps

-- ---- pieces

module _ (key : ℕ) (places : List DocumentPlace) where
  abbrev count : ℕ
  count = length places

  pub length-piece : (k : ℕ) → length (piece_of places k) ≡ piece_len count k
  length-piece k = omega (arith, length-take (piece_len count k) (drop (k * 256) places), length-drop (k * 256) places)

  pub length-sealed : (k : ℕ) → length (piece_sealed key places k) ≡ piece_len count k * 16 + 8
  length-sealed k =
      let bs = flat_map place_bytes (piece_of places k) in
      omega (arith, length-append bs (to_le_bytes w64 (digest key (piece_start k) bs)), length-places (piece_of places k), length-piece k)

  -- so many pieces from one of a number on
  abbrev pub pieces : ℕ → ℕ → List ℕ
  pieces a m = flat_map (piece_sealed key places) (range_with_len a m)

  length-pieces : (a m : ℕ) → length (pieces a m) ≡ (min ((a + m) * 256) count - min (a * 256) count) * 16 + m * 8
  length-pieces a zero = omega arith
  length-pieces a (suc m) =
      omega (arith, length-append (piece_sealed key places a) (pieces (a + 1) m), length-sealed a, length-pieces (a + 1) m)

  -- the pieces before one, that one, and those behind it
  pieces-apart : (a m r mid : ℕ) → a + m ≡ mid → pieces a (m + suc r) ≡ pieces a m ++ (piece_sealed key places mid ++ pieces (mid + 1) r)
  pieces-apart a zero r mid e =
      let here : a ≡ mid = omega (arith, e) in
      let all : zero + suc r ≡ suc r = omega arith in
      λ i. pieces (here i) (all i)
  pieces-apart a (suc m) r mid e =
      let all : suc m + suc r ≡ suc (m + suc r) = omega arith in
      ap (pieces a) all
      ∙ ap (λ l. piece_sealed key places a ++ l) (pieces-apart (a + 1) m r mid (omega (arith, e)))
      ∙ sym (append_assoc (piece_sealed key places a) (pieces (a + 1) m) (piece_sealed key places mid ++ pieces (mid + 1) r))

  pub length-head : length (places_head key count) ≡ 40
  length-head = refl

  -- a piece stands behind those before it
  pub piece-starts : (k : ℕ) → k * 256 ≤ count → length (places_head key count ++ pieces 0 k) ≡ piece_start k
  piece-starts k before =
      omega (arith, length-append (places_head key count) (pieces 0 k), length-head, length-pieces 0 k, before)

  pub piece-within : (k : ℕ) → k < piece_count count → k * 256 < count
  piece-within k some = omega (arith, (div_ceil_times count 256 (omega arith)).1, some)

  -- one piece more
  pub first-piece : (k : ℕ) → k < piece_count count →
      pieces k (piece_count count - k) ≡ piece_sealed key places k ++ pieces (k + 1) (piece_count count - (k + 1))
  first-piece k some =
      let e : piece_count count - k ≡ suc (piece_count count - (k + 1)) = omega (arith, some) in
      ap (pieces k) e

  pub take-piece : (k : ℕ) → take ((k + 1) * 256) places ≡ take (k * 256) places ++ piece_of places k
  take-piece k =
      let more : (k + 1) * 256 ≡ k * 256 + 256 = omega arith in
      let rest = drop (k * 256) places in
      let few : min 256 (length rest) ≡ piece_len count k = omega (arith, length-drop (k * 256) places) in
      ap (λ n. take n places) more ∙ take-add (k * 256) 256 places
      ∙ ap (λ l. take (k * 256) places ++ l) (sym (take_min 256 rest) ∙ ap (λ n. take n rest) few)

  pub pieces-enough : count ≤ piece_count count * 256
  pieces-enough = (div_ceil_times count 256 (omega arith)).0

  pub length-stored : length (stored_places key places) ≡ places_size count
  length-stored =
      omega (arith, length-append (places_head key count) (pieces_bytes key places), length-head, length-pieces 0 (piece_count count), pieces-enough)

  -- the file, around the piece of a number
  pub around-piece : (k : ℕ) → k * 256 < count →
      stored_places key places
      ≡ (places_head key count ++ pieces 0 k) ++ (piece_sealed key places k ++ pieces (k + 1) (piece_count count - (k + 1)))
  around-piece k there =
      let r = piece_count count - (k + 1) in
      let all : piece_count count ≡ k + suc r = omega (arith, pieces-enough, there) in
      ap (λ n. places_head key count ++ pieces 0 n) all
      ∙ ap (λ l. places_head key count ++ l) (pieces-apart 0 k r k (omega arith))
      ∙ sym (append_assoc (places_head key count) (pieces 0 k) (piece_sealed key places k ++ pieces (k + 1) r))
