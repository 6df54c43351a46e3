-- A file of places that was written opens, and tells where each document stands.
use Rattle.std.proofs.Common.{◌≡◌, ℕ, suc, ◌+◌, ◌-◌, ◌*◌, ◌/◌, ◌%◌, ◌^◌, ◌<◌, ◌==◌, not, cond, List, [], ◌++◌, drop, get_or, length, take, Option, None, Some, Result, Ok, Err, refl, ap, sym, ◌∙◌, append-nil, arith}
use Rattle.std.specs.Prelude.{All, ok_or, option_and_then, option_map}
use Rattle.std.specs.Int.{w32, w64, to_le_bytes}
use Rattle.std.specs.List.{flat_map}
use Rattle.std.proofs.Math.Seq.{drop-cons, take-append_seam}
use Rattle.std.proofs.lemmas.Bool.{eq-eqb, le-ltb}
use Rattle.std.proofs.lemmas.List.{get_or-drop, get_or-take}
use Rattle.std.proofs.lemmas.List.Elements.{All-drop, All-take}
use Rattle.qm_store.specs.Ends.{ended_by}
use Rattle.qm_store.specs.Heads.{head_bytes, headed_as}
use Rattle.qm_store.specs.Pieces.{part_at}
use Rattle.qm_store.specs.Places.{IsPlace, documents_in, piece_count, piece_len, piece_of, piece_read, piece_sealed, piece_start, pieces_bytes, place_at, place_bytes, place_of, place_read, places_head, places_kind, places_opened, places_size, stored_places}
use Rattle.qm_store.specs.RowBytes.{followed_by}
use Rattle.qm_store.specs.Sealed.{body_in, body_of, sealed, told_by, unsealed}
use Rattle.qm_store.specs.Words.{half_at, word_at}
use Rattle.qm_store.specs.declared.document_place.DocumentPlace.{DocumentPlace}
use Rattle.qm_store.specs.declared.store_error.StoreError.{StoreError}
use Rattle.qm_store.specs.declared.store_error.StoreError.TheVariants.{Damaged, OtherFile}
use Rattle.qm_store.proofs.PiecesRead.{half-read, part-there, word-read}
use Rattle.qm_store.proofs.PlaceSteps.{around-piece, drop-places, length-head, length-piece, length-sealed, length-stored, piece-starts, pieces}
use Rattle.qm_store.proofs.SealedRead.{body-sealed, unsealed-sealed}

-- ---- a place

place-read : (p : DocumentPlace) (rest : List ℕ) → IsPlace p → place_at (place_bytes p ++ rest) ≡ Some (p, rest)
unfolding place_at place_bytes
place-read p rest is =
    ap (λ (x : Option (ℕ × List ℕ)). followed_by x then_file) (half-read p.file (lines ++ (firsts ++ (counts ++ rest))) is.file)
    ∙ ap (λ (x : Option (ℕ × List ℕ)). followed_by x (then_line p.file)) (half-read p.line (firsts ++ (counts ++ rest)) is.line)
    ∙ ap (λ (x : Option (ℕ × List ℕ)). followed_by x (then_first p.file p.line)) (half-read p.first_byte (counts ++ rest) is.first_byte)
    ∙ ap (λ (x : Option (ℕ × List ℕ)). followed_by x (then_count p.file p.line p.first_byte)) (half-read p.byte_count rest is.byte_count)
  where
    lines : List ℕ
    lines = to_le_bytes w32 p.line

    firsts : List ℕ
    firsts = to_le_bytes w32 p.first_byte

    counts : List ℕ
    counts = to_le_bytes w32 p.byte_count

    then_count : ℕ → ℕ → ℕ → ℕ → List ℕ → Option (DocumentPlace × List ℕ)
    then_count file line first count rest = Some (record { file = file; line = line; first_byte = first; byte_count = count }, rest)

    then_first : ℕ → ℕ → ℕ → List ℕ → Option (DocumentPlace × List ℕ)
    then_first file line first rest = followed_by (half_at rest) (then_count file line first)

    then_line : ℕ → ℕ → List ℕ → Option (DocumentPlace × List ℕ)
    then_line file line rest = followed_by (half_at rest) (then_first file line)

    then_file : ℕ → List ℕ → Option (DocumentPlace × List ℕ)
    then_file file rest = followed_by (half_at rest) (then_line file)

-- one of several
nth-read : (ps : List DocumentPlace) (j : ℕ) (d : DocumentPlace) → All IsPlace ps → j < length ps → place_of j (flat_map place_bytes ps) ≡ Some (get_or ps j d)
nth-read ps j d are inside =
    ap (λ bs. option_map (λ p. p.0) (place_at bs)) (drop-places j ps ∙ ap (flat_map place_bytes) (drop-cons ps j d inside))
    ∙ ap (option_map (λ p. p.0)) (place-read (get_or ps j d) (flat_map place_bytes (drop (suc j) ps)) (are j d inside))

module _ (key : ℕ) (places : List DocumentPlace) where
  abbrev count : ℕ
  count = length places

  abbrev file : List ℕ
  file = stored_places key places

  -- ---- a piece

  piece-there : (k : ℕ) → k * 256 < count → piece_read key count k file ≡ Some (flat_map place_bytes (piece_of places k))
  piece-there k there =
      let start = piece_start k in
      let size = piece_len count k * 16 + 8 in
      let front = places_head key count ++ pieces key places 0 k in
      let back = pieces key places (k + 1) (piece_count count - (k + 1)) in
      let at : length front ≡ start = piece-starts key places k (omega (arith, there)) in
      ap (λ l. option_and_then (unsealed key start) (part_at start size l)) (around-piece key places k there)
      ∙ (λ i. option_and_then (unsealed key start) (part_at (sym at i) (sym (length-sealed key places k) i) (front ++ (piece_sealed key places k ++ back))))
      ∙ ap (option_and_then (unsealed key start)) (part-there front (piece_sealed key places k) back)
      ∙ unsealed-sealed key start (flat_map place_bytes (piece_of places k))

  place-there : (doc : ℕ) (d : DocumentPlace) → All IsPlace places → doc < count → place_read key count doc file ≡ Some (get_or places doc d)
  place-there doc d are there =
      let k = doc / 256 in
      let n = piece_len count k in
      let inside : doc % 256 < n = omega (arith, there) in
      let e : k * 256 + doc % 256 ≡ doc = omega arith in
      ap (option_and_then (place_of (doc % 256))) (piece-there k (omega (arith, there)))
      ∙ nth-read (piece_of places k) (doc % 256) d (All-take IsPlace n (drop (k * 256) places) (All-drop IsPlace (k * 256) places are))
      (omega (arith, length-piece key places k, inside))
      ∙ ap Some (get_or-take n (drop (k * 256) places) (doc % 256) d inside ∙ get_or-drop (k * 256) places (doc % 256) d ∙ ap (λ m. get_or places m d) e)

  -- ---- the first bytes

  module _ (fits : key < 2 ^ 64) (few : count < 2 ^ 64) where
    abbrev counts : List ℕ
    counts = to_le_bytes w64 count

    abbrev front : List ℕ
    front = head_bytes places_kind ++ (to_le_bytes w64 key ++ counts)

    abbrev then_end : ℕ → List ℕ → Option ℕ
    then_end documents rest = cond (not (documents == count)) None (cond (not (length file == places_size count)) None (ended_by documents rest))

    abbrev then_count : ℕ → List ℕ → Option ℕ
    then_count own rest = cond (not (own == key)) None (followed_by (word_at rest) then_end)

    head-told : documents_in key count (length file) (to_le_bytes w64 key ++ counts) ≡ Some count
    head-told =
        ap (λ (x : Option (ℕ × List ℕ)). followed_by x then_count) (word-read key counts fits)
        ∙ ap (λ b. cond (not b) None (followed_by (word_at counts) then_end)) (eq-eqb key key refl)
        ∙ ap (λ (l : List ℕ). followed_by (word_at l) then_end) (sym (append-nil counts))
        ∙ ap (λ (x : Option (ℕ × List ℕ)). followed_by x then_end) (word-read count [] few)
        ∙ ap (λ b. cond (not b) None (cond (not (length file == places_size count)) None (Some count))) (eq-eqb count count refl)
        ∙ ap (λ b. cond (not b) None (Some count)) (eq-eqb (length file) (places_size count) (length-stored key places))

    begun : headed_as places_kind (sealed key front) ≡ Ok (sealed key front)
    begun = ap (λ b. cond b (Err OtherFile) (Ok (sealed key front))) (le-ltb (length (sealed key front)) 16 (omega arith))

    first : take 40 file ≡ places_head key count
    first = (λ i. take (sym (length-head key places) i) file) ∙ take-append_seam (places_head key count) (pieces_bytes key places)

    opens : places_opened key count file ≡ Ok count
    opens =
        ap (λ l. told_by (body_of places_kind key l) (documents_in key count (length file))) first
        ∙ ap (λ (h : Result (List ℕ) StoreError). told_by (told_by h (body_in key)) (documents_in key count (length file))) begun
        ∙ ap (λ (o : Option (List ℕ)). told_by (ok_or o Damaged) (documents_in key count (length file))) (body-sealed key front (omega arith))
        ∙ ap (λ o. ok_or o Damaged) head-told

    -- the file opens, and tells of each document where it stands
    pub places-read : All IsPlace places →
        (places_opened key count file ≡ Ok count)
        × ((doc : ℕ) (d : DocumentPlace) → doc < count → place_read key count doc file ≡ Some (get_or places doc d))
    places-read are = (opens, λ doc d there. place-there doc d are there)
