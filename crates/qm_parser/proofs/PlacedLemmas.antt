-- The characters that were placed, and those that are left of the text.
use Rattle.std.proofs.Common.{◌≡◌, ℕ, ◌+◌, List, [], ◌∷◌, ◌++◌, length, sym, ap, ◌∙◌, append_assoc, append-nil, arith, subst}
use Rattle.std.proofs.lemmas.List.{length-append}
use Rattle.std.proofs.lemmas.Str.{encode_same, encodes-chars, len_utf8_bounds, length-encode}
use Rattle.std.specs.Char.{encode_utf8, len_utf8}
use Rattle.std.specs.Str.{IsUtf8, chars, encode_utf8_all}
use Rattle.qm_parser.specs.Characters.{placed_characters, placed_from}
use Rattle.qm_parser.specs.declared.place_characters.Character.{Character}

-- these characters, and those of the bytes that are left, the first of which is at this place, are all
pub record Placing (front : List Character) (place : ℕ) (left : List ℕ) (whole : List Character) : Type 0 where
  pub letters : List ℕ
  pub encoded : encode_utf8_all letters ≡ left
  pub placed : front ++ placed_from place letters ≡ whole

pub placing-begun : (text left : List ℕ) (place : ℕ) → IsUtf8 text → left ≡ text → place ≡ 0 → Placing [] place left (placed_characters text)
placing-begun text left place is_text same start = record {
  letters = chars text;
  encoded = encodes-chars text is_text ∙ sym same;
  placed = ap (λ n. placed_from n (chars text)) start;
}

-- a character has a byte
not_none : (c : ℕ) (rest : List ℕ) → 0 ≡ length (encode_utf8 c ++ rest) → ⊥
not_none c rest e =
    let bounds = len_utf8_bounds c in
    let some : length (encode_utf8 c) ≡ len_utf8 c = length-encode c in
    let both : length (encode_utf8 c ++ rest) ≡ length (encode_utf8 c) + length rest = length-append (encode_utf8 c) rest in
    omega (arith, bounds.0)

placing-step : (front : List Character) (place next : ℕ) (left rest : List ℕ) (whole : List Character) (c : ℕ) (letters : List ℕ) →
    encode_utf8_all letters ≡ encode_utf8 c ++ rest → front ++ placed_from place letters ≡ whole → next ≡ place + length (encode_utf8 c) →
    Placing (front ++ record { letter = c; place = place } ∷ []) next rest whole
placing-step front place next left rest whole c [] encoded placed further = absurd (not_none c rest (ap length encoded))
placing-step front place next left rest whole c (d ∷ letters) encoded placed further =
    let same = encode_same d c (encode_utf8_all letters) rest encoded in
    record {
      letters = letters;
      encoded = same.1;
      placed = append_assoc front (record { letter = c; place = place } ∷ []) (placed_from next letters)
          ∙ ap (λ n. front ++ (record { letter = c; place = place } ∷ placed_from n letters)) further
          ∙ ap (λ k. front ++ (record { letter = k; place = place } ∷ placed_from (place + length (encode_utf8 k)) letters)) (sym same.0) ∙ placed;
    }

pub placing-more : (front : List Character) (place at next : ℕ) (left rest : List ℕ) (whole : List Character) (c : ℕ) → Placing front place left whole →
    at ≡ place → left ≡ encode_utf8 c ++ rest → next ≡ place + length (encode_utf8 c) → Placing (front ++ record { letter = c; place = at } ∷ []) next rest whole
placing-more front place at next left rest whole c kept here is further =
    let P : ℕ → Type 0 = λ n. Placing (front ++ record { letter = c; place = n } ∷ []) next rest whole in
    subst P (sym here) (placing-step front place next left rest whole c kept.letters (kept.encoded ∙ is) kept.placed further)

all_placed : (front : List Character) (place : ℕ) (whole : List Character) (letters : List ℕ) →
    length (encode_utf8_all letters) ≡ 0 → front ++ placed_from place letters ≡ whole → front ≡ whole
all_placed front place whole [] none placed = sym (append-nil front) ∙ placed
all_placed front place whole (c ∷ letters) none placed = absurd (not_none c (encode_utf8_all letters) (sym none))

pub placing-done : (front : List Character) (place : ℕ) (left : List ℕ) (whole : List Character) → Placing front place left whole → length left ≡ 0 → front ≡ whole
placing-done front place left whole kept none = all_placed front place whole kept.letters (ap length kept.encoded ∙ none) kept.placed
