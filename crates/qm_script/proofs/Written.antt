-- What a writer of documents holds once it has written more.
use Rattle.std.proofs.Common.{◌≡◌, ◌<◌, ◌^◌, ℕ, suc, ℤ, ◌∷◌, ◌++◌, [], List, Option, Some, true, false, true≢false, length, length-append}
use Rattle.std.proofs.Common.{ap, arith, int_lt, nat_abs, negsuc, pos, refl, ◌∙◌, sym}
use Rattle.std.proofs.Common.{append_assoc, Result, Ok, Err}
use Rattle.std.specs.Prelude.{IsAscii, OnOk}
use Rattle.std.specs.Fmt.{decimal, signed_decimal}
use Rattle.std.proofs.lemmas.Bool.{ltb-true}
use Rattle.std.proofs.lemmas.Fmt.{IsAscii-decimal, decimal_nonempty}
use Rattle.std.proofs.lemmas.Str.Ascii.{IsAscii-cons}
use Rattle.qm_script.specs.Text.{IsListing, item_text, score_text}
use Rattle.qm_script.specs.Written.{HasListed}
use Rattle.qm_script.specs.declared.item_writer.ItemWriter.{ItemWriter}
use Rattle.qm_script.proofs.ListingTexts.{IsListing-first, IsListing-next}

-- what follows where a call succeeds
pub on_ok_then : {T E P Q : Type 0} (r : Result T E) → OnOk r P → (P → Q) → OnOk r Q
on_ok_then (Ok x) holds then = then holds
on_ok_then (Err e) holds then = tt

module _ (items : List (ℕ × Option ℤ)) (w after : ItemWriter) (is : HasListed items w) (d : ℕ) (score : Option ℤ) (small : d < 2 ^ 64)
    (begun : after.is_begun ≡ true) where
  abbrev item : ℕ × Option ℤ
  item = (d, score)

  written : (before : List ℕ) → after.bytes.items ≡ before ++ item_text item → IsListing (items ++ item ∷ []) after.bytes.items →
      HasListed (items ++ item ∷ []) after
  written before new listed = record {
    listed = listed;
    begun = λ no. absurd (true≢false (sym begun ∙ no));
    some = λ yes. omega (
      arith,
      ap length new,
      length-append before (item_text item),
      length-append (decimal d) (score_text score),
      decimal_nonempty d small,
    );
  }

  -- the first document
  pub listed-first : w.is_begun ≡ false → after.bytes.items ≡ w.bytes.items ++ item_text item → HasListed (items ++ item ∷ []) after
  listed-first none new =
      written w.bytes.items new (IsListing-first items w.bytes.items after.bytes.items item is.listed (is.begun none) small new)

  -- a further one, behind a space
  pub listed-next : w.is_begun ≡ true → after.bytes.items ≡ w.bytes.items ++ 32 ∷ item_text item → HasListed (items ++ item ∷ []) after
  listed-next some new =
      let apart = new ∙ sym (append_assoc w.bytes.items (32 ∷ []) (item_text item)) in
      written (w.bytes.items ++ 32 ∷ []) apart
      (IsListing-next items w.bytes.items after.bytes.items item is.listed (omega (arith, is.some some)) apart)

-- the text of a score is ASCII
pub IsAscii-score : (score : ℤ) → nat_abs score < 2 ^ 64 → IsAscii (score_text (Some score))
IsAscii-score (pos n) small = IsAscii-cons 58 (decimal n) (omega arith) (IsAscii-decimal n small)
IsAscii-score (negsuc n) small =
    IsAscii-cons 58 (45 ∷ decimal (suc n)) (omega arith) (IsAscii-cons 45 (decimal (suc n)) (omega arith) (IsAscii-decimal (suc n) small))

-- a number below 0 has a sign
pub signed-below : (z : ℤ) → int_lt z (pos 0) ≡ true → signed_decimal z ≡ 45 ∷ decimal (nat_abs z)
signed-below (pos n) below = absurd (omega (arith, ltb-true n 0 below))
signed-below (negsuc n) below = refl

pub signed-above : (z : ℤ) → int_lt z (pos 0) ≡ false → signed_decimal z ≡ decimal (nat_abs z)
signed-above (pos n) above = refl
signed-above (negsuc n) above = absurd (true≢false above)
