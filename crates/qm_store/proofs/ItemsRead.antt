-- Things that were written one behind the other are read again; and what a reading of them is in the midst of.
use Rattle.std.proofs.Common.{◌≡◌, ℕ, zero, suc, ◌-◌, ◌^◌, ◌<◌, ◌≤◌, cond, List, [], ◌∷◌, ◌++◌, drop, length, take, Option, None, Some, ap, sym, ◌∙◌, append_assoc, append-nil, arith}
use Rattle.std.specs.Prelude.{All}
use Rattle.std.specs.List.{flat_map}
use Rattle.std.proofs.lemmas.Bool.{le-leb}
use Rattle.std.proofs.lemmas.List.{length-append}
use Rattle.std.proofs.lemmas.List.Elements.{All-head, All-tail}
use Rattle.std.proofs.Math.Seq.{drop-append_seam, take-append_seam}
use Rattle.qm_store.specs.Items.{bytes_at, counted_bytes, each_at, fitting, items_at, parted_at, small_at}
use Rattle.qm_store.specs.Numbers.{spelled}
use Rattle.qm_store.specs.Pieces.{TellsOf}
use Rattle.qm_store.specs.RowBytes.{followed_by}
use Rattle.qm_store.specs.declared.store_error.StoreError.{StoreError}
use Rattle.qm_store.specs.declared.store_error.StoreError.TheVariants.{Damaged, Failed, Memory, OtherFile, OtherVersion}
use Rattle.qm_store.proofs.NumberBytes.{number-read}

-- ---- numbers and bytes

pub small-read : (n : ℕ) (rest : List ℕ) → n ≤ 4294967295 → small_at (spelled n ++ rest) ≡ Some (n, rest)
small-read n rest few =
    ap (λ (x : Option (ℕ × List ℕ)). followed_by x fitting) (number-read 8 n rest (omega (arith, few)))
    ∙ ap (λ b. cond b (Some (n, rest)) None) (le-leb n 4294967295 few)

pub bytes-read : (bs rest : List ℕ) → length bs < 128 ^ 9 → bytes_at (counted_bytes bs ++ rest) ≡ Some (bs, rest)
bytes-read bs rest short =
    ap bytes_at (append_assoc (spelled (length bs)) bs rest)
    ∙ ap (λ (x : Option (ℕ × List ℕ)). followed_by x parted_at) (number-read 8 (length bs) (bs ++ rest) short)
    ∙ ap (λ b. cond b (Some (take (length bs) (bs ++ rest), drop (length bs) (bs ++ rest))) None)
    (le-leb (length bs) (length (bs ++ rest)) (omega (arith, length-append bs rest)))
    ∙ (λ i. Some (take-append_seam bs rest i, drop-append_seam bs rest i))

-- ---- things

module _ {A : Type 0} (read : List A → List ℕ → Option (A × List ℕ)) where
  -- each of some things is read behind those before it
  abbrev pub AreRead : (A → List ℕ) → List A → List A → Type 0
  AreRead spell front [] = Unit {0}
  AreRead spell front (x ∷ xs) = ((rest : List ℕ) → read front (spell x ++ rest) ≡ Some (x, rest)) × AreRead spell (front ++ x ∷ []) xs

  abbrev then_items : ℕ → List A → A → List ℕ → Option (List A × List ℕ)
  then_items n front x rest = items_at read n (front ++ x ∷ []) rest

  pub items-read : (spell : A → List ℕ) (front xs : List A) (rest : List ℕ) → AreRead spell front xs →
      items_at read (length xs) front (flat_map spell xs ++ rest) ≡ Some (front ++ xs, rest)
  unfolding items_at
  items-read spell front [] rest are = ap (λ l. Some (l, rest)) (sym (append-nil front))
  items-read spell front (x ∷ xs) rest are =
      ap (λ bs. followed_by (read front bs) (then_items (length xs) front)) (append_assoc (spell x) (flat_map spell xs) rest)
      ∙ ap (λ (r : Option (A × List ℕ)). followed_by r (then_items (length xs) front)) (are.0 (flat_map spell xs ++ rest))
      ∙ items-read spell (front ++ x ∷ []) xs rest are.1
      ∙ ap (λ l. Some (l, rest)) (append_assoc front (x ∷ []) xs)

  one-item : (n : ℕ) (front : List A) (bs : List ℕ) → 0 < n → items_at read n front bs ≡ followed_by (read front bs) (then_items (n - 1) front)
  unfolding items_at
  one-item zero front bs some = absurd (omega (arith, some))
  one-item (suc n) front bs some =
      let e : n ≡ suc n - 1 = omega arith in
      ap (λ k. followed_by (read front bs) (then_items k front)) e

  module _ (n : ℕ) (front : List A) (bs : List ℕ) (all : Option (List A × List ℕ)) (told : items_at read n front bs ≡ all) where
    -- what is left begins with none
    pub items-stop : 0 < n → read front bs ≡ None → None ≡ all
    items-stop some none =
        sym (ap (λ (r : Option (A × List ℕ)). followed_by r (then_items (n - 1) front)) none) ∙ sym (one-item n front bs some) ∙ told

    -- it begins with one
    pub items-go_on : 0 < n → (x : A) (rest : List ℕ) → read front bs ≡ Some (x, rest) → items_at read (n - 1) (front ++ x ∷ []) rest ≡ all
    items-go_on some x rest is =
        sym (ap (λ (r : Option (A × List ℕ)). followed_by r (then_items (n - 1) front)) is) ∙ sym (one-item n front bs some) ∙ told

    -- nothing is left to be read
    pub items-end : n ≡ 0 → Some (front, bs) ≡ all
    unfolding items_at
    items-end none = sym (ap (λ k. items_at read k front bs) none) ∙ told

-- what is read by itself
pub each-read : {A : Type 0} (read : List ℕ → Option (A × List ℕ)) (spell : A → List ℕ) (P : A → Type 0) →
    ((x : A) (rest : List ℕ) → P x → read (spell x ++ rest) ≡ Some (x, rest)) →
    (xs : List A) (rest : List ℕ) → All P xs → each_at read (length xs) (flat_map spell xs ++ rest) ≡ Some (xs, rest)
each-read {A = A} read spell P is xs rest all = items-read (λ front bs. read bs) spell [] xs rest (go [] xs all)
  where
    go : (front xs : List A) → All P xs → AreRead (λ front bs. read bs) spell front xs
    go front [] all = tt
    go front (x ∷ xs) all = (λ rest. is x rest (All-head P x xs all), go (front ++ x ∷ []) xs (All-tail P x xs all))

-- an error that tells that nothing was there tells so of what hangs on it
pub tells-on : {X Y : Type 0} (e : StoreError) (found : Option X) (all : Option Y) → (found ≡ None → all ≡ None) → TellsOf e found → TellsOf e all
tells-on Memory found all on told = tt
tells-on Failed found all on told = told
tells-on OtherFile found all on told = told
tells-on OtherVersion found all on told = told
tells-on Damaged found all on told = on told
