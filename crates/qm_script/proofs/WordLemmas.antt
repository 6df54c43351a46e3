-- The words of a line, and of a text.
use Rattle.std.proofs.Common.{◌≡◌, ℕ, ◌<◌, ◌≤◌, ◌==◌, ◌||◌, Bool, true, false, not, cond, zero, suc, map, drop, get_or, List, [], ◌∷◌}
use Rattle.std.proofs.Common.{length, refl, ap, sym, ◌∙◌, subst, arith}
use Rattle.std.proofs.Math.Bool.{or-false}
use Rattle.std.proofs.lemmas.Bool.{ne_eqb, or_parts}
use Rattle.std.specs.List.{AllByRecursion, drop-map, onto_first, slice_split}
use Rattle.qm_postings.specs.Document.{words_of}
use Rattle.birchagain.specs.Adding.{spaced}
use Rattle.birchagain.proofs.LeftWords.{left-none}
use Rattle.birchagain.proofs.Spaces.{one_word}
use Rattle.qm_script.specs.Script.{AreWords, IsWord, is_blank, line_words, non_empty}

-- no part holds what the list is cut at
parts-lack : (cut : ℕ → Bool) (xs : List ℕ) → AllByRecursion (AllByRecursion (λ b. cut b ≡ false)) (slice_split cut xs)
parts-lack cut [] = (tt, tt)
parts-lack cut (x ∷ xs) = onto cut (cut x) x (slice_split cut xs) refl (parts-lack cut xs)
  where
    onto : (cut : ℕ → Bool) (b : Bool) (x : ℕ) (parts : List (List ℕ)) → cut x ≡ b → AllByRecursion (AllByRecursion (λ b. cut b ≡ false)) parts →
        AllByRecursion (AllByRecursion (λ b. cut b ≡ false)) (cond b ([] ∷ parts) (onto_first x parts))
    onto cut true x parts p h = (tt, h)
    onto cut false x [] p h = ((p, tt), tt)
    onto cut false x (y ∷ parts) p h = ((p, h.0), h.1)

-- ---- words

kept_if : (t : Bool) (w : List ℕ) (words : List (List ℕ)) → t ≡ false → cond (not t) (w ∷ words) words ≡ w ∷ words
kept_if t w words h = rw h refl

pub not_zero : (n : ℕ) → 0 < n → (n == 0) ≡ false
not_zero n h = ne_eqb n 0 (λ e. absurd (omega arith))

pub non_empty-cons : (w : List ℕ) (words : List (List ℕ)) → 0 < length w → non_empty (w ∷ words) ≡ w ∷ non_empty words
non_empty-cons w words h = kept_if (length w == 0) w (non_empty words) (not_zero (length w) h)

no-spaces : (w : List ℕ) → AllByRecursion (λ b. is_blank b ≡ false) w → AllByRecursion (λ b. (b == 32) ≡ false) w
no-spaces [] h = tt
no-spaces (b ∷ w) h = ((or_parts (b == 32) (b == 9) h.0).0, no-spaces w h.1)

non_empty-words : (words : List (List ℕ)) → AllByRecursion (AllByRecursion (λ b. is_blank b ≡ false)) words → AreWords (non_empty words)
non_empty-words [] h = tt
non_empty-words ([] ∷ words) h = non_empty-words words h.1
non_empty-words ((b ∷ w) ∷ words) h =
    let some : 0 < length (b ∷ w) = omega arith in
    let word : IsWord (b ∷ w) = record { some = some; no_space = no-spaces (b ∷ w) h.0 } in
    subst AreWords (sym (non_empty-cons (b ∷ w) words some)) (word, non_empty-words words h.1)

pub line-words : (line : List ℕ) → AreWords (line_words line)
line-words line = non_empty-words (slice_split is_blank line) (parts-lack is_blank line)

-- ---- a text without tabs

pub no-tabs : (text : List ℕ) → ((k : ℕ) → k < length text → get_or text k 0 ≡ 9 → ⊥) → AllByRecursion (λ b. (b == 9) ≡ false) text
no-tabs [] h = tt
no-tabs (b ∷ text) h = (ne_eqb b 9 (λ e. h zero (omega arith) e), no-tabs text (λ k below is. h (suc k) (omega arith) is))

cut-at-spaces : (text : List ℕ) → AllByRecursion (λ b. (b == 9) ≡ false) text → slice_split is_blank text ≡ slice_split (λ b. b == 32) text
cut-at-spaces [] h = refl
cut-at-spaces (b ∷ text) h =
    let blank : is_blank b ≡ (b == 32) = ap (λ t. (b == 32) || t) h.0 ∙ or-false (b == 32) in
    λ i. cond (blank i) ([] ∷ cut-at-spaces text h.1 i) (onto_first b (cut-at-spaces text h.1 i))

-- its words are those of a line
pub words-without-tabs : (text : List ℕ) → AllByRecursion (λ b. (b == 9) ≡ false) text → line_words text ≡ words_of text
words-without-tabs text h = ap non_empty (cut-at-spaces text h)

-- ---- words from one on

pub none_left : {A B : Type 0} (bytes : A → B) (xs : List A) (i : ℕ) → length xs ≤ i → drop i (map bytes xs) ≡ []
none_left bytes xs i past = drop-map bytes i xs ∙ ap (map bytes) (left-none xs i past)

-- ---- a text of words

pub spaced-words : (words : List (List ℕ)) → AreWords words → words_of (spaced words) ≡ words
spaced-words [] h = refl
spaced-words (w ∷ words) h = one_word w (spaced words) h.0.some h.0.no_space ∙ ap (λ l. w ∷ l) (spaced-words words h.1)
