-- Words, each with a space behind it, and the words of such a text.
use Rattle.std.proofs.Common.{◌≡◌, ◌<◌, ◌==◌, ◌+◌, ℕ, Bool, false, not, cond, zero, suc, List, [], ◌∷◌, ◌++◌, length, map, drop, get_or, refl, ap, sym, ◌∙◌}
use Rattle.std.proofs.Common.{append_assoc, arith, filter, length-drop, ◌-◌}
use Rattle.std.proofs.lemmas.List.{length-take-le}
use Rattle.std.proofs.lemmas.Bool.{ne_eqb}
use Rattle.std.proofs.lemmas.Grind.{common_steps}
use Rattle.std.proofs.lemmas.List.Splits.{slice_split_at}
use Rattle.std.specs.List.{All, AllByRecursion, slice_split}
use Rattle.qm_postings.specs.Document.{words_of}
use Rattle.birchagain.specs.Adding.{spaced}
use Rattle.birchagain.specs.CutWords.{AreWords, IsWord, bytes_between, words_from}
use Rattle.birchagain.proofs.LeftWords.{left-mapped}

-- no place of a text has a space
pub none-spaces : (text : List ℕ) → ((k : ℕ) → k < length text → get_or text k 0 ≡ 32 → ⊥) → AllByRecursion (λ b. (b == 32) ≡ false) text
none-spaces [] h = tt
none-spaces (b ∷ text) h = (ne_eqb b 32 (λ e. h zero (omega arith) e), none-spaces text (λ k below is. h (suc k) (omega arith) is))

lacks-all : (w : List ℕ) → AllByRecursion (λ b. (b == 32) ≡ false) w → All (λ b. (b == 32) ≡ false) w
lacks-all [] h = grind (arith, common_steps)
lacks-all (b ∷ w) h = let x = lacks-all w h.1 in let y = h.0 in grind (arith, common_steps)

-- the pieces of a text that are not empty
abbrev words_of_pieces : List (List ℕ) → List (List ℕ)
words_of_pieces pieces = filter (λ w. not (length w == 0)) pieces

kept_if : (t : Bool) (w : List ℕ) (pieces : List (List ℕ)) → t ≡ false → cond (not t) (w ∷ pieces) pieces ≡ w ∷ pieces
kept_if t w pieces h = rw h refl

some-kept : (w : List ℕ) (pieces : List (List ℕ)) → 0 < length w → words_of_pieces (w ∷ pieces) ≡ w ∷ words_of_pieces pieces
some-kept w pieces h = kept_if (length w == 0) w (words_of_pieces pieces) (ne_eqb (length w) 0 (λ e. absurd (omega (arith, h, e))))

-- a word with a space behind it is the first of a text
pub one_word : (w : List ℕ) (rest : List ℕ) → 0 < length w → AllByRecursion (λ b. (b == 32) ≡ false) w → words_of ((w ++ 32 ∷ []) ++ rest) ≡ w ∷ words_of rest
one_word w rest some lacks =
    ap words_of (append_assoc w (32 ∷ []) rest)
    ∙ ap words_of_pieces (slice_split_at (λ b. b == 32) w 32 rest (lacks-all w lacks) refl)
    ∙ some-kept w (slice_split (λ b. b == 32) rest) some

word-some : (start end : ℕ) (bytes : List ℕ) → IsWord start end bytes → 0 < length (bytes_between start end bytes)
word-some start end bytes h =
    let some = h.text.some in let within = h.text.within in
    omega (arith, some, within, length-drop start bytes, length-take-le (end - start) (drop start bytes) (omega (arith, some, within, length-drop start bytes)))

-- the words that stand in some bytes are those of their text
pub spaced-words : (start : ℕ) (ends bytes : List ℕ) → AreWords start ends bytes → words_of (spaced (words_from start ends bytes)) ≡ words_from start ends bytes
spaced-words start [] bytes h = refl
spaced-words start (end ∷ ends) bytes h =
    one_word (bytes_between start end bytes) (spaced (words_from end ends bytes)) (word-some start end bytes h.0) h.0.no_space
    ∙ ap (λ l. bytes_between start end bytes ∷ l) (spaced-words end ends bytes h.1)

-- there are as many as there are ends
pub words-count : (start : ℕ) (ends bytes : List ℕ) → length (words_from start ends bytes) ≡ length ends
words-count start [] bytes = refl
words-count start (end ∷ ends) bytes = ap suc (words-count end ends bytes)

-- the text of the words before one, and the rest of them
pub spaced-more : {A : Type 0} (bytes : A → List ℕ) (xs : List A) (i : ℕ) (x d : A) (text whole : List ℕ) → i < length xs → x ≡ get_or xs i d →
    text ++ spaced (drop i (map bytes xs)) ≡ whole → ((text ++ bytes x) ++ 32 ∷ []) ++ spaced (drop (i + 1) (map bytes xs)) ≡ whole
spaced-more bytes xs i x d text whole below is kept =
    ap (λ l. l ++ spaced (drop (i + 1) (map bytes xs))) (append_assoc text (bytes x) (32 ∷ []))
    ∙ append_assoc text (bytes x ++ 32 ∷ []) (spaced (drop (i + 1) (map bytes xs)))
    ∙ ap (λ l. text ++ spaced l) (sym (left-mapped bytes xs i x d below is))
    ∙ kept
