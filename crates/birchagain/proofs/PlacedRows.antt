-- Rows of words and of their places, of which the first are taken.
use Rattle.std.proofs.Common.{◌≡◌, ◌<◌, ◌≤◌, ◌+◌, ℕ, List, [], ◌∷◌, ◌++◌, length, drop, get_or, ap, sym, ◌∙◌, append-nil, append_assoc, subst}
use Rattle.std.proofs.lemmas.List.{drop_more}
use Rattle.qm_postings.specs.Document.{Given}
use Rattle.birchagain.specs.Placed.{ArePlaced, IsPlacedWord, placed_from, placed_word}
use Rattle.birchagain.proofs.LeftWords.{left-none}

-- what is left of a row begins with the next of it
pub left-next : (xs : List ℕ) (k n x : ℕ) → k < length xs → x ≡ get_or xs k 0 → n ≡ k + 1 → drop k xs ≡ x ∷ drop n xs
left-next xs k n x below is more = drop_more xs k 0 below ∙ (λ i. sym is i ∷ drop (sym more i) xs)

module _ (bytes places : List ℕ) (start first end last : ℕ) (ends lasts : List ℕ) where
  -- the words before one, and the rest of them
  pub placed-more : (all_ends all_lasts : List ℕ) (before whole : List Given) → all_ends ≡ end ∷ ends → all_lasts ≡ last ∷ lasts →
      before ++ placed_from start first all_ends all_lasts bytes places ≡ whole →
      (before ++ placed_word start end first last bytes places ∷ []) ++ placed_from end last ends lasts bytes places ≡ whole
  placed-more all_ends all_lasts before whole e l kept =
      append_assoc before (placed_word start end first last bytes places ∷ []) (placed_from end last ends lasts bytes places)
      ∙ (λ i. before ++ placed_from start first (sym e i) (sym l i) bytes places) ∙ kept

  -- the next word is good, and so is the rest
  pub placed-next : (all_ends all_lasts : List ℕ) → all_ends ≡ end ∷ ends → all_lasts ≡ last ∷ lasts →
      ArePlaced start first all_ends all_lasts bytes places →
      IsPlacedWord start end first last bytes places × ArePlaced end last ends lasts bytes places
  placed-next all_ends all_lasts e l are =
      subst (λ x. ArePlaced start first (end ∷ ends) x bytes places) l (subst (λ x. ArePlaced start first x all_lasts bytes places) e are)

  -- and the other way round
  pub placed-joined : (all_ends all_lasts : List ℕ) → all_ends ≡ end ∷ ends → all_lasts ≡ last ∷ lasts →
      IsPlacedWord start end first last bytes places → ArePlaced end last ends lasts bytes places →
      ArePlaced start first all_ends all_lasts bytes places
  placed-joined all_ends all_lasts e l word rest =
      subst (λ x. ArePlaced start first x all_lasts bytes places) (sym e)
      (subst (λ x. ArePlaced start first (end ∷ ends) x bytes places) (sym l) (word, rest))

-- behind the last of both rows there is no word
pub none-left : (bytes places : List ℕ) (start first k : ℕ) (ends lasts : List ℕ) (terms : List Given) → length ends ≤ k →
    terms ++ placed_from start first (drop k ends) (drop k lasts) bytes places ≡ terms
none-left bytes places start first k ends lasts terms done =
    ap (λ x. terms ++ placed_from start first x (drop k lasts) bytes places) (left-none ends k done) ∙ append-nil terms

-- so all that are left are good
pub none-bad : (bytes places : List ℕ) (start first k : ℕ) (ends lasts : List ℕ) → length ends ≤ k → length lasts ≤ k →
    ArePlaced start first (drop k ends) (drop k lasts) bytes places
none-bad bytes places start first k ends lasts done over =
    subst (λ x. ArePlaced start first x (drop k lasts) bytes places) (sym (left-none ends k done))
    (subst (λ x. ArePlaced start first [] x bytes places) (sym (left-none lasts k over)) tt)
