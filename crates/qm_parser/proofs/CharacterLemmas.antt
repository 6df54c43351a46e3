-- What is left of the characters of a text.
use Rattle.std.proofs.Common.{◌≡◌, ℕ, ◌+◌, ◌≤◌, List, [], ◌∷◌, None, Some, drop, length, refl, sym, ap, ◌∙◌}
use Rattle.std.proofs.lemmas.List.{drop-drop, drop_all}
use Rattle.qm_parser.specs.Signs.{first}
use Rattle.qm_parser.specs.declared.place_characters.Character.{Character}

pub next-is : (cs : List Character) (c : Character) → Some c ≡ first cs → cs ≡ c ∷ drop 1 cs
next-is [] c e = absurd (cc)
next-is (d ∷ cs) c e = let same : d ≡ c = cc in ap (λ x. x ∷ cs) same

pub none-is : (cs : List Character) → None ≡ first cs → cs ≡ []
none-is [] e = refl
none-is (d ∷ cs) e = absurd (cc)

-- one character further
pub further : {A : Type 0} (n : ℕ) (xs : List A) → drop (n + 1) xs ≡ drop 1 (drop n xs)
further n xs = sym (drop-drop 1 n xs)

-- behind the last
pub at_end : {A : Type 0} (n : ℕ) (xs : List A) → length xs ≤ n → drop n xs ≡ drop 1 (drop n xs)
at_end n xs past = drop_all n xs past ∙ sym (ap (drop 1) (drop_all n xs past))
