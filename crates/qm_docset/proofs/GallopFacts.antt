-- An ascending list that is searched from both sides.
use Rattle.std.proofs.Common.{◌≡◌, ℕ, zero, suc, ◌+◌, ◌-◌, ◌<◌, ◌≤◌, List, length, get_or, take, drop, inl, inr, arith, subst, ◌∙◌, length-drop}
use Rattle.std.specs.List.Sorted.{IsStrictlyIncreasing}
use Rattle.std.proofs.lemmas.Bool.{cases_lt}
use Rattle.std.proofs.lemmas.List.{get_or-take, get_or-drop, length-take}

-- no document is above a later one
pub rises : (docs : List ℕ) → IsStrictlyIncreasing docs → (i j : ℕ) → i ≤ j → j < length docs → get_or docs i 0 ≤ get_or docs j 0
rises docs up i zero h l = let P : ℕ → Type 0 = λ n. get_or docs n 0 ≤ get_or docs zero 0 in let none : zero ≡ i = omega arith in subst P none (omega arith)
rises docs up i (suc j) h l =
    let next = up j (omega arith) in
    let Q : ℕ → Type 0 = λ n. get_or docs j 0 < get_or docs n 0 in
    let one_on : j + 1 ≡ suc j = omega arith in
    let step : get_or docs j 0 < get_or docs (suc j) 0 = subst Q one_on next in
    elim (cases_lt j i) [
      | inl last ↦ let P : ℕ → Type 0 = λ n. get_or docs n 0 ≤ get_or docs (suc j) 0 in let same : suc j ≡ i = omega arith in subst P same (omega arith)
      | inr before ↦ omega (arith, rises docs up i j before (omega arith))
    ]

-- an element of a part of a list stands in the whole
pub get_or-part : (docs : List ℕ) (low count k : ℕ) → low ≤ k → k < low + count → get_or (take count (drop low docs)) (k - low) 0 ≡ get_or docs k 0
get_or-part docs low count k h l =
    let P : ℕ → Type 0 = λ n. get_or (take count (drop low docs)) (k - low) 0 ≡ get_or docs n 0 in
    let place : low + (k - low) ≡ k = omega arith in
    subst P place (get_or-take count (drop low docs) (k - low) 0 (omega arith) ∙ get_or-drop low docs (k - low) 0)

-- a part of an ascending list ascends
pub increases_in_part : (docs : List ℕ) (low count : ℕ) → IsStrictlyIncreasing docs →
    low + count ≤ length docs → IsStrictlyIncreasing (take count (drop low docs))
increases_in_part docs low count up h k l =
    let size = length-take count (drop low docs) in
    let rest = length-drop low docs in
    let here = get_or-take count (drop low docs) k 0 (omega arith) ∙ get_or-drop low docs k 0 in
    let next = get_or-take count (drop low docs) (k + 1) 0 (omega arith) ∙ get_or-drop low docs (k + 1) 0 in
    let on : low + k + 1 ≡ low + (k + 1) = omega arith in
    let P : ℕ → Type 0 = λ n. get_or docs (low + k) 0 < get_or docs n 0 in
    let step = subst P on (up (low + k) (omega arith)) in
    omega arith
