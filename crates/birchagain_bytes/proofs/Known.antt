-- A number that is found among known ones.
use Rattle.std.proofs.Common.{◌≡◌, ◌≢◌, ◌<◌, ◌≤◌, ◌==◌, ◌||◌, ℕ, zero, suc, Bool, true, false, List, [], ◌∷◌, Result, Ok, Err, IfOk, is_ok, length, get_or, refl, sym, ap, ◌∙◌, inl, inr, arith}
use Rattle.std.specs.List.{HoldsAt}
use Rattle.std.specs.List.Sorted.{IsBinarySearchResult, IsNonDecreasing, IsSearchInRange}
use Rattle.std.specs.Ordering.{MatchOrdering, nat_cmp, ordering_index}
use Rattle.std.specs.declared.cmp.Ordering.{Ordering}
use Rattle.std.specs.declared.cmp.Ordering.TheVariants.{Equal, Greater, Less}
use Rattle.std.proofs.lemmas.Bool.{cases_lt, eq-eqb, ne_eqb}
use Rattle.std.proofs.lemmas.Cmp.{ranked}
use Rattle.std.proofs.Math.Bool.{or-true}
use Rattle.birchagain_bytes.specs.Bytes.{is_known}

known-at : (known : List ℕ) (i number : ℕ) → i < length known → get_or known i 0 ≡ number → is_known known number ≡ true
known-at [] i number below is = absurd (omega (arith, below))
known-at (n ∷ ns) zero number below is = ap (λ (b : Bool). b || is_known ns number) (eq-eqb n number is)
known-at (n ∷ ns) (suc i) number below is =
    ap (λ (b : Bool). (n == number) || b) (known-at ns i number (omega (arith, below)) is) ∙ or-true (n == number)

-- what a search by halving finds is there
pub known-found : (known : List ℕ) (number : ℕ) (r : Result ℕ ℕ) → is_ok r ≡ true → IsSearchInRange r (length known) →
    IfOk r (HoldsAt (λ y. nat_cmp y number ≡ Equal) known) → is_known known number ≡ true
known-found known number (Ok i) found bound ok = known-at known i number bound (ranked (get_or known i 0) number Equal (sym (ok 0)))
known-found known number (Err i) found bound ok = absurd (cc found)

-- ---- what it doesn't find

-- what comes later compares no lower
cmp-rises : (a b n : ℕ) → a ≤ b → ordering_index (nat_cmp a n) ≤ ordering_index (nat_cmp b n)
cmp-rises a b n below = by_order (nat_cmp a n) (nat_cmp b n) (ranked a n (nat_cmp a n) refl) (ranked b n (nat_cmp b n) refl)
  where
    by_order : (r s : Ordering) → MatchOrdering r (a < n) (a ≡ n) (n < a) → MatchOrdering s (b < n) (b ≡ n) (n < b) → ordering_index r ≤ ordering_index s
    by_order Less s first second = omega arith
    by_order Equal Less first second = absurd (omega (arith, first, second, below))
    by_order Equal Equal first second = omega arith
    by_order Equal Greater first second = omega arith
    by_order Greater Less first second = absurd (omega (arith, first, second, below))
    by_order Greater Equal first second = absurd (omega (arith, first, second, below))
    by_order Greater Greater first second = omega arith

not-known : (known : List ℕ) (number : ℕ) → ((k : ℕ) → k < length known → get_or known k 0 ≢ number) → is_known known number ≡ false
not-known [] number none = refl
not-known (n ∷ ns) number none =
    ap (λ (b : Bool). b || is_known ns number) (ne_eqb n number (none zero (omega arith)))
    ∙ not-known ns number (λ k below. none (suc k) (omega (arith, below)))

-- of numbers that ascend a search by halving finds each that is there
pub known-all : (known : List ℕ) (number : ℕ) (r : Result ℕ ℕ) → IsSearchInRange r (length known) → IfOk r (HoldsAt (λ y. nat_cmp y number ≡ Equal) known) →
    IsBinarySearchResult (λ y. nat_cmp y number) known r → IsNonDecreasing known → is_ok r ≡ is_known known number
known-all known number (Ok i) bound ok place rising = sym (known-found known number (Ok i) refl bound ok)
known-all known number (Err i) bound ok place rising =
    let parts = place (λ j k d le inside. cmp-rises (get_or known j d) (get_or known k d) number (rising j k d le inside)) in
    sym (not-known known number (λ k inside same. elim (cases_lt k i) [
      | inl before ↦
          let less : get_or known k 0 < number = ranked (get_or known k 0) number Less (sym (parts.0 k 0 (omega arith) before)) in
          omega (arith, less, same)
      | inr behind ↦
          let more : number < get_or known k 0 = ranked (get_or known k 0) number Greater (sym (parts.1 k 0 behind inside)) in
          omega (arith, more, same)
    ]))
