-- Ascending numbers that were written are read again; and what a reading of them is in the midst of.
use Rattle.std.proofs.Common.{◌≡◌, ℕ, zero, suc, ◌+◌, ◌-◌, ◌^◌, ◌<◌, ◌≤◌, Bool, cond, ltb, List, [], ◌∷◌, ◌++◌, length, Option, Some, None, refl, ap, sym, ◌∙◌, append_assoc, append-nil, arith, inl, inr, subst}
use Rattle.std.specs.Prelude.{IfSome}
use Rattle.std.proofs.lemmas.Bool.{cases_lt, le-ltb, lt-ltb}
use Rattle.qm_postings.specs.Segment.{AscendFrom}
use Rattle.qm_store.specs.Numbers.{number_at, spelled}
use Rattle.qm_store.specs.RowBytes.{above_at, followed_by, gaps, gaps_at, in_front, in_front_of_all}
use Rattle.qm_store.proofs.NumberBytes.{number-read}

-- what stands behind a number that was read
abbrev go_on : ℕ → ℕ → List ℕ → Option (List ℕ × List ℕ)
go_on n x rest = in_front x (gaps_at n (x + 1) rest)

above-read : (low x : ℕ) (rest : List ℕ) → low ≤ x → x < 4294967295 → above_at low (spelled (x - low) ++ rest) ≡ Some (x, rest)
above-read low x rest up small =
    let fits : x - low < 128 ^ (8 + 1) = omega (arith, small) in
    let again : low + (x - low) ≡ x = omega (arith, up) in
    ap (λ (p : Option (ℕ × List ℕ)). followed_by p (λ gap behind. cond (ltb (low + gap) 4294967295) (Some (low + gap, behind)) None))
    (number-read 8 (x - low) rest fits)
    ∙ ap (λ (y : ℕ). cond (ltb y 4294967295) (Some (y, rest)) None) again
    ∙ ap (λ (b : Bool). cond b (Some (x, rest)) None) (lt-ltb x 4294967295 small)

pub gaps-read : (low : ℕ) (xs rest : List ℕ) → AscendFrom low xs → gaps_at (length xs) low (gaps low xs ++ rest) ≡ Some (xs, rest)
gaps-read low [] rest h = refl
gaps-read low (x ∷ xs) rest h =
    ap (λ (bs : List ℕ). followed_by (above_at low bs) (go_on (length xs))) (append_assoc (spelled (x - low)) (gaps (x + 1) xs) rest)
    ∙ ap (λ (p : Option (ℕ × List ℕ)). followed_by p (go_on (length xs))) (above-read low x (gaps (x + 1) xs ++ rest) h.0 h.1)
    ∙ ap (in_front x) (gaps-read (x + 1) xs rest h.2)

-- ---- in the midst of a reading

one-more : (n low : ℕ) (bs : List ℕ) → 0 < n → gaps_at n low bs ≡ followed_by (above_at low bs) (go_on (n - 1))
one-more zero low bs h = absurd (omega (arith, h))
one-more (suc n) low bs h =
    let e : n ≡ suc n - 1 = omega arith in
    ap (λ (k : ℕ). followed_by (above_at low bs) (go_on k)) e

module _ (xs bs : List ℕ) (n low : ℕ) (all : Option (List ℕ × List ℕ)) (told : in_front_of_all xs (gaps_at n low bs) ≡ all) (some : 0 < n) where
  -- what is left begins with no such number
  pub stops : above_at low bs ≡ None → None ≡ all
  stops none =
      sym (ap (λ (r : Option (ℕ × List ℕ)). in_front_of_all xs (followed_by r (go_on (n - 1)))) none)
      ∙ sym (ap (in_front_of_all xs) (one-more n low bs some)) ∙ told

  -- it begins with one
  pub goes-on : (x : ℕ) (rest : List ℕ) → above_at low bs ≡ Some (x, rest) → in_front_of_all (xs ++ x ∷ []) (gaps_at (n - 1) (x + 1) rest) ≡ all
  goes-on x rest read =
      behind (gaps_at (n - 1) (x + 1) rest)
      ∙ sym (ap (λ (r : Option (ℕ × List ℕ)). in_front_of_all xs (followed_by r (go_on (n - 1)))) read)
      ∙ sym (ap (in_front_of_all xs) (one-more n low bs some)) ∙ told
    where
      behind : (r : Option (List ℕ × List ℕ)) → in_front_of_all (xs ++ x ∷ []) r ≡ in_front_of_all xs (in_front x r)
      behind None = refl
      behind (Some p) = ap (λ (ys : List ℕ). Some (ys, p.1)) (append_assoc xs (x ∷ []) p.0)

-- nothing is left to be read
pub ends : (xs bs : List ℕ) (n low : ℕ) (all : Option (List ℕ × List ℕ)) → in_front_of_all xs (gaps_at n low bs) ≡ all → n ≡ 0 → Some (xs, bs) ≡ all
ends xs bs n low all told none =
    ap (λ (ys : List ℕ). Some (ys, bs)) (sym (append-nil xs)) ∙ sym (ap (λ (k : ℕ). in_front_of_all xs (gaps_at k low bs)) none) ∙ told

-- ---- numbers that are read ascend, and are as many as were asked for

behind-ascend : (n low x : ℕ) (r : Option (List ℕ × List ℕ)) → low ≤ x → x < 4294967295 →
    IfSome r (λ p. AscendFrom (x + 1) p.0 × (length p.0 ≡ n)) → IfSome (in_front x r) (λ p. AscendFrom low p.0 × (length p.0 ≡ suc n))
behind-ascend n low x None le less up = tt
behind-ascend n low x (Some p) le less up = ((le, less, up.0), omega (arith, up.1))

pub gaps-ascend : (n low : ℕ) (bs : List ℕ) → IfSome (gaps_at n low bs) (λ p. AscendFrom low p.0 × (length p.0 ≡ n))
gaps-ascend zero low bs = (tt, refl)
gaps-ascend (suc n) low bs = go (λ x rest. gaps-ascend n (x + 1) rest) (number_at 8 bs)
  where
    Ascend : Option (List ℕ × List ℕ) → Type 0
    Ascend r = IfSome r (λ p. AscendFrom low p.0 × (length p.0 ≡ suc n))

    go : ((x : ℕ) (rest : List ℕ) → IfSome (gaps_at n (x + 1) rest) (λ p. AscendFrom (x + 1) p.0 × (length p.0 ≡ n))) → (o : Option (ℕ × List ℕ)) →
        Ascend (followed_by (followed_by o (λ gap rest. cond (ltb (low + gap) 4294967295) (Some (low + gap, rest)) None)) (go_on n))
    go others None = tt
    go others (Some p) = elim (cases_lt (low + p.0) 4294967295) [
      | inl less ↦ subst (λ b. Ascend (followed_by (cond b (Some (low + p.0, p.1)) None) (go_on n))) (sym (lt-ltb (low + p.0) 4294967295 less))
          (behind-ascend n low (low + p.0) (gaps_at n (low + p.0 + 1) p.1) (omega arith) less (others (low + p.0) p.1))
      | inr past ↦ subst (λ b. Ascend (followed_by (cond b (Some (low + p.0, p.1)) None) (go_on n))) (sym (le-ltb (low + p.0) 4294967295 past)) tt
    ]
