-- What a reading of a row's postings, or of its positions, is in the midst of.
use Rattle.std.proofs.Common.{◌≡◌, ℕ, zero, suc, ◌+◌, ◌-◌, ◌<◌, ◌≤◌, ◌&&◌, ◌⊎◌, Bool, true, false, cond, ltb, List, [], ◌∷◌, ◌++◌, Option, Some, None, refl, ap, sym, ◌∙◌, append_assoc, append-nil, arith, inl, inr, is_some}
use Rattle.std.specs.Prelude.{nat_le}
use Rattle.std.proofs.lemmas.Bool.{false≢true, lt-leb, le-leb, le-ltb, lt-ltb}
use Rattle.std.proofs.lemmas.Option.{same_Some}
use Rattle.qm_store.specs.RowBytes.{Postings, behind_both, followed_by, gaps_at, in_front_of_all, in_front_of_both, places_at, posting_at, postings_at}

-- ---- postings

abbrev go_on : ℕ → ℕ → ℕ × ℕ → List ℕ → Option Postings
go_on n low p rest =
    cond (ltb (low + p.0) 4294967295 && nat_le p.1 4294967295) (in_front_of_both (low + p.0) p.1 (postings_at n (low + p.0 + 1) rest)) None

one-more : (n low : ℕ) (bs : List ℕ) → 0 < n → postings_at n low bs ≡ followed_by (posting_at bs) (go_on (n - 1) low)
one-more zero low bs h = absurd (omega (arith, h))
one-more (suc n) low bs h =
    let e : n ≡ suc n - 1 = omega arith in
    ap (λ (k : ℕ). followed_by (posting_at bs) (go_on k low)) e

module _ (ds fs bs : List ℕ) (n low : ℕ) (all : Option Postings) (told : behind_both ds fs (postings_at n low bs) ≡ all) (some : 0 < n) where
  -- what is left begins with no posting
  pub stops : posting_at bs ≡ None → None ≡ all
  stops none =
      sym (ap (λ (r : Option ((ℕ × ℕ) × List ℕ)). behind_both ds fs (followed_by r (go_on (n - 1) low))) none)
      ∙ sym (ap (behind_both ds fs) (one-more n low bs some)) ∙ told

  module _ (gap f : ℕ) (rest : List ℕ) (read : posting_at bs ≡ Some ((gap, f), rest)) where
    here : behind_both ds fs (go_on (n - 1) low (gap, f) rest) ≡ all
    here =
        sym (ap (λ (r : Option ((ℕ × ℕ) × List ℕ)). behind_both ds fs (followed_by r (go_on (n - 1) low))) read)
        ∙ sym (ap (behind_both ds fs) (one-more n low bs some)) ∙ told

    abbrev next : Option Postings
    next = in_front_of_both (low + gap) f (postings_at (n - 1) (low + gap + 1) rest)

    none-passes : (a b : Bool) → (a ≡ false) ⊎ (b ≡ false) → (a && b) ≡ false
    none-passes true b (inl fails) = absurd (false≢true (sym fails))
    none-passes false b (inl fails) = refl
    none-passes true b (inr fails) = fails
    none-passes false b (inr fails) = refl

    -- it begins with one that is too great
    pub passes : (4294967295 ≤ low + gap) ⊎ (4294967295 < f) → None ≡ all
    passes great =
        let out : (ltb (low + gap) 4294967295 && nat_le f 4294967295) ≡ false = none-passes (ltb (low + gap) 4294967295) (nat_le f 4294967295) (elim great [
          | inl document ↦ inl (le-ltb (low + gap) 4294967295 document)
          | inr often ↦ inr (lt-leb f 4294967295 often)
        ]) in
        sym (ap (λ (b : Bool). behind_both ds fs (cond b next None)) out) ∙ here

    -- it begins with one that is taken
    pub goes-on : low + gap < 4294967295 → f ≤ 4294967295 →
        behind_both (ds ++ (low + gap) ∷ []) (fs ++ f ∷ []) (postings_at (n - 1) (low + gap + 1) rest) ≡ all
    goes-on less few =
        behind (postings_at (n - 1) (low + gap + 1) rest)
        ∙ sym (λ i. behind_both ds fs (cond (lt-ltb (low + gap) 4294967295 less i && le-leb f 4294967295 few i) next None))
        ∙ here
      where
        behind : (r : Option Postings) → behind_both (ds ++ (low + gap) ∷ []) (fs ++ f ∷ []) r ≡ behind_both ds fs (in_front_of_both (low + gap) f r)
        behind None = refl
        behind (Some p) = λ i. Some ((append_assoc ds ((low + gap) ∷ []) p.0.0 i, append_assoc fs (f ∷ []) p.0.1 i), p.1)

-- nothing is left to be read
pub ends : (ds fs bs : List ℕ) (n low : ℕ) (all : Option Postings) → behind_both ds fs (postings_at n low bs) ≡ all → n ≡ 0 → Some ((ds, fs), bs) ≡ all
ends ds fs bs n low all told none =
    (λ i. Some ((sym (append-nil ds) i, sym (append-nil fs) i), bs))
    ∙ sym (ap (λ (k : ℕ). behind_both ds fs (postings_at k low bs)) none) ∙ told

-- ---- positions

abbrev then_places : List ℕ → List ℕ → List ℕ → Option (List ℕ × List ℕ)
then_places fs xs rest = in_front_of_all xs (places_at fs rest)

behind-behind : (xs ys : List ℕ) (r : Option (List ℕ × List ℕ)) → in_front_of_all (xs ++ ys) r ≡ in_front_of_all xs (in_front_of_all ys r)
behind-behind xs ys None = refl
behind-behind xs ys (Some p) = ap (λ (zs : List ℕ). Some (zs, p.1)) (append_assoc xs ys p.0)

module _ (old bs : List ℕ) (f : ℕ) (fs : List ℕ) (all : Option (List ℕ × List ℕ)) (told : in_front_of_all old (places_at (f ∷ fs) bs) ≡ all) where
  -- those of one posting were read
  pub places-next : (new rest : List ℕ) → Some (new, rest) ≡ in_front_of_all old (gaps_at f 0 bs) → in_front_of_all new (places_at fs rest) ≡ all
  places-next new rest read = go (gaps_at f 0 bs) read ∙ told
    where
      go : (r : Option (List ℕ × List ℕ)) → Some (new, rest) ≡ in_front_of_all old r →
          in_front_of_all new (places_at fs rest) ≡ in_front_of_all old (followed_by r (then_places fs))
      go None read = absurd (false≢true (sym (ap is_some read)))
      go (Some p) read =
          let same = same_Some (new, rest) (old ++ p.0, p.1) read in
          (λ i. in_front_of_all ((same i).0) (places_at fs ((same i).1))) ∙ behind-behind old p.0 (places_at fs p.1)

  -- they are not there
  pub places-stop : None ≡ in_front_of_all old (gaps_at f 0 bs) → None ≡ all
  places-stop none = go (gaps_at f 0 bs) none ∙ told
    where
      go : (r : Option (List ℕ × List ℕ)) → None ≡ in_front_of_all old r → None ≡ in_front_of_all old (followed_by r (then_places fs))
      go None none = refl
      go (Some p) none = absurd (false≢true (ap is_some none))
