-- A row that some bytes are has documents that ascend, a frequency for each, and positions of each posting or of none.
use Rattle.std.proofs.Common.{◌≡◌, ℕ, zero, suc, ◌+◌, ◌≤◌, ◌<◌, ◌&&◌, ◌⊎◌, Bool, true, false, cond, ltb, List, [], ◌∷◌, length, Option, None, Some, refl, ap, sym, subst, ◌∙◌, arith, inl, inr}
use Rattle.std.specs.Prelude.{IfSome, nat_le}
use Rattle.std.proofs.lemmas.Bool.{cases_Bool, cases_lt, le-ltb, lt-ltb}
use Rattle.std.proofs.lemmas.List.{drop_at, take_at}
use Rattle.qm_postings.specs.Positions.{ArePositions}
use Rattle.qm_postings.specs.Rows.{ArePlaces}
use Rattle.qm_postings.specs.RowsSoFar.{IsLaid}
use Rattle.qm_postings.specs.Segment.{AscendFrom}
use Rattle.qm_schema.specs.Term.{TermKey}
use Rattle.qm_store.specs.Numbers.{number_at}
use Rattle.qm_store.specs.RowBytes.{Postings, ended, followed_by, gaps_at, in_front_of_all, in_front_of_both, placed_at, places_at, posting_at, postings_at, row_at}
use Rattle.qm_store.proofs.GapBytes.{gaps-ascend}

-- ---- postings

abbrev Ascend : ℕ → Option Postings → Type 0
Ascend low r = IfSome r (λ p. AscendFrom low p.0.0 × (length p.0.1 ≡ length p.0.0))

behind-ascend : (low d f : ℕ) (r : Option Postings) → low ≤ d → d < 4294967295 → Ascend (d + 1) r → Ascend low (in_front_of_both d f r)
behind-ascend low d f None le less up = tt
behind-ascend low d f (Some p) le less up = ((le, less, up.0), omega (arith, up.1))

postings-ascend : (n low : ℕ) (bs : List ℕ) → Ascend low (postings_at n low bs)
postings-ascend zero low bs = (tt, refl)
postings-ascend (suc n) low bs = go (λ d rest. postings-ascend n (d + 1) rest) (posting_at bs)
  where
    next : ℕ → ℕ → List ℕ → Option Postings
    next d f rest = in_front_of_both d f (postings_at n (d + 1) rest)

    taken : (d f : ℕ) (rest : List ℕ) (few : Bool) → low ≤ d → Ascend (d + 1) (postings_at n (d + 1) rest) →
        Ascend low (cond (ltb d 4294967295 && few) (next d f rest) None)
    taken d f rest few le others = elim (cases_lt d 4294967295) [
      | inl less ↦ subst (λ b. Ascend low (cond (b && few) (next d f rest) None)) (sym (lt-ltb d 4294967295 less)) (both few less)
      | inr past ↦ subst (λ b. Ascend low (cond (b && few) (next d f rest) None)) (sym (le-ltb d 4294967295 past)) tt
    ]
      where
        both : (few : Bool) → d < 4294967295 → Ascend low (cond few (next d f rest) None)
        both true less = behind-ascend low d f (postings_at n (d + 1) rest) le less others
        both false less = tt

    go : ((d : ℕ) (rest : List ℕ) → Ascend (d + 1) (postings_at n (d + 1) rest)) → (o : Option ((ℕ × ℕ) × List ℕ)) →
        Ascend low (followed_by o (λ p rest. cond (ltb (low + p.0) 4294967295 && nat_le p.1 4294967295) (next (low + p.0) p.1 rest) None))
    go others None = tt
    go others (Some p) = taken (low + p.0.0) p.0.1 p.1 (nat_le p.0.1 4294967295) (omega arith) (others (low + p.0.0) p.1)

-- ---- positions

abbrev Placed : List ℕ → Option (List ℕ × List ℕ) → Type 0
Placed fs r = IfSome r (λ p. ArePlaces fs p.0)

behind-placed : (f : ℕ) (fs xs : List ℕ) (r : Option (List ℕ × List ℕ)) → AscendFrom 0 xs → length xs ≡ f → Placed fs r → Placed (f ∷ fs) (in_front_of_all xs r)
behind-placed f fs xs None up count placed = tt
behind-placed f fs xs (Some p) up count placed =
    let own = take_at xs p.0 f count in (
      ap length own ∙ count,
      subst ArePositions (sym own) up,
      subst (ArePlaces fs) (sym (drop_at xs p.0 f count)) placed,
    )

places-placed : (fs bs : List ℕ) → Placed fs (places_at fs bs)
places-placed [] bs = refl
places-placed (f ∷ fs) bs = go (gaps_at f 0 bs) (gaps-ascend f 0 bs) (λ rest. places-placed fs rest)
  where
    go : (o : Option (List ℕ × List ℕ)) → IfSome o (λ p. AscendFrom 0 p.0 × (length p.0 ≡ f)) → ((rest : List ℕ) → Placed fs (places_at fs rest)) →
        Placed (f ∷ fs) (followed_by o (λ xs rest. in_front_of_all xs (places_at fs rest)))
    go None own others = tt
    go (Some p) own others = behind-placed f fs p.0 (places_at fs p.1) own.0 own.1 (others p.1)

-- ---- a row

module _ (term : TermKey) (p : List ℕ × List ℕ) (up : AscendFrom 0 p.0) (paired : length p.1 ≡ length p.0) where
  ended-laid : (ps bs : List ℕ) → (ps ≡ []) ⊎ ArePlaces p.1 ps → IfSome (ended term p ps bs) IsLaid
  ended-laid ps [] placed = record { ascending = up; paired = paired; placed = placed }
  ended-laid ps (b ∷ bs) placed = tt

  placed-laid : (keeps : Bool) (bs : List ℕ) → IfSome (placed_at term keeps p bs) IsLaid
  placed-laid false bs = ended-laid [] bs (inl refl)
  placed-laid true bs = go (places_at p.1 bs) (places-placed p.1 bs)
    where
      go : (o : Option (List ℕ × List ℕ)) → Placed p.1 o → IfSome (followed_by o (ended term p)) IsLaid
      go None placed = tt
      go (Some q) placed = ended-laid q.0 q.1 (inr placed)

pub read-laid : (term : TermKey) (keeps : Bool) (bs : List ℕ) → IfSome (row_at term keeps bs) IsLaid
read-laid term keeps bs = go (number_at 8 bs)
  where
    read : (o : Option Postings) → Ascend 0 o → IfSome (followed_by o (placed_at term keeps)) IsLaid
    read None up = tt
    read (Some p) up = placed-laid term p.0 up.0 up.1 keeps p.1

    go : (o : Option (ℕ × List ℕ)) →
        IfSome (followed_by o (λ count rest. cond (nat_le count (length rest)) (followed_by (postings_at count 0 rest) (placed_at term keeps)) None)) IsLaid
    go None = tt
    go (Some q) = elim (cases_Bool (nat_le q.0 (length q.1))) [
      | inl fits ↦ subst (λ b. IfSome (cond b (followed_by (postings_at q.0 0 q.1) (placed_at term keeps)) None) IsLaid) (sym fits)
          (read (postings_at q.0 0 q.1) (postings-ascend q.0 0 q.1))
      | inr past ↦ subst (λ b. IfSome (cond b (followed_by (postings_at q.0 0 q.1) (placed_at term keeps)) None) IsLaid) (sym past) tt
    ]
