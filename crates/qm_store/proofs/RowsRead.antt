-- A row that was written is read again.
use Rattle.std.proofs.Common.{◌≡◌, ℕ, zero, suc, ◌+◌, ◌-◌, ◌*◌, ◌/◌, ◌%◌, ◌<◌, ◌≤◌, ◌==◌, ◌&&◌, Bool, true, false, cond, ltb, List, [], ◌∷◌, ◌++◌, length, take, drop, get_or, add-one, Option, Some, None, refl, ap, sym, subst, ◌∙◌, append_assoc, append-nil, arith, inl, inr}
use Rattle.std.specs.Prelude.{All, nat_le}
use Rattle.std.proofs.Math.Seq.{drop-cons}
use Rattle.std.proofs.lemmas.Bool.{cases_Bool, cases_eq, eq-eqb, le-leb, lt-ltb}
use Rattle.std.proofs.lemmas.List.{length-append, take-append-drop}
use Rattle.std.proofs.lemmas.List.Elements.{All-head, All-tail}
use Rattle.qm_schema.specs.Schema.{FieldFacts}
use Rattle.qm_postings.specs.Rows.{ArePlaces, IsRow, Row}
use Rattle.qm_postings.specs.Segment.{AscendFrom, keeps_positions}
use Rattle.qm_postings.proofs.ArrayEntries.{drop-nil, take-nil}
use Rattle.qm_postings.proofs.SegmentGrowth.{differ}
use Rattle.qm_store.specs.Numbers.{number_at, number_bytes, spelled}
use Rattle.qm_store.specs.RowBytes.{places_part, postings_part, Postings, ended, followed_by, gaps, gaps_at, in_front_of_all, in_front_of_both, placed_at, places_at, places_bytes}
use Rattle.qm_store.specs.RowBytes.{posting_at, posting_bytes, postings_at, postings_bytes, row_at, row_bytes}
use Rattle.qm_store.proofs.GapBytes.{gaps-read}
use Rattle.qm_store.proofs.NumberBytes.{number-read}

-- ---- a posting

abbrev told : List ℕ → ℕ → List ℕ → Option ((ℕ × ℕ) × List ℕ)
told bs n rest = cond (n % 2 == 1) (Some ((n / 2, 1), rest)) (followed_by (number_at 8 rest) (λ f rest. Some ((n / 2, f), rest)))

abbrev pub IsFrequency : ℕ → Type 0
IsFrequency f = f ≤ 4294967295

posting-read : (gap f : ℕ) (rest : List ℕ) → gap < 4294967296 → f ≤ 4294967295 → posting_at (posting_bytes gap f ++ rest) ≡ Some ((gap, f), rest)
posting-read gap f rest small fits = elim (cases_eq f 1) [
  | inl one ↦
      let odd : (2 * gap + 1) % 2 ≡ 1 = omega arith in
      let half : (2 * gap + 1) / 2 ≡ gap = omega arith in
      ap (λ b. posting_at (cond b (spelled (2 * gap + 1)) (spelled (2 * gap) ++ spelled f) ++ rest)) (eq-eqb f 1 one)
      ∙ ap (λ (r : Option (ℕ × List ℕ)). followed_by r (told rest)) (number-read 8 (2 * gap + 1) rest (omega (arith, small)))
      ∙ ap (λ b. cond b (Some (((2 * gap + 1) / 2, 1), rest)) (followed_by (number_at 8 rest) (λ f rest. Some (((2 * gap + 1) / 2, f), rest))))
      (eq-eqb ((2 * gap + 1) % 2) 1 odd)
      ∙ (λ i. Some ((half i, sym one i), rest))
  | inr other ↦
      let even : (2 * gap) % 2 ≡ 0 = omega arith in
      let half : (2 * gap) / 2 ≡ gap = omega arith in
      ap (λ b. posting_at (cond b (spelled (2 * gap + 1)) (spelled (2 * gap) ++ spelled f) ++ rest)) (differ f 1 other)
      ∙ ap posting_at (append_assoc (spelled (2 * gap)) (spelled f) rest)
      ∙ ap (λ (r : Option (ℕ × List ℕ)). followed_by r (told rest)) (number-read 8 (2 * gap) (spelled f ++ rest) (omega (arith, small)))
      ∙ ap (λ b. cond b (Some (((2 * gap) / 2, 1), spelled f ++ rest)) (followed_by (number_at 8 (spelled f ++ rest)) (λ f rest. Some (((2 * gap) / 2, f), rest))))
      (differ ((2 * gap) % 2) 1 (λ (h : (2 * gap) % 2 ≡ 1). let wrong : ⊥ = omega (arith, h, even) in wrong))
      ∙ ap (λ (r : Option (ℕ × List ℕ)). followed_by r (λ f rest. Some (((2 * gap) / 2, f), rest))) (number-read 8 f rest (omega (arith, fits)))
      ∙ ap (λ (n : ℕ). Some ((n, f), rest)) half
]

abbrev go_on : ℕ → ℕ → ℕ × ℕ → List ℕ → Option Postings
go_on n low p rest =
    cond (ltb (low + p.0) 4294967295 && nat_le p.1 4294967295) (in_front_of_both (low + p.0) p.1 (postings_at n (low + p.0 + 1) rest)) None

pub postings-read : (low : ℕ) (ds fs rest : List ℕ) → AscendFrom low ds → length fs ≡ length ds → All IsFrequency fs →
    postings_at (length ds) low (postings_bytes low ds fs ++ rest) ≡ Some ((ds, fs), rest)
postings-read low [] [] rest up paired fit = refl
postings-read low [] (f ∷ fs) rest up paired fit = absurd (omega (arith, paired))
postings-read low (d ∷ ds) [] rest up paired fit = absurd (omega (arith, paired))
postings-read low (d ∷ ds) (f ∷ fs) rest up paired fit =
    let small : d - low < 4294967296 = omega (arith, up.1) in
    let again : low + (d - low) ≡ d = omega (arith, up.0) in
    let own = All-head IsFrequency f fs fit in
    let others = postings_bytes (d + 1) ds fs in
    ap (λ (bs : List ℕ). followed_by (posting_at bs) (go_on (length ds) low)) (append_assoc (posting_bytes (d - low) f) others rest)
    ∙ ap (λ (r : Option ((ℕ × ℕ) × List ℕ)). followed_by r (go_on (length ds) low)) (posting-read (d - low) f (others ++ rest) small own)
    ∙ ap (λ (y : ℕ). cond (ltb y 4294967295 && nat_le f 4294967295) (in_front_of_both y f (postings_at (length ds) (y + 1) (others ++ rest))) None) again
    ∙ (λ i. cond (lt-ltb d 4294967295 up.1 i && le-leb f 4294967295 own i) (in_front_of_both d f (postings_at (length ds) (d + 1) (others ++ rest))) None)
    ∙ ap (in_front_of_both d f) (postings-read (d + 1) ds fs rest up.2 (omega (arith, paired)) (All-tail IsFrequency f fs fit))

-- ---- positions

pub places-read : (fs ps rest : List ℕ) → ArePlaces fs ps → places_at fs (places_bytes fs ps ++ rest) ≡ Some (ps, rest)
places-read [] ps rest are = ap (λ (qs : List ℕ). Some (qs, rest)) (sym are)
places-read (f ∷ fs) ps rest are =
    let others = places_bytes fs (drop f ps) in
    ap (λ (bs : List ℕ). followed_by (gaps_at f 0 bs) (λ xs rest. in_front_of_all xs (places_at fs rest))) (append_assoc (gaps 0 (take f ps)) others rest)
    ∙ ap (λ (r : Option (List ℕ × List ℕ)). followed_by r (λ xs rest. in_front_of_all xs (places_at fs rest)))
    (ap (λ (n : ℕ). gaps_at n 0 (gaps 0 (take f ps) ++ (others ++ rest))) (sym are.0) ∙ gaps-read 0 (take f ps) (others ++ rest) are.1)
    ∙ ap (in_front_of_all (take f ps)) (places-read fs (drop f ps) rest are.2)
    ∙ ap (λ (qs : List ℕ). Some (qs, rest)) (take-append-drop f ps)

-- a row without positions has none to be written
pub no-places : (fs : List ℕ) → places_bytes fs [] ≡ []
no-places [] = refl
no-places (f ∷ fs) = (λ i. gaps 0 (take-nil f i) ++ places_bytes fs (drop-nil f i)) ∙ no-places fs

-- ---- a row

pub ascend-length : (low : ℕ) (xs : List ℕ) → AscendFrom low xs → low ≤ 4294967295 → low + length xs ≤ 4294967295
ascend-length low [] up small = omega (arith, small)
ascend-length low (x ∷ xs) up small = omega (arith, up.0, ascend-length (x + 1) xs up.2 (omega (arith, up.1)))

pub some-byte : (more n : ℕ) → 0 < length (number_bytes more n)
some-byte zero n = omega arith
some-byte (suc more) n = elim (cases_Bool (ltb n 128)) [
  | inl less ↦ subst (λ b. 0 < length (cond b (n ∷ []) ((n % 128 + 128) ∷ number_bytes more (n / 128)))) (sym less) (omega arith)
  | inr past ↦ subst (λ b. 0 < length (cond b (n ∷ []) ((n % 128 + 128) ∷ number_bytes more (n / 128)))) (sym past) (omega arith)
]

posting-byte : (gap f : ℕ) → 0 < length (posting_bytes gap f)
posting-byte gap f = elim (cases_Bool (f == 1)) [
  | inl one ↦ subst (λ b. 0 < length (cond b (spelled (2 * gap + 1)) (spelled (2 * gap) ++ spelled f))) (sym one) (some-byte 8 (2 * gap + 1))
  | inr other ↦ subst (λ b. 0 < length (cond b (spelled (2 * gap + 1)) (spelled (2 * gap) ++ spelled f))) (sym other)
      (omega (arith, some-byte 8 (2 * gap), length-append (spelled (2 * gap)) (spelled f)))
]

pub postings-bytes : (low : ℕ) (ds fs : List ℕ) → length fs ≡ length ds → length ds ≤ length (postings_bytes low ds fs)
postings-bytes low [] fs paired = omega arith
postings-bytes low (d ∷ ds) [] paired = absurd (omega (arith, paired))
postings-bytes low (d ∷ ds) (f ∷ fs) paired =
    omega (
      arith,
      posting-byte (d - low) f,
      postings-bytes (d + 1) ds fs (omega (arith, paired)),
      length-append (posting_bytes (d - low) f) (postings_bytes (d + 1) ds fs),
    )

-- its postings, and what stands behind them
pub row-read : (schema : List FieldFacts) (count : ℕ) (r : Row) → IsRow schema count r → All IsFrequency r.frequencies →
    row_at r.term (keeps_positions schema r.term.field) (row_bytes r) ≡ Some r
unfolding postings_part places_part
row-read schema count r is fit =
    let postings = postings_bytes 0 r.documents r.frequencies in
    let places = places_bytes r.frequencies r.positions in
    let keeps = keeps_positions schema r.term.field in
    let many = ascend-length 0 r.documents is.ascending (omega arith) in
    let enough : length r.documents ≤ length (postings ++ places) =
    omega (arith, postings-bytes 0 r.documents r.frequencies is.paired, length-append postings places) in
    ap (λ (bs : List ℕ). row_at r.term keeps bs) (append_assoc (spelled (length r.documents)) postings places)
    ∙ ap (λ (x : Option (ℕ × List ℕ)). followed_by x (λ n rest.
    cond (nat_le n (length rest)) (followed_by (postings_at n 0 rest) (placed_at r.term keeps)) None))
    (number-read 8 (length r.documents) (postings ++ places) (omega (arith, many)))
    ∙ ap (λ b. cond b (followed_by (postings_at (length r.documents) 0 (postings ++ places)) (placed_at r.term keeps)) None)
    (le-leb (length r.documents) (length (postings ++ places)) enough)
    ∙ ap (λ (x : Option Postings). followed_by x (placed_at r.term keeps)) (postings-read 0 r.documents r.frequencies places is.ascending is.paired fit)
    ∙ behind keeps is.places is.no_places
  where
    behind : (keeps : Bool) → (keeps ≡ true → ArePlaces r.frequencies r.positions) → (keeps ≡ false → r.positions ≡ []) →
        placed_at r.term keeps (r.documents, r.frequencies) (places_bytes r.frequencies r.positions) ≡ Some r
    behind true places none =
        ap (λ (bs : List ℕ). followed_by (places_at r.frequencies bs) (ended r.term (r.documents, r.frequencies))) (sym (append-nil (places_bytes r.frequencies r.positions)))
        ∙ ap (λ (x : Option (List ℕ × List ℕ)). followed_by x (ended r.term (r.documents, r.frequencies)))
        (places-read r.frequencies r.positions [] (places refl))
    behind false places none =
        ap (λ (ps : List ℕ). ended r.term (r.documents, r.frequencies) [] (places_bytes r.frequencies ps)) (none refl)
        ∙ ap (ended r.term (r.documents, r.frequencies) []) (no-places r.frequencies)
        ∙ ap (λ (ps : List ℕ). Some (record r { positions = ps })) (sym (none refl))

-- ---- in the midst of writing

cut : (p : ℕ) (xs : List ℕ) → p < length xs → drop p xs ≡ get_or xs p 0 ∷ drop (p + 1) xs
cut p xs within = drop-cons xs p 0 within ∙ ap (λ (k : ℕ). get_or xs p 0 ∷ drop k xs) (sym (add-one p))

pub postings-next : (out new all : List ℕ) (low p d f : ℕ) (ds fs : List ℕ) → p < length ds → p < length fs → d ≡ get_or ds p 0 → f ≡ get_or fs p 0 →
    new ≡ out ++ posting_bytes (d - low) f → out ++ postings_bytes low (drop p ds) (drop p fs) ≡ all →
    new ++ postings_bytes (d + 1) (drop (p + 1) ds) (drop (p + 1) fs) ≡ all
postings-next out new all low p d f ds fs within within_too is_d is_f added so_far =
    let rest = postings_bytes (d + 1) (drop (p + 1) ds) (drop (p + 1) fs) in
    ap (λ (l : List ℕ). l ++ rest) added ∙ append_assoc out (posting_bytes (d - low) f) rest
    ∙ (λ i. out ++ (posting_bytes (is_d i - low) (is_f i) ++ postings_bytes (is_d i + 1) (drop (p + 1) ds) (drop (p + 1) fs)))
    ∙ (λ i. out ++ postings_bytes low (sym (cut p ds within) i) (sym (cut p fs within_too) i)) ∙ so_far

pub ascend-next : (low p d : ℕ) (ds : List ℕ) → p < length ds → d ≡ get_or ds p 0 → AscendFrom low (drop p ds) → AscendFrom (d + 1) (drop (p + 1) ds)
ascend-next low p d ds within is up =
    subst (λ (k : ℕ). AscendFrom (k + 1) (drop (p + 1) ds)) (sym is) (subst (AscendFrom low) (cut p ds within) up).2
