-- The rows of terms that ascend, by those of each term.
use Rattle.std.proofs.Common.{◌≡◌, ℕ, ◌+◌, ◌<◌, ◌≤◌, Bool, true, false, ◌||◌, cond, zero, suc, List, [], ◌∷◌, ◌++◌, get_or, length, map, take, refl, ap, sym, subst, ◌∙◌, arith, inl, inr}
use Rattle.std.specs.List.{AllByRecursion}
use Rattle.std.specs.List.Sorted.{IsStrictlySortedBy}
use Rattle.std.specs.Ordering.{eq_by_cmp, is_eq}
use Rattle.std.specs.declared.cmp.Ordering.TheVariants.{Less}
use Rattle.std.proofs.lemmas.Bool.{cases_Bool, cases_lt}
use Rattle.std.proofs.lemmas.List.{get_or-map, length-map}
use Rattle.std.proofs.lemmas.List.Folds.{list_any_more}
use Rattle.std.proofs.lemmas.Map.Keys.{Less-from_sorted, sorted_head, sorted_tail}
use Rattle.qm_postings.specs.Restriction.{rows_wanted}
use Rattle.qm_postings.specs.Numbering.{no_term}
use Rattle.qm_postings.specs.Rows.{Row, no_row}
use Rattle.qm_postings.specs.TermRange.{IsStartOf}
use Rattle.qm_schema.specs.Term.{TermKey, same_term, term_cmp, term_cmp_total, term_eq_laws}
use Rattle.qm_script.specs.Wanted.{is_wanted}

abbrev pub terms_of : List Row → List TermKey
terms_of rows = map (λ r. r.term) rows

abbrev is_same : TermKey → TermKey → Bool
is_same t u = eq_by_cmp term_cmp t u

-- ---- one of two terms comes before the other

not-both : (t u : TermKey) → term_cmp t u ≡ Less → term_cmp u t ≡ Less → ⊥
not-both t u less more = let turned = sym less ∙ term_cmp_total.antisymm t u in cc

less-apart : (t u : TermKey) → term_cmp t u ≡ Less → is_same t u ≡ false
less-apart t u less = ap is_eq less

more-apart : (t u : TermKey) → term_cmp u t ≡ Less → is_same t u ≡ false
more-apart t u less = term_eq_laws.symm t u ∙ ap is_eq less

-- ---- the rows of one term

module _ (t : TermKey) where
  pub no-row : (rows : List Row) → AllByRecursion (λ u. is_same t u ≡ false) (terms_of rows) → rows_wanted (is_same t) rows ≡ []
  no-row [] none = refl
  no-row (r ∷ rows) none = ap (λ b. cond b (r ∷ rows_wanted (is_same t) rows) (rows_wanted (is_same t) rows)) none.0 ∙ no-row rows none.1

  behind-apart : (ts : List TermKey) → AllByRecursion (λ u. term_cmp t u ≡ Less) ts → AllByRecursion (λ u. is_same t u ≡ false) ts
  behind-apart [] less = tt
  behind-apart (u ∷ ts) less = (less-apart t u less.0, behind-apart ts less.1)

  pub one-row : (rows : List Row) (place : ℕ) (d : Row) → IsStrictlySortedBy term_cmp (terms_of rows) → place < length rows →
      (get_or rows place d).term ≡ t → rows_wanted (is_same t) rows ≡ get_or rows place d ∷ []
  one-row [] place d sorted within is = absurd (omega (arith, within))
  one-row (r ∷ rows) zero d sorted within is =
      let own : is_same t r.term ≡ true = (same_term t r.term).1 (sym is) in
      let less = subst (λ u. AllByRecursion (λ v. term_cmp u v ≡ Less) (terms_of rows)) is (sorted_head term_cmp r.term (terms_of rows) sorted) in
      ap (λ b. cond b (r ∷ rows_wanted (is_same t) rows) (rows_wanted (is_same t) rows)) own
      ∙ ap (λ l. r ∷ l) (no-row rows (behind-apart (terms_of rows) less))
  one-row (r ∷ rows) (suc k) d sorted within is =
      let less : term_cmp r.term t ≡ Less = first-less rows k d (sorted_head term_cmp r.term (terms_of rows) sorted) (omega (arith, within)) is in
      ap (λ b. cond b (r ∷ rows_wanted (is_same t) rows) (rows_wanted (is_same t) rows)) (more-apart t r.term less)
      ∙ one-row rows k d (sorted_tail term_cmp r.term (terms_of rows) sorted) (omega (arith, within)) is
    where
      first-less : (qs : List Row) (j : ℕ) (e : Row) → AllByRecursion (λ v. term_cmp r.term v ≡ Less) (terms_of qs) → j < length qs →
          (get_or qs j e).term ≡ t → term_cmp r.term t ≡ Less
      first-less [] j e less below own = absurd (omega (arith, below))
      first-less (q ∷ qs) zero e less below own = ap (term_cmp r.term) (sym own) ∙ less.0
      first-less (q ∷ qs) (suc j) e less below own = first-less qs j e less.1 (omega (arith, below)) own

-- ---- the rows of terms that come before one, and those of that

module _ (wanted : TermKey → Bool) (t : TermKey) (before : (u : TermKey) → wanted u ≡ true → term_cmp u t ≡ Less) where
  abbrev or_same : TermKey → Bool
  or_same u = wanted u || is_same u t

  none-behind : (rows : List Row) → AllByRecursion (λ u. term_cmp t u ≡ Less) (terms_of rows) → rows_wanted wanted rows ≡ []
  none-behind [] less = refl
  none-behind (r ∷ rows) less = elim (cases_Bool (wanted r.term)) [
    | inl is ↦ absurd (not-both t r.term less.0 (before r.term is))
    | inr out ↦ ap (λ b. cond b (r ∷ rows_wanted wanted rows) (rows_wanted wanted rows)) out ∙ none-behind rows less.1
  ]

  pub wanted-and_same : (rows : List Row) → IsStrictlySortedBy term_cmp (terms_of rows) →
      rows_wanted or_same rows ≡ rows_wanted wanted rows ++ rows_wanted (is_same t) rows
  wanted-and_same [] sorted = refl
  wanted-and_same (r ∷ rows) sorted =
      let behind = λ (same : is_same r.term t ≡ true). none-behind rows
      (subst (λ u. AllByRecursion (λ v. term_cmp u v ≡ Less) (terms_of rows)) ((same_term r.term t).0 same) (sorted_head term_cmp r.term (terms_of rows) sorted)) in
      go (rows_wanted or_same rows) (rows_wanted wanted rows) (rows_wanted (is_same t) rows) (wanted r.term) (is_same r.term t) refl refl behind
      (wanted-and_same rows (sorted_tail term_cmp r.term (terms_of rows) sorted))
    where
      go : (all some own : List Row) (b c : Bool) → wanted r.term ≡ b → is_same r.term t ≡ c → (is_same r.term t ≡ true → some ≡ []) → all ≡ some ++ own →
          cond (or_same r.term) (r ∷ all) all ≡ cond (wanted r.term) (r ∷ some) some ++ cond (is_same t r.term) (r ∷ own) own
      go all some own true c is same none rest =
          let apart = more-apart t r.term (before r.term is) in
          (λ i. cond (is i || is_same r.term t) (r ∷ all) all) ∙ ap (λ l. r ∷ l) rest
          ∙ sym (λ i. cond (is i) (r ∷ some) some ++ cond (apart i) (r ∷ own) own)
      go all some own false true out same none rest =
          (λ i. cond (out i || same i) (r ∷ all) all) ∙ ap (λ l. r ∷ l) rest ∙ (λ i. r ∷ (none same i ++ own))
          ∙ sym ((λ i. cond (out i) (r ∷ some) some ++ cond ((term_eq_laws.symm t r.term ∙ same) i) (r ∷ own) own) ∙ (λ i. none same i ++ (r ∷ own)))
      go all some own false false out other none rest =
          (λ i. cond (out i || other i) (r ∷ all) all) ∙ rest
          ∙ sym (λ i. cond (out i) (r ∷ some) some ++ cond ((term_eq_laws.symm t r.term ∙ other) i) (r ∷ own) own)

-- ---- one term more

among-first : (ts : List TermKey) (t u : TermKey) → AllByRecursion (λ v. term_cmp v t ≡ Less) ts → is_wanted ts u ≡ true → term_cmp u t ≡ Less
among-first [] t u less is = absurd (cc is)
among-first (v ∷ ts) t u less is = elim (cases_Bool (is_same u v)) [
  | inl same ↦ ap (λ w. term_cmp w t) ((same_term u v).0 same) ∙ less.0
  | inr other ↦ among-first ts t u less.1 (sym (ap (λ b. b || is_wanted ts u) other) ∙ is)
]

taken-less : (ts : List TermKey) (i : ℕ) (d : TermKey) → IsStrictlySortedBy term_cmp ts → i < length ts →
    AllByRecursion (λ v. term_cmp v (get_or ts i d) ≡ Less) (take i ts)
taken-less ts zero d sorted within = tt
taken-less [] (suc i) d sorted within = absurd (omega (arith, within))
taken-less (v ∷ ts) (suc i) d sorted within = (
  Less-from_sorted term_cmp (v ∷ ts) 0 (suc i) d sorted (omega arith) within,
  taken-less ts i d (sorted_tail term_cmp v ts sorted) (omega (arith, within)),
)

pub wanted-next : (ts : List TermKey) (i : ℕ) (d : TermKey) (rows : List Row) → IsStrictlySortedBy term_cmp ts → i < length ts →
    IsStrictlySortedBy term_cmp (terms_of rows) →
    rows_wanted (is_wanted (take (i + 1) ts)) rows ≡ rows_wanted (is_wanted (take i ts)) rows ++ rows_wanted (is_same (get_or ts i d)) rows
wanted-next ts i d rows ascend within sorted =
    let t = get_or ts i d in
    (λ j. rows_wanted (λ u. list_any_more (is_same u) ts i d within j) rows)
    ∙ wanted-and_same (is_wanted (take i ts)) t (λ u is. among-first (take i ts) t u (taken-less ts i d ascend within) is) rows sorted

pub none-wanted : (rows : List Row) → rows_wanted (is_wanted []) rows ≡ []
none-wanted [] = refl
none-wanted (r ∷ rows) = none-wanted rows

-- ---- where a search by halving stands

pub less-before : (rows : List Row) (place : ℕ) (t : TermKey) → IsStrictlySortedBy term_cmp (terms_of rows) → place < length rows →
    term_cmp (get_or rows place no_row).term t ≡ Less → (k : ℕ) → k < place + 1 → term_cmp (get_or (terms_of rows) k no_term) t ≡ Less
less-before rows place t sorted within less k below =
    let at = get_or-map (λ (r : Row). r.term) rows place no_row no_term within in
    let long = length-map rows (λ (r : Row). r.term) in
    let here : term_cmp (get_or (terms_of rows) place no_term) t ≡ Less = ap (λ u. term_cmp u t) at ∙ less in
    elim (cases_lt k place) [
      | inl earlier ↦ term_cmp_total.trans (get_or (terms_of rows) k no_term) (get_or (terms_of rows) place no_term) t
          (Less-from_sorted term_cmp (terms_of rows) k place no_term sorted earlier (omega (arith, within, long))) here
      | inr past ↦ subst (λ j. term_cmp (get_or (terms_of rows) j no_term) t ≡ Less) (let same : place ≡ k = omega (arith, past, below) in same) here
    ]

pub others-behind : (rows : List Row) (place : ℕ) (t : TermKey) → IsStrictlySortedBy term_cmp (terms_of rows) →
    ¬ (term_cmp (get_or rows place no_row).term t ≡ Less) →
    (k : ℕ) → place ≤ k → k < length (terms_of rows) → ¬ (term_cmp (get_or (terms_of rows) k no_term) t ≡ Less)
others-behind rows place t sorted not_less k past within less =
    let long = length-map rows (λ (r : Row). r.term) in
    let at = get_or-map (λ (r : Row). r.term) rows place no_row no_term (omega (arith, past, within, long)) in
    not_less (ap (λ u. term_cmp u t) (sym at) ∙ elim (cases_lt place k) [
      | inl earlier ↦ term_cmp_total.trans (get_or (terms_of rows) place no_term) (get_or (terms_of rows) k no_term) t
          (Less-from_sorted term_cmp (terms_of rows) place k no_term sorted earlier within) less
      | inr level ↦ subst (λ j. term_cmp (get_or (terms_of rows) j no_term) t ≡ Less) (let same : k ≡ place = omega (arith, past, level) in same) less
    ])

-- ---- what stands there

pub found-there : (rows : List Row) (place : ℕ) (t : TermKey) → IsStrictlySortedBy term_cmp (terms_of rows) → place < length rows →
    (get_or rows place no_row).term ≡ t → rows_wanted (is_same t) rows ≡ get_or rows place no_row ∷ []
found-there rows place t sorted within is = one-row t rows place no_row sorted within is

apart-all : (t : TermKey) (rows : List Row) → ((k : ℕ) → k < length rows → ¬ ((get_or rows k no_row).term ≡ t)) →
    AllByRecursion (λ u. is_same t u ≡ false) (terms_of rows)
apart-all t [] none = tt
apart-all t (r ∷ rows) none = (
  elim (cases_Bool (is_same t r.term)) [ inl same ↦ absurd (none 0 (omega arith) (sym ((same_term t r.term).0 same))) | inr other ↦ other ],
  apart-all t rows (λ k below. none (suc k) (omega (arith, below))),
)

-- where none is there, there is none at all
pub none-there : (rows : List Row) (place : ℕ) (t : TermKey) → IsStrictlySortedBy term_cmp (terms_of rows) → IsStartOf t (terms_of rows) place →
    (place < length rows → ¬ ((get_or rows place no_row).term ≡ t)) → rows_wanted (is_same t) rows ≡ []
none-there rows place t sorted start out = no-row t rows (apart-all t rows (λ k within is.
    let long = length-map rows (λ (r : Row). r.term) in
    let at = get_or-map (λ (r : Row). r.term) rows k no_row no_term within ∙ is in
    elim (cases_lt k place) [
      | inl earlier ↦ let less = ap (λ u. term_cmp u t) (sym at) ∙ start.before k earlier in not-both t t less less
      | inr past ↦ elim (cases_lt place k) [
        | inl later ↦ start.others place (omega arith) (omega (arith, later, within, long))
            (ap (term_cmp (get_or (terms_of rows) place no_term)) (sym at)
            ∙ Less-from_sorted term_cmp (terms_of rows) place k no_term sorted later (omega (arith, within, long)))
        | inr level ↦
            let same : k ≡ place = omega (arith, past, level) in
            out (omega (arith, level, within)) (ap (λ (j : ℕ). (get_or rows j no_row).term) (sym same) ∙ is)
      ]
    ]))
