-- The bits and the cells of a stretch, by their places.
use Rattle.std.proofs.Common.{◌≡◌, ◌≢◌, ◌∙◌, ℕ, ◌+◌, ◌-◌, ◌<◌, ◌≤◌, ◌==◌, ◌&&◌, false, not, cond, List, nat_le, get_or, set, length, ap, arith, eq-eqb, inl, inr, ne_eqb, refl, sym}
use Rattle.std.proofs.lemmas.Bool.{cases_eq, cases_lt, le-leb, lt-leb}
use Rattle.std.proofs.lemmas.List.{get_or-set_other, get_or-set_same}
use Rattle.qm_docset.specs.Words.{words_have}
use Rattle.qm_docset.specs.declared.tiny_set.TinySet.{TinySet}
use Rattle.qm_combine.proofs.WindowWords.{get_or-past, get_or-there, has_at, has_at-before, has_at-from}

-- the cell of a document
abbrev pub cell_at : {X : Type 0} → ℕ → List X → X → ℕ → X
cell_at start cells clear d = cond (nat_le start d) (get_or cells (d - start) clear) clear

module _ {X : Type 0} (start : ℕ) (cells : List X) (clear v : X) (doc : ℕ) (low : start ≤ doc) where
  pub cell_put : doc - start < length cells → cell_at start (set cells (doc - start) v) clear doc ≡ v
  cell_put inside = rw (le-leb start doc low) (get_or-set_same cells (doc - start) v clear inside)

  pub cell_other : (d : ℕ) → d ≢ doc → cell_at start (set cells (doc - start) v) clear d ≡ cell_at start cells clear d
  cell_other d other = elim (cases_lt d start) [
    | inl before ↦ rw (lt-leb start d before) refl
    | inr past ↦
        let apart : d - start ≢ doc - start = λ e. absurd (other (omega (arith, e, past, low))) in
        rw (le-leb start d past) (get_or-set_other cells (doc - start) (d - start) v clear apart)
  ]

  pub cell_here : cell_at start cells clear doc ≡ get_or cells (doc - start) clear
  cell_here = rw (le-leb start doc low) refl

-- what is read at its place, whatever stands for one that is not there
pub cell_read : {X : Type 0} (start : ℕ) (cells xs : List X) (clear : X) (doc : ℕ) → start ≤ doc → doc - start < length cells → xs ≡ cells
    → (d : X) → get_or xs (doc - start) d ≡ cell_at start cells clear doc
cell_read start cells xs clear doc low inside same d =
    ap (λ (ys : List _). get_or ys (doc - start) d) same ∙ get_or-there cells (doc - start) d clear inside
    ∙ sym (cell_here start cells clear clear doc low)

-- a document that is taken out, by its place
pub has_at-taken : (start doc : ℕ) (words less : List TinySet) → start ≤ doc → ((x : ℕ) → words_have less x ≡ (words_have words x && not (x == doc - start)))
    → (d : ℕ) → has_at start less d ≡ (has_at start words d && not (d == doc))
has_at-taken start doc words less low is d =
    elim (cases_lt d start) [
      | inl before ↦ has_at-before start less d before ∙ sym (rw (has_at-before start words d before) refl)
      | inr past ↦
          let same : (d - start == doc - start) ≡ (d == doc) = elim (cases_eq d doc) [
            | inl e ↦ rw (eq-eqb d doc e, eq-eqb (d - start) (doc - start) (omega (arith, e))) refl
            | inr other ↦ rw (ne_eqb d doc other, ne_eqb (d - start) (doc - start) (λ e. absurd (other (omega (arith, e, past, low))))) refl
          ] in
          has_at-from start less d past ∙ is (d - start) ∙ rw (same, has_at-from start words d past) refl
    ]

-- where all cells are clear, those of other documents are too, and none is there
pub clear_cells : {X : Type 0} (start : ℕ) (cells : List X) (clear : X) → ((d : ℕ) → cell_at start cells clear d ≡ clear) → (x : ℕ) → get_or cells x clear ≡ clear
clear_cells start cells clear all x =
    let at : start + x - start ≡ x = omega arith in
    sym (rw (le-leb start (start + x) (omega arith)) (ap (λ (i : ℕ). get_or cells i clear) at)) ∙ all (start + x)

pub clear_words : (start : ℕ) (words : List TinySet) → ((d : ℕ) → has_at start words d ≡ false) → (x : ℕ) → words_have words x ≡ false
clear_words start words none x =
    let at : start + x - start ≡ x = omega arith in
    ap (words_have words) (sym at) ∙ sym (has_at-from start words (start + x) (omega arith)) ∙ none (start + x)

pub all_clear : {X : Type 0} (start : ℕ) (cells : List X) (clear : X) → ((x : ℕ) → get_or cells x clear ≡ clear) → (d : ℕ) → cell_at start cells clear d ≡ clear
all_clear start cells clear all d = elim (cases_lt d start) [
  | inl before ↦ rw (lt-leb start d before) refl
  | inr past ↦ rw (le-leb start d past) (all (d - start))
]

pub none_there : (start : ℕ) (words : List TinySet) → ((x : ℕ) → words_have words x ≡ false) → (d : ℕ) → has_at start words d ≡ false
none_there start words none d = elim (cases_lt d start) [
  | inl before ↦ has_at-before start words d before
  | inr past ↦ has_at-from start words d past ∙ none (d - start)
]

-- cells that are clear are lengthened by clear ones
pub clear_resized : {X : Type 0} (cells more : List X) (clear : X) (n : ℕ) → ((x : ℕ) → get_or cells x clear ≡ clear) → length more ≡ n
    → ((k : ℕ) → k < n → k < length cells → get_or more k clear ≡ get_or cells k clear) → ((k : ℕ) → length cells ≤ k → k < n → get_or more k clear ≡ clear)
    → (x : ℕ) → get_or more x clear ≡ clear
clear_resized cells more clear n all long kept added x = elim (cases_lt x n) [
  | inl below ↦ elim (cases_lt x (length cells)) [
    | inl inside ↦ kept x below inside ∙ all x
    | inr past ↦ added x past below
  ]
  | inr past ↦ get_or-past more x clear (omega (arith, long, past))
]
