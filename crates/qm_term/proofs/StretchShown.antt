-- What cells show as a document is taken out.
use Rattle.std.proofs.Common.{◌≡◌, ◌≢◌, ◌∙◌, ℕ, ℤ, zero, suc, ◌+◌, ◌<◌, ◌≤◌, ◌==◌, ◌&&◌, ◌-◌, true, false, nat_le, not, List, [], ◌∷◌, ap, arith}
use Rattle.std.proofs.Common.{eq-eqb, inl, inr, length, ne_eqb, pos, refl, subst, sym, zero-add}
use Rattle.std.proofs.lemmas.Bool.{and_parts, and_right, cases_Bool, cases_eq, cases_lt, false≢true, leb-true, lt-leb}
use Rattle.qm_docset.specs.Words.{words_have}
use Rattle.qm_term.specs.Cells.{AreAlike, LackAll, RunsOver, Shown, all_shown, cell_of, cells_end, cells_has, cells_start, shown_from}
use Rattle.qm_term.specs.RunCounts.{one_if_above}
use Rattle.qm_term.specs.Runs.{Turn}
use Rattle.qm_term.specs.Stretches.{GoesOn}
use Rattle.qm_term.specs.declared.wand.cells.Cells.{Cells}
use Rattle.qm_docset.specs.Entry.{from}
use Rattle.qm_docset.proofs.MembersLemmas.{and_true}

abbrev pub shown_at : {C : Type 0} → (C → ℕ) → Cells C → ℕ → Shown
shown_at value w d = record { document = d; score = value (cell_of w d).state; bound = (cell_of w d).bound }

module _ {C : Type 0} (value : C → ℕ) (w w' : Cells C) where
  -- from a document on they show the same
  shown_same : (n s : ℕ) → ((d : ℕ) → s ≤ d → (cells_has w' d ≡ cells_has w d) × (cell_of w' d ≡ cell_of w d)) → shown_from value w' s n ≡ shown_from value w s n
  unfolding shown_from
  shown_same zero s same = refl
  shown_same (suc n) s same =
      let here = same s (omega arith) in
      let rest = shown_same n (suc s) (λ d from. same d (omega (arith, from))) in
      elim (cases_Bool (cells_has w s)) [
        | inl y ↦
            let y' : cells_has w' s ≡ true = here.0 ∙ y in
            rw (y, y', here.1, rest) refl
        | inr none ↦
            let none' : cells_has w' s ≡ false = here.0 ∙ none in
            rw (none, none') rest
      ]

  module _ (t : ℕ) (y : cells_has w t ≡ true) (had : (d : ℕ) → cells_has w' d ≡ (cells_has w d && not (d == t)))
      (others : (d : ℕ) → (d == t) ≡ false → cell_of w' d ≡ cell_of w d) where
    gone : cells_has w' t ≡ false
    gone = had t ∙ ap (λ b. cells_has w t && not b) (eq-eqb t t refl) ∙ and_right (cells_has w t) false refl

    kept : (d : ℕ) → d ≢ t → (cells_has w' d ≡ cells_has w d) × (cell_of w' d ≡ cell_of w d)
    kept d other = (had d ∙ ap (λ b. cells_has w d && not b) (ne_eqb d t other) ∙ and_true (cells_has w d), others d (ne_eqb d t other))

    shown_taken : (n s : ℕ) → s ≤ t → t < s + n → ((d : ℕ) → s ≤ d → d < t → cells_has w d ≡ false) →
        shown_from value w s n ≡ shown_at value w t ∷ shown_from value w' s n
    unfolding shown_from
    shown_taken zero s a b none = absurd (omega (arith, a, b))
    shown_taken (suc n) s a b none =
        elim (cases_eq s t) [
          | inl e ↦ subst (λ (x : ℕ). shown_from value w x (suc n) ≡ shown_at value w t ∷ shown_from value w' x (suc n)) (sym e)
              (rw (y, gone) (ap (λ (xs : List Shown). shown_at value w t ∷ xs) (sym (shown_same n (suc t) (λ d from. kept d (λ q. absurd (omega (arith, q, from))))))))
          | inr other ↦
              let here = none s (omega arith) (omega (arith, a, other)) in
              let here' : cells_has w' s ≡ false = (kept s other).0 ∙ here in
              rw (here, here') (shown_taken n (suc s) (omega (arith, a, other)) (omega (arith, b)) (λ d x z. none d (omega (arith, x)) z))
        ]

    pub all_taken : AreAlike w w' → cells_start w ≤ t → t < cells_end w → LackAll w (cells_start w) t → all_shown value w ≡ shown_at value w t ∷ all_shown value w'
    unfolding all_shown
    all_taken alike from to none =
        let long : length w'.cells.items ≡ length w.cells.items = omega (arith, alike.start, alike.end) in
        let same : shown_from value w' (cells_start w') (length w'.cells.items) ≡ shown_from value w' (cells_start w) (length w.cells.items) =
        ap (λ (x : ℕ). shown_from value w' x (length w'.cells.items)) alike.start ∙ ap (shown_from value w' (cells_start w)) long in
        shown_taken (length w.cells.items) (cells_start w) from (omega (arith, to)) none ∙ ap (λ (xs : List Shown). shown_at value w t ∷ xs) (sym same)

    pub tidy_taken : ((d : ℕ) → cells_has w d ≡ false → cell_of w d ≡ w.clear) → cell_of w' t ≡ w.clear → (d : ℕ) → cells_has w' d ≡ false → cell_of w' d ≡ w.clear
    tidy_taken tidy cleared d none = elim (cases_eq d t) [
      | inl e ↦ subst (λ (x : ℕ). cell_of w' x ≡ w.clear) (sym e) cleared
      | inr other ↦ (kept d other).1 ∙ tidy d (sym (kept d other).0 ∙ none)
    ]

    pub was_there : (d : ℕ) → cells_has w' d ≡ true → cells_has w d ≡ true
    was_there d here = elim (cases_eq d t) [
      | inl e ↦ absurd (false≢true (sym gone ∙ subst (λ (x : ℕ). cells_has w' x ≡ true) e here))
      | inr other ↦ sym (kept d other).0 ∙ here
    ]

-- nothing is there
pub shown_nothing : {C : Type 0} (value : C → ℕ) (w : Cells C) (n s : ℕ) → ((d : ℕ) → cells_has w d ≡ false) → shown_from value w s n ≡ []
unfolding shown_from
shown_nothing value w zero s none = refl
shown_nothing value w (suc n) s none = rw (none s) (shown_nothing value w n (suc s) none)

pub all_nothing : {C : Type 0} (value : C → ℕ) (w : Cells C) → ((d : ℕ) → cells_has w d ≡ false) → all_shown value w ≡ []
unfolding all_shown
all_nothing value w none = shown_nothing value w _ _ none

shown_few : {C : Type 0} (value : C → ℕ) (w : Cells C) (n s : ℕ) → length (shown_from value w s n) ≤ n
unfolding shown_from
shown_few value w zero s = omega arith
shown_few value w (suc n) s = elim (cases_Bool (cells_has w s)) [
  | inl y ↦ rw y (omega (arith, shown_few value w n (suc s)))
  | inr none ↦ rw none (omega (arith, shown_few value w n (suc s)))
]

pub all_few : {C : Type 0} (value : C → ℕ) (w : Cells C) → length (all_shown value w) ≤ length w.cells.items
unfolding all_shown
all_few value w = shown_few value w _ _

-- what is there lies at the start or past it
pub has_from : {C : Type 0} (w : Cells C) (d : ℕ) → cells_has w d ≡ true → cells_start w ≤ d
unfolding cells_has
has_from w d here = leb-true w.start d (and_parts (nat_le w.start d) (words_have w.words.items (d - w.start)) here).0

pub lacks_before : {C : Type 0} (w : Cells C) (d : ℕ) → d < cells_start w → cells_has w d ≡ false
unfolding cells_has
lacks_before w d before = rw (lt-leb w.start d before) refl

-- where nothing is there up to a document, and from there on to another, nothing is up to that
pub lacks_all : {C : Type 0} (w : Cells C) (low mid end : ℕ) → LackAll w low mid → LackAll w mid end → LackAll w low end
lacks_all w low mid end a b = λ d from to. elim (cases_lt d mid) [ inl before ↦ a d from before | inr past ↦ b d past to ]

-- ---- runs over what is shown, one after the other

module _ {F C : Type 0} (call : F → ℕ → ℤ → ℤ → F → Type 0) (value : C → ℕ) where
  pub goes_nowhere : (th : ℤ) (f : F) (w : Cells C) (ticks : ℕ) → GoesOn call value th f w ticks th f w ticks
  goes_nowhere th f w ticks = record {
    count = 0;
    counted = omega arith;
    back = λ k last h p. subst (λ (n : ℕ). RunsOver call th f (all_shown value w) n last h) (sym (zero-add k)) p;
  }

  pub goes_further : (th mid end : ℤ) (f g h : F) (w v u : Cells C) (ticks more most : ℕ)
      → GoesOn call value th f w ticks mid g v more → GoesOn call value mid g v more end h u most → GoesOn call value th f w ticks end h u most
  goes_further th mid end f g h w v u ticks more most a b = record {
    count = a.count + b.count;
    counted = omega (arith, a.counted, b.counted);
    back = λ k last z p.
        let same : a.count + (b.count + k) ≡ a.count + b.count + k = omega arith in
        subst (λ (n : ℕ). RunsOver call th f (all_shown value w) n last z) same (a.back (b.count + k) last z (b.back k last z p));
  }

  -- a document is taken out and gone over
  pub goes_one : (th after : ℤ) (f g : F) (w v : Cells C) (ticks more doc : ℕ) → all_shown value w ≡ shown_at value w doc ∷ all_shown value v
      → Turn call th f doc (pos (value (cell_of w doc).state)) after g → more ≡ ticks + one_if_above th (cell_of w doc).bound
      → GoesOn call value th f w ticks after g v more
  goes_one th after f g w v ticks more doc is turn counted = record {
    count = one_if_above th (cell_of w doc).bound;
    counted = counted;
    back = λ k last z p.
        subst (λ (xs : List Shown). RunsOver call th f xs (one_if_above th (cell_of w doc).bound + k) last z) (sym is) (after, g, k, turn, refl, p);
  }
