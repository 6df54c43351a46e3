-- What cells hold as lists are taken in.
use Rattle.std.proofs.Common.{◌≡◌, ◌≢◌, ◌∙◌, ℕ, zero, suc, ◌+◌, ◌<◌, ◌≤◌, ◌||◌, true, false, List, [], ◌∷◌, ◌++◌, fold, ap, ap₂, arith, eq-eqb, inl, inr}
use Rattle.std.proofs.Common.{ne_eqb, refl, subst, sum, sym}
use Rattle.std.proofs.lemmas.Bool.{cases_Bool, cases_eq, cases_lt, false≢true, or_left}
use Rattle.std.proofs.lemmas.List.Elements.{All-cons, All-nil}
use Rattle.std.proofs.lemmas.List.Sums.{fold-append}
use Rattle.qm_docset.specs.Entry.{greatest_score, from, head_score}
use Rattle.qm_docset.specs.declared.numbers.TheConstants.{TERMINATED}
use Rattle.qm_combine.specs.Windowed.{scores_of as scores_in}
use Rattle.qm_term.specs.Cells.{Adds, AreClear, HoldLists, Shown, TakesIn, cell_of, cells_clear, cells_has, shown_from}
use Rattle.qm_term.specs.Members.{AreMembers, IsMember, Member, bound_at, scores_of, lists_of}
use Rattle.qm_term.specs.Pivot.{blockbound, bound_in, cut, head, total_top}
use Rattle.qm_term.specs.Stretches.{AreTidy, AreWithin}
use Rattle.qm_term.specs.declared.wand.cells.Cell.{Cell}
use Rattle.qm_term.specs.declared.wand.cells.Cells.{Cells}
use Rattle.qm_term.proofs.WandBounds.{bound_in-cut, cut_scores_in, has-from_below, has_head, total-cons, total-nil, blockbound_le_top, has_no, scores_in-none}
use Rattle.qm_term.proofs.WandScores.{united_le}
use Rattle.qm_docset.specs.Exclusion.{has_document, some_has_document}
use Rattle.qm_docset.specs.GatherFacts.{score_of-here, scores_at-cons, scores_at-nil}
use Rattle.qm_docset.proofs.ExclusionLemmas.{has_document-from}

-- ---- one list

module _ {C : Type 0} (step : C → ℕ → C) where
  -- one that has nothing below the end
  pub takes_none : (end : ℕ) (m : Member) (w : Cells C) → IsMember m → end ≤ head m → TakesIn step end m w w
  takes_none end m w h a =
      let none : (d : ℕ) → d < end → has_document m.entries d ≡ false = λ d l. has_no d m h (omega (arith, a, l)) in
      record {
        has = λ d l. ap (λ b. b || cells_has w d) (sym (none d l));
        bound = λ d l. rw (none d l) (omega arith);
        state = λ d l. ap (fold step (cell_of w d).state) (sym (scores_in-none d m.entries (none d l)));
        beyond = λ d l. (refl, refl);
        alike = record { start = refl; end = refl; clear = refl };
      }

  -- below a document, and from there on
  pub takes_on : (s t : ℕ) (m : Member) (w0 w1 w2 : Cells C) → IsMember m → s ≤ t →
      TakesIn step s m w0 w1 → TakesIn step t (cut s m) w1 w2 → TakesIn step t m w0 w2
  takes_on s t m w0 w1 w2 h more a b =
      let none : (d : ℕ) → d < s → has_document (from s m.entries) d ≡ false = λ d l. has-from_below s d m.entries l in
      record {
        has = λ d l. elim (cases_lt d s) [
          | inl x ↦ b.has d l ∙ ap (λ y. y || cells_has w1 d) (none d x) ∙ a.has d x
          | inr x ↦ b.has d l ∙ ap (λ y. y || cells_has w1 d) (has_document-from s d m.entries x) ∙ ap (λ y. has_document m.entries d || y) (a.beyond d x).0
        ];
        bound = λ d l. elim (cases_lt d s) [
          | inl x ↦
              let zeroed : bound_in d (cut s m) ≡ 0 = rw (none d x) refl in
              omega (arith, b.bound d l, zeroed, a.bound d x)
          | inr x ↦ omega (arith, b.bound d l, bound_in-cut s d m x, ap (λ (c : Cell C). c.bound) (a.beyond d x).1)
        ];
        state = λ d l. elim (cases_lt d s) [
          | inl x ↦ b.state d l ∙ ap (fold step (cell_of w1 d).state) (scores_in-none d (from s m.entries) (none d x)) ∙ a.state d x
          | inr x ↦ b.state d l ∙ ap (fold step (cell_of w1 d).state) (cut_scores_in s d m.entries x)
              ∙ ap (λ (c : Cell C). fold step c.state (scores_in d m.entries)) (a.beyond d x).1
        ];
        beyond = λ d l.
            let x : s ≤ d = omega (arith, more, l) in
            ((b.beyond d l).0 ∙ (a.beyond d x).0, (b.beyond d l).1 ∙ (a.beyond d x).1);
        alike = record {
          start = b.alike.start ∙ a.alike.start;
          end = b.alike.end ∙ a.alike.end;
          clear = b.alike.clear ∙ a.alike.clear;
        };
      }

  -- its first document
  pub takes_first : (doc bound : ℕ) (m : Member) (w w' : Cells C) → IsMember m → head m ≡ doc → doc < TERMINATED → bound_at doc m.blocks ≡ bound →
      Adds step doc (head_score m.entries) bound w w' → TakesIn step (suc doc) m w w'
  takes_first doc bound m w w' h here below block p =
      let there : has_document m.entries doc ≡ true = has_head doc m.entries below here in
      let none : (d : ℕ) → d < doc → has_document m.entries d ≡ false =
      λ d l. has_no d m h (omega (arith, here, l)) in
      let own : bound_in doc m ≡ bound = rw there block in
      let score : scores_in doc m.entries ≡ head_score m.entries ∷ [] = score_of-here doc 0 h.limits m.entries h.entries here below in
      let before : (d : ℕ) → d < suc doc → d ≢ doc → d < doc = λ d l ne. elim (cases_lt d doc) [ inl x ↦ x | inr x ↦ absurd (ne (omega (arith, l, x))) ] in
      let at_doc : (P : ℕ → Type 0) → P doc → (d : ℕ) → d ≡ doc → P d = λ P x d e. subst P (sym e) x in
      record {
        has = λ d l. elim (cases_eq d doc) [
          | inl e ↦ p.has d ∙ ap (λ b. b || cells_has w d) (eq-eqb d doc e ∙ sym (at_doc (λ x. has_document m.entries x ≡ true) there d e))
          | inr ne ↦ p.has d ∙ ap (λ b. b || cells_has w d) (ne_eqb d doc ne ∙ sym (none d (before d l ne)))
        ];
        bound = λ d l. elim (cases_eq d doc) [
          | inl e ↦ at_doc (λ x. (cell_of w' x).bound ≡ (cell_of w x).bound + bound_in x m) (omega (arith, p.sum, own)) d e
          | inr ne ↦
              let zeroed : bound_in d m ≡ 0 = rw (none d (before d l ne)) refl in
              omega (arith, ap (λ (c : Cell C). c.bound) (p.others d ne), zeroed)
        ];
        state = λ d l. elim (cases_eq d doc) [
          | inl e ↦ at_doc (λ x. (cell_of w' x).state ≡ fold step (cell_of w x).state (scores_in x m.entries))
              (p.state ∙ ap (fold step (cell_of w doc).state) (sym score)) d e
          | inr ne ↦ ap (λ (c : Cell C). c.state) (p.others d ne)
              ∙ ap (fold step (cell_of w d).state) (sym (scores_in-none d m.entries (none d (before d l ne))))
        ];
        beyond = λ d l.
            let ne : d ≢ doc = λ e. absurd (omega (arith, l, e)) in
            (p.has d ∙ ap (λ b. b || cells_has w d) (ne_eqb d doc ne), p.others d ne);
        alike = p.alike;
      }

-- ---- several

some_has-cons : (m : Member) (ms : List Member) (d : ℕ) →
    some_has_document (lists_of (m ∷ ms)) d ≡ (has_document m.entries d || some_has_document (lists_of ms) d)
unfolding some_has_document
some_has-cons m ms d = refl

some_has-nil : (d : ℕ) → some_has_document (lists_of []) d ≡ false
unfolding some_has_document
some_has-nil d = refl

module _ {C : Type 0} (step : C → ℕ → C) (commutes : (c : C) (x y : ℕ) → step (step c x) y ≡ step (step c y) x) where
  fold_last : (c : C) (x : ℕ) (xs : List ℕ) → fold step (step c x) xs ≡ step (fold step c xs) x
  fold_last c x [] = refl
  fold_last c x (y ∷ ys) = ap (λ s. fold step s ys) (commutes c x y) ∙ fold_last (step c y) x ys

  fold_swap : (c : C) (xs ys : List ℕ) → fold step (fold step c xs) ys ≡ fold step (fold step c ys) xs
  fold_swap c xs [] = refl
  fold_swap c xs (y ∷ ys) = ap (λ s. fold step s ys) (sym (fold_last c y xs)) ∙ fold_swap (step c y) xs ys

  pub holds_none : (end : ℕ) (w : Cells C) → AreClear w → (cells_clear w).bound ≡ 0 → HoldLists step end [] w
  holds_none end w clear zeroed = record {
    has = λ d l. (clear d).0 ∙ sym (some_has-nil d);
    bound = λ d l. ap (λ (c : Cell C). c.bound) (clear d).1 ∙ zeroed ∙ sym (total-nil (bound_in d));
    state = λ d l. ap (λ (c : Cell C). c.state) (clear d).1 ∙ ap (fold step (cells_clear w).state) (sym (scores_at-nil d));
    beyond = λ d l. clear d;
  }

  -- one list more
  pub holds_more : (end : ℕ) (m : Member) (ms : List Member) (w w' : Cells C) → HoldLists step end ms w → TakesIn step end m w w' → HoldLists step end (m ∷ ms) w'
  holds_more end m ms w w' h t = record {
    has = λ d l. t.has d l ∙ ap (λ b. has_document m.entries d || b) (h.has d l) ∙ sym (some_has-cons m ms d);
    bound = λ d l. omega (arith, t.bound d l, h.bound d l, total-cons (bound_in d) m ms);
    state = λ d l.
        t.state d l ∙ ap (λ s. fold step s (scores_in d m.entries)) (h.state d l)
        ∙ fold_swap (cells_clear w).state (scores_of d ms) (scores_in d m.entries)
        ∙ sym (fold-append step (cells_clear w).state (scores_in d m.entries) (scores_of d ms))
        ∙ ap (fold step (cells_clear w).state) (sym (scores_at-cons d m.entries (lists_of ms)))
        ∙ ap (λ (c : Cell C). fold step c.state (scores_of d (m ∷ ms))) (sym t.alike.clear);
    beyond = λ d l. ((t.beyond d l).0 ∙ (h.beyond d l).0, (t.beyond d l).1 ∙ (h.beyond d l).1 ∙ sym t.alike.clear);
  }

-- no list has the document
none_of : (d : ℕ) (ms : List Member) → some_has_document (lists_of ms) d ≡ false → (blockbound d ms ≡ 0) × (scores_of d ms ≡ [])
none_of d [] h = (total-nil (bound_in d), scores_at-nil d)
none_of d (m ∷ ms) h =
    elim (cases_Bool (has_document m.entries d)) [
      | inl y ↦ absurd (false≢true (sym h ∙ some_has-cons m ms d ∙ or_left _ _ y))
      | inr n ↦
          let rest = none_of d ms (ap (λ b. b || some_has_document (lists_of ms) d) (sym n) ∙ sym (some_has-cons m ms d) ∙ h) in
          let zeroed : bound_in d m ≡ 0 = rw n refl in (
            omega (arith, total-cons (bound_in d) m ms, zeroed, rest.0),
            scores_at-cons d m.entries (lists_of ms) ∙ ap (λ xs. xs ++ scores_of d ms) (scores_in-none d m.entries n) ∙ rest.1,
          )
    ]

same_cell : {C : Type 0} (a b : Cell C) → a.bound ≡ b.bound → a.state ≡ b.state → a ≡ b
same_cell a b x y = ap₂ (λ n s. record { bound = n; state = s }) x y

module _ {C : Type 0} (step : C → ℕ → C) (end : ℕ) (ms : List Member) (w : Cells C) (h : HoldLists step end ms w) where
  pub holds_tidy : (cells_clear w).bound ≡ 0 → AreTidy w
  holds_tidy zeroed d n = elim (cases_lt d end) [
    | inl l ↦
        let none = none_of d ms (sym (h.has d l) ∙ n) in
        same_cell (cell_of w d) (cells_clear w) (h.bound d l ∙ none.0 ∙ sym zeroed)
        (h.state d l ∙ ap (fold step (cells_clear w).state) none.1)
    | inr l ↦ (h.beyond d l).1
  ]

  pub has_below : (d : ℕ) → cells_has w d ≡ true → d < end
  has_below d y = elim (cases_lt d end) [ inl l ↦ l | inr l ↦ absurd (false≢true (sym (h.beyond d l).0 ∙ y)) ]

  module _ (combined : List ℕ → ℕ) (within : (xs : List ℕ) → combined xs ≤ sum xs) (value : C → ℕ)
      (makes : (xs : List ℕ) → value (fold step (cells_clear w).state xs) ≡ combined xs) (are : AreMembers ms) (fits : total_top ms ≤ greatest_score) where
    pub score_is : (d : ℕ) → cells_has w d ≡ true → value (cell_of w d).state ≡ combined (scores_of d ms)
    score_is d y = ap value (h.state d (has_below d y)) ∙ makes (scores_of d ms)

    pub bound_is : (d : ℕ) → cells_has w d ≡ true → (cell_of w d).bound ≡ blockbound d ms
    bound_is d y = h.bound d (has_below d y)

    pub score_within : (d : ℕ) → cells_has w d ≡ true → value (cell_of w d).state ≤ (cell_of w d).bound
    score_within d y = omega (arith, score_is d y, bound_is d y, united_le combined within d ms are)

    pub shown_within : (n s : ℕ) → AreWithin (shown_from value w s n)
    unfolding shown_from
    shown_within zero s = All-nil _
    shown_within (suc n) s = elim (cases_Bool (cells_has w s)) [
      | inl y ↦ rw y (All-cons (λ (e : Shown). (e.score ≤ e.bound) × (e.bound ≤ greatest_score)) _ _
          (score_within s y, omega (arith, bound_is s y, blockbound_le_top s ms are, fits)) (shown_within n (suc s)))
      | inr n' ↦ rw n' (shown_within n (suc s))
    ]
