-- What is wanted stands together in the order of terms.
use Rattle.std.proofs.Common.{◌≡◌, ℕ, ◌==◌, ◌&&◌, Bool, true, false, cond, List, [], ◌∷◌, ap, refl, sym, ◌∙◌, arith, inl, inr, nat_eq, Less, Equal, Greater}
use Rattle.std.specs.Cmp.{nat_cmp_is}
use Rattle.std.specs.Cmp.Lexicographic.{slice_cmp}
use Rattle.std.specs.List.{starts_with}
use Rattle.std.specs.Ordering.{eq_by_cmp, nat_cmp, ordering_then}
use Rattle.std.proofs.lemmas.Bool.{cases_lt, cases_order, eq-eqb, eqb-true}
use Rattle.qm_schema.specs.Term.{TermKey, fields_ascend, same_term, term_cmp, term_cmp-bytes, term_cmp-field}
use Rattle.qm_store.specs.Wanted.{begins_with, is_meant}
use Rattle.qm_store.specs.declared.wanted.Wanted.{Wanted}
use Rattle.qm_store.proofs.BlockOrder.{parts}

-- ---- texts, of which a beginning comes before what goes on

-- a text between a beginning and one that begins so begins so too
begins-between : (front text other : List ℕ) → ¬ (slice_cmp nat_cmp text front ≡ Less) →
    slice_cmp nat_cmp text other ≡ Less → starts_with nat_eq other front ≡ true → starts_with nat_eq text front ≡ true
begins-between [] text other past before begins = refl
begins-between (p ∷ front) [] other past before begins = absurd (past refl)
begins-between (p ∷ front) (x ∷ text) [] past before begins = absurd (cc before)
begins-between (p ∷ front) (x ∷ text) (y ∷ other) past before begins =
    let first : p ≡ y = eqb-true p y (parts (nat_eq p y) _ begins).0 in
    elim (cases_order x y) [
      | inl level ↦
          let here : nat_cmp x y ≡ Equal = sym (nat_cmp_is x y Equal level) in
          let there : nat_cmp x p ≡ Equal = sym (nat_cmp_is x p Equal (level ∙ sym first)) in
          let rest = begins-between front text other
          (λ less. past (ap (λ o. ordering_then o (slice_cmp nat_cmp text front)) there ∙ less))
          (sym (ap (λ o. ordering_then o (slice_cmp nat_cmp text other)) here) ∙ before)
          (parts (nat_eq p y) _ begins).1 in
          ap (λ b. b && starts_with nat_eq text front) (eq-eqb p x (first ∙ sym level)) ∙ rest
      | inr apart ↦ elim apart [
        | inl less ↦ absurd (past (ap (λ o. ordering_then o (slice_cmp nat_cmp text front)) (sym (nat_cmp_is x p Less (omega arith)))))
        | inr more ↦ let wrong = sym (ap (λ o. ordering_then o (slice_cmp nat_cmp text other)) (sym (nat_cmp_is x y Greater more))) ∙ before in cc
      ]
    ]

-- a text that begins so does not come before the beginning
begins-past : (front text : List ℕ) → starts_with nat_eq text front ≡ true → ¬ (slice_cmp nat_cmp text front ≡ Less)
begins-past [] [] begins less = cc
begins-past [] (x ∷ text) begins less = cc
begins-past (p ∷ front) [] begins less = cc
begins-past (p ∷ front) (x ∷ text) begins less =
    let first : p ≡ x = eqb-true p x (parts (nat_eq p x) _ begins).0 in
    begins-past front text (parts (nat_eq p x) _ begins).1
    (sym (ap (λ o. ordering_then o (slice_cmp nat_cmp text front)) (sym (nat_cmp_is x p Equal (sym first)))) ∙ less)

-- ---- terms

not-before : (t : TermKey) → ¬ (term_cmp t t ≡ Less)
not-before t less = let same = (same_term t t).1 refl in cc

-- a term between a wanted one and one that is meant is meant too
pub meant-between : (w : Wanted) (x y : TermKey) → ¬ (term_cmp x w.term ≡ Less) → term_cmp x y ≡ Less → is_meant w y ≡ true → is_meant w x ≡ true
meant-between w x y past before meant = by_kind w.is_beginning meant
  where
    t : TermKey
    t = w.term

    by_kind : (b : Bool) → cond b (begins_with t y) (eq_by_cmp term_cmp y t) ≡ true → cond b (begins_with t x) (eq_by_cmp term_cmp x t) ≡ true
    by_kind false is = absurd (past (ap (term_cmp x) (sym ((same_term y t).0 is)) ∙ before))
    by_kind true is =
        let own = parts (y.field == t.field) _ is in
        let field : x.field ≡ t.field = elim (cases_lt x.field t.field) [
          | inl less ↦ absurd (past (term_cmp-field x t less))
          | inr not_less ↦ omega (arith, not_less, fields_ascend x y before, eqb-true y.field t.field own.0)
        ] in
        let bytes = begins-between t.bytes x.bytes y.bytes (λ less. past (term_cmp-bytes x t field ∙ less))
        (sym (term_cmp-bytes x y (field ∙ sym (eqb-true y.field t.field own.0))) ∙ before) own.1 in
        (λ i. eq-eqb x.field t.field field i && bytes i)

-- and no term that is meant stands before the wanted one
pub meant-past : (w : Wanted) (y : TermKey) → is_meant w y ≡ true → ¬ (term_cmp y w.term ≡ Less)
meant-past w y meant = by_kind w.is_beginning meant
  where
    t : TermKey
    t = w.term

    by_kind : (b : Bool) → cond b (begins_with t y) (eq_by_cmp term_cmp y t) ≡ true → ¬ (term_cmp y t ≡ Less)
    by_kind false is less = not-before t (ap (λ u. term_cmp u t) (sym ((same_term y t).0 is)) ∙ less)
    by_kind true is less =
        let own = parts (y.field == t.field) _ is in
        begins-past t.bytes y.bytes own.1 (sym (term_cmp-bytes y t (eqb-true y.field t.field own.0)) ∙ less)
