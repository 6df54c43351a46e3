-- A number that is there is taken out of its word, and counted no more.
use Rattle.std.proofs.Common.{◌≡◌, ◌<◌, ◌/◌, ◌==◌, ◌&&◌, ◌||◌, ℕ, Bool, true, false, not, length, slice_set, refl, sym, ◌∙◌, inl, inr, arith, eq-eqb}
use Rattle.std.proofs.Common.{ne_eqb}
use Rattle.std.proofs.lemmas.Bool.{cases_eq}
use Rattle.qm_docset.specs.BitSet.{set_has}
use Rattle.qm_docset.specs.Words.{words_have}
use Rattle.qm_docset.proofs.BitSetLemmas.{words_have-remove, remove_within}
use Rattle.qm_docset.proofs.MembersLemmas.{and_true, length-members_between_insert}
use Rattle.qm_docset.proofs.bitset.BitSet.remove.Goals as goal

-- with the number that was taken out the set is what it was
put_back : (has less : ℕ → Bool) (el : ℕ) → has el ≡ true → ((x : ℕ) → less x ≡ (has x && not (x == el))) → (x : ℕ) → has x ≡ (x == el || less x)
put_back has less el member is x =
    elim (cases_eq x el) [
      | inl same ↦ rw (same, eq-eqb el el refl) member
      | inr other ↦ rw (ne_eqb x el other) (sym (is x ∙ rw (ne_eqb x el other) (and_true (has x))))
    ]

taken_out : (b : Bool) → (b && false) ≡ false
taken_out true = refl
taken_out false = refl

gone : (has less : ℕ → Bool) (el : ℕ) → ((x : ℕ) → less x ≡ (has x && not (x == el))) → less el ≡ false
gone has less el is = is el ∙ rw (eq-eqb el el refl) (taken_out (has el))

pub overflow_sub-self : goal.overflow_sub-self
unfolding set_has
overflow_sub-self c =
    let set = c.args.self.now in
    let has : ℕ → Bool = words_have set.words.items in
    let member : has c.args.el ≡ true = sym c.contains.ensures.member ∙ c.if-not-contains.false in
    omega (
      arith,
      set.counted,
      length-members_between_insert (λ x. has x && not (x == c.args.el)) has c.args.el 0 set.max_value (omega arith) c.requires
          (gone has _ c.args.el (λ x. refl)) (put_back has _ c.args.el member (λ x. refl)),
    )

pub invariant_of-self : goal.invariant_of-self
unfolding set_has
invariant_of-self c =
    let set = c.args.self.now in
    let inside : c.args.el / 64 < length set.words.items = omega (arith, c.requires, set.covers, set.words.ok.0) in
    let has : ℕ → Bool = words_have set.words.items in
    let member : has c.args.el ≡ true = sym c.contains.ensures.member ∙ c.if-not-contains.false in
    let less = words_have-remove set.words.items c.args.el c.index.result.now c.remove.result inside c.index.ensures c.remove.ensures in
    let left : ℕ → Bool = words_have (slice_set set.words.items (c.args.el / 64) c.remove.result) in
    record {
      covers = set.covers;
      within = remove_within set.words.items c.args.el c.index.result.now c.remove.result inside c.index.ensures c.remove.ensures set.max_value set.within;
      counted = omega (
        arith,
        set.counted,
        length-members_between_insert left has c.args.el 0 set.max_value (omega arith) c.requires
            (gone has left c.args.el less) (put_back has left c.args.el member less),
      );
    }

pub returns-clause-members : goal.returns-clause-members
unfolding set_has
returns-clause-members c =
    let set = c.args.self.now in
    let inside : c.args.el / 64 < length set.words.items = omega (arith, c.requires, set.covers, set.words.ok.0) in
    words_have-remove set.words.items c.args.el c.index.result.now c.remove.result inside c.index.ensures c.remove.ensures
