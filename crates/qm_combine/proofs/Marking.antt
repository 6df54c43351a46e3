-- A cursor's documents are added to words one by one, as bits: those that lie below the document on which
-- it stands were added to what the words had, and none of them lies past the last.
use Rattle.std.proofs.Common.{◌≡◌, ◌≢◌, ℕ, ◌+◌, ◌-◌, ◌<◌, ◌≤◌, ◌==◌, ◌||◌, Bool, true, false, nat_le, [], ◌∷◌, ◌++◌, List, drop, length, min, take, zero, suc, ap, sym, arith, eq-eqb}
use Rattle.std.proofs.Common.{ne_eqb}
use Rattle.std.proofs.Common.{refl, subst, ◌∙◌, inl, inr}
use Rattle.std.specs.List.{list_any}
use Rattle.std.proofs.lemmas.Bool.{cases_Bool, cases_eq, cases_lt, leb-true}
use Rattle.qm_docset.specs.declared.tiny_set.TinySet.{TinySet}
use Rattle.qm_docset.specs.declared.numbers.TheConstants.{TERMINATED}
use Rattle.qm_docset.specs.Entry.{AreEntries, Entry, Limits, documents, from, head_document}
use Rattle.qm_docset.specs.EntryFacts.{AreEntries-from_low, from-from, from-reached}
use Rattle.qm_docset.specs.Words.{words_have}
use Rattle.qm_combine.specs.Windowed.{scores_of}
use Rattle.qm_combine.specs.WindowStates.{last_or}
use Rattle.qm_combine.proofs.TakenIn.{next-past, scores_of-ahead, step_from, taken, taken-all, taken-beyond, taken-first, taken-here, taken-other}
use Rattle.qm_combine.proofs.Windows.{or_false, or_true}
use Rattle.qm_combine.proofs.WindowWords.{has_at, has_at-before, has_at-from, has_at-past}

pub record IsMarking (start doc last : ℕ) (old new : ℕ → Bool) (es : List Entry) : Type 0 where
  pub low : start ≤ doc
  pub last_low : last ≤ doc
  pub until : (d : ℕ) → 1 ≤ length (taken doc d es) → d ≤ last
  pub documents : (x : ℕ) → x < 4096 → new x ≡ (old x || nat_le 1 (length (taken doc (start + x) es)))

pub last_or-push : (last : ℕ) (ds : List ℕ) (d : ℕ) → last_or last (ds ++ d ∷ []) ≡ d
last_or-push last [] d = refl
last_or-push last (x ∷ ds) d = last_or-push x ds d

pub or_turned : (p q r : Bool) → ((p || q) || r) ≡ (q || (p || r))
or_turned true true r = refl
or_turned true false r = refl
or_turned false q r = refl

module _ (limits : Limits) (es : List Entry) (a : AreEntries 0 limits es) where
  -- before the first nothing was added
  pub marking-first : (start doc : ℕ) (old now : List TinySet) → doc ≡ head_document es → start ≤ doc → now ≡ old
      → IsMarking start doc start (words_have old) (words_have now) es
  marking-first start doc old now here low same =
      let none : (d : ℕ) → taken doc d es ≡ [] = λ d. taken-first limits es a doc d here in
      record {
        low = low;
        last_low = low;
        until = λ d some. absurd (omega (arith, some, ap length (none d)));
        documents = λ x below. ap (λ ws. words_have ws x) same
            ∙ sym (ap (λ (r : List ℕ). words_have old x || nat_le 1 (length r)) (none (start + x)) ∙ or_false (words_have old x));
      }

  -- the document that it stands on is added, and it steps on
  pub marking-next : (start doc next last : ℕ) (old now more : ℕ → Bool) → IsMarking start doc last old now es
      → doc ≡ head_document (from doc es) → doc < TERMINATED → next ≡ head_document (drop 1 (from doc es))
      → ((x : ℕ) → more x ≡ (x == doc - start || now x)) → IsMarking start next doc old more es
  marking-next start doc next last old now more inv here below goes added =
      let past = next-past limits es a doc next here below goes in
      record {
        low = omega (arith, inv.low);
        last_low = omega arith;
        until = λ d some. elim (cases_eq d doc) [
          | inl same ↦ omega arith
          | inr other ↦ let before = inv.until d (omega (arith, some, ap length (taken-other limits es a doc next here below goes d other))) in
              omega (arith, inv.last_low)
        ];
        documents = λ x small. added x ∙ elim (cases_eq x (doc - start)) [
          | inl same ↦
              let at : start + x ≡ doc = omega (arith, inv.low) in
              rw (eq-eqb x (doc - start) same)
              (sym (ap (λ d. old x || nat_le 1 (length (taken next d es))) at
              ∙ ap (λ (r : List ℕ). old x || nat_le 1 (length r)) (taken-here limits es a doc next here below goes)
              ∙ or_true (old x)))
          | inr other ↦
              let apart : start + x ≢ doc = λ e. other (omega (arith, inv.low)) in
              rw (ne_eqb x (doc - start) other) (inv.documents x small
              ∙ ap (λ (r : List ℕ). old x || nat_le 1 (length r))
              (sym (taken-other limits es a doc next here below goes (start + x) apart)))
        ];
      }

  -- Some of the documents that it has left are added, and it stands behind them.
  pub marking-row : (n start doc last : ℕ) (old now more : ℕ → Bool) (rest : List Entry) → IsMarking start doc last old now es
      → rest ≡ from doc es → doc ≡ head_document rest → n ≤ length rest
      → ((x : ℕ) → more x ≡ (list_any (λ d. x == d - start) (documents (take n rest)) || now x))
      → IsMarking start (head_document (drop n rest)) (last_or last (documents (take n rest))) old more es
  marking-row zero start doc last old now more rest inv left here few added = record {
    low = omega (arith, inv.low, here);
    last_low = omega (arith, inv.last_low, here);
    until = λ d some. inv.until d (omega (arith, some, ap (λ n. length (taken n d es)) here));
    documents = λ x small. added x ∙ inv.documents x small ∙ ap (λ n. old x || nat_le 1 (length (taken n (start + x) es))) here;
  }
  marking-row (suc n) start doc last old now more [] inv left here few added = absurd (omega (arith, few))
  marking-row (suc n) start doc last old now more (e ∷ rest) inv left here few added =
      let marked : ℕ → Bool = λ x. x == doc - start || now x in
      let entry = AreEntries-from_low doc 0 limits es a in
      let below : doc < TERMINATED = omega (arith, here, (subst (AreEntries 0 limits) (sym left) entry).here.below_end) in
      let behind : rest ≡ drop 1 (from doc es) = ap (drop 1) left in
      let goes = ap head_document behind in
      let stands = here ∙ ap head_document left in
      let one = marking-next start doc (head_document rest) last old now marked inv stands below goes (λ x. refl) in
      let suffix = behind ∙ step_from limits es a doc (head_document rest) stands below goes in
      let from_next = sym (from-reached (head_document rest) 0 limits rest (omega arith)
      (subst (AreEntries 0 limits) (sym suffix) (AreEntries-from_low (doc + 1) 0 limits es a)))
      ∙ ap (from (head_document rest)) suffix
      ∙ from-from (doc + 1) (head_document rest) es (omega (arith, next-past limits es a doc (head_document rest) stands below goes)) in
      subst (λ l. IsMarking start (head_document (drop n rest)) (last_or l (documents (take n rest))) old more es) here
      (marking-row n start (head_document rest) doc old marked more rest one from_next refl (omega (arith, few))
      (λ x. added x ∙ ap (λ d. (x == d - start || list_any (λ d. x == d - start) (documents (take n rest))) || now x) (sym here)
      ∙ or_turned (x == doc - start) (list_any (λ d. x == d - start) (documents (take n rest))) (now x)))

  -- It has passed all below a bound, which lies in the window.
  module _ (start doc last bound : ℕ) (old new : List TinySet)
      (inv : IsMarking start doc last (words_have old) (words_have new) es) (passed : min bound TERMINATED ≤ doc)
      (within : bound ≤ start + 4096) where
    pub marked-below : start ≤ head_document es → (d : ℕ) → d < bound → has_at start new d ≡ (has_at start old d || nat_le 1 (length (scores_of d es)))
    marked-below first d inside = elim (cases_lt d start) [
      | inl before ↦
          let none = scores_of-ahead limits es a d (omega (arith, first)) in
          has_at-before start new d before ∙ sym (rw (has_at-before start old d before, none) refl)
      | inr past ↦
          let x = d - start in
          let at : start + x ≡ d = omega arith in
          has_at-from start new d past ∙ inv.documents x (omega arith)
          ∙ ap (λ n. words_have old x || nat_le 1 (length (taken doc n es))) at
          ∙ ap (λ (r : List ℕ). words_have old x || nat_le 1 (length r)) (taken-all limits es a doc bound d passed inside)
          ∙ ap (λ b. b || nat_le 1 (length (scores_of d es))) (sym (has_at-from start old d past))
    ]

    pub marked-beyond : length old ≡ 64 → length new ≡ 64 → doc ≡ head_document (from (min doc bound) es)
        → (d : ℕ) → bound ≤ d → has_at start new d ≡ has_at start old d
    marked-beyond long long_new here d beyond = elim (cases_lt d start) [
      | inl before ↦ has_at-before start new d before ∙ sym (has_at-before start old d before)
      | inr past ↦ elim (cases_lt d (start + 4096)) [
        | inl inside ↦
            let x = d - start in
            let at : start + x ≡ d = omega arith in
            has_at-from start new d past ∙ inv.documents x (omega arith)
            ∙ ap (λ n. words_have old x || nat_le 1 (length (taken doc n es))) at
            ∙ ap (λ (r : List ℕ). words_have old x || nat_le 1 (length r)) (taken-beyond limits es a doc bound d here beyond)
            ∙ or_false (words_have old x)
            ∙ sym (has_at-from start old d past)
        | inr behind ↦ has_at-past start new d (omega (arith, long_new)) ∙ sym (has_at-past start old d (omega (arith, long)))
      ]
    ]

    -- so none lies past the greater of two lasts
    pub marked-until : (until high : ℕ) (had has : ℕ → Bool) → ((d : ℕ) → had d ≡ true → d ≤ until) → until ≤ high → last ≤ high
        → ((d : ℕ) → d < bound → has d ≡ (had d || nat_le 1 (length (scores_of d es)))) → ((d : ℕ) → bound ≤ d → has d ≡ had d)
        → (d : ℕ) → has d ≡ true → d ≤ high
    marked-until until high had has kept above above_last below beyond d here = elim (cases_lt d bound) [
      | inl inside ↦ elim (cases_Bool (had d)) [
        | inl was ↦ let low = kept d was in omega arith
        | inr none ↦
            let is = sym (below d inside) ∙ here in
            let some : nat_le 1 (length (scores_of d es)) ≡ true = rw none at is in
            let count = leb-true 1 (length (scores_of d es)) some in
            let same = taken-all limits es a doc bound d passed inside in
            let low = inv.until d (omega (arith, count, ap length same)) in
            omega arith
      ]
      | inr past ↦ let low = kept d (sym (beyond d past) ∙ here) in omega arith
    ]
