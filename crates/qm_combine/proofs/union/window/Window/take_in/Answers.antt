-- A document of the scorer is put in, and the scorer steps on.
use Rattle.std.proofs.Common.{◌≡◌, ◌≢◌, ℕ, ◌+◌, ◌-◌, ◌<◌, ◌≤◌, [], ◌∷◌, List, drop, fold, length, min, ap, ap₂, sym, subst, refl, arith, inl, inr, ◌∙◌}
use Rattle.std.proofs.lemmas.Bool.{cases_eq, cases_lt}
use Rattle.qm_docset.specs.Entry.{Limits, from, head_document, head_score}
use Rattle.qm_docset.specs.EntryFacts.{from-reached}
use Rattle.qm_docset.specs.Words.{words_have}
use Rattle.qm_combine.specs.WindowStates.{place_state}
use Rattle.qm_combine.specs.Window.{window_combiner, window_has, window_state}
use Rattle.qm_combine.specs.Windowed.{scores_of}
use Rattle.qm_combine.proofs.Adding.{IsTakenIn-made}
use Rattle.qm_combine.proofs.Leading.{whole}
use Rattle.qm_combine.proofs.Marking.{marked-below, marked-beyond, marked-until, marking-first, marking-next}
use Rattle.qm_combine.proofs.TakenIn.{from-all_passed, scores_of-ahead, step_min, taken, taken-all, taken-before, taken-first, taken-here, taken-other}
use Rattle.qm_combine.proofs.WindowWords.{has_at, state_at, state_at-before, state_at-from, window_state-none}
use Rattle.qm_combine.proofs.union.window.Window.take_in.Goals as goal

-- no states are kept: whatever the scores, each document's stays cleared
idle : {C : Type 0} (step : C → ℕ → C) (c : C) → ((x : ℕ) → step c x ≡ c) → (xs : List ℕ) → fold step c xs ≡ c
idle step c same [] = refl
idle step c same (x ∷ xs) = ap (λ s. fold step s xs) (same x) ∙ idle step c same xs

pub returns-then-keeps_no_states-clause-taken : goal.returns-then-keeps_no_states-clause-taken
returns-then-keeps_no_states-clause-taken g c =
    let k = c.keeps_no_states.ensures c.if-keeps_no_states.true in
    let marked = c.mark_in.ensures in
    let step = g.C.ScoreCombiner.step in
    record {
      documents = marked.documents;
      beyond = marked.beyond;
      states = λ d inside.
          let xs = scores_of d (g.S.DocSet.entries c.args.scorer.now) in
          let none = window_state-none c.args.self.now k.none d in
          window_state-none c.mark_in.new.self (ap (λ (v : _). v.len) marked.states ∙ k.none) d ∙ marked.combiner
          ∙ sym (ap (λ s. fold step s xs) none ∙ idle step (window_combiner c.args.self.now) k.idle xs);
      start = marked.start;
      until = marked.until;
      combiner = marked.combiner;
    }

pub loop-doc-init : goal.loop-doc-init
loop-doc-init g c =
    let w = c.args.self.now in
    let es = g.S.DocSet.entries c.args.scorer.now in
    let ascends = g.met.S.DocSet.ascending c.args.scorer.now c.requires.scorer.valid in
    let none : (x : ℕ) → taken c.doc-doc.result (w.start + x) es ≡ [] = λ x. taken-first _ es ascends c.doc-doc.result (w.start + x) c.doc-doc.ensures in
    record {
      here = c.doc-doc.ensures;
      left = sym (from-reached (min c.doc-doc.result c.args.bound) 0 _ es (omega (arith, c.doc-doc.ensures)) ascends);
      limits = refl;
      valid = c.requires.scorer.valid;
      placed = c.requires.scorer.placed;
      marks = marking-first _ es ascends w.start c.doc-doc.result w.buckets.items _ c.doc-doc.ensures (omega (arith, c.doc-doc.ensures, c.requires.first))
          c.as_mut_slice-buckets.ensures.value;
      room = w.room;
      states = λ x below. ap (λ ws. place_state ws w.states.items w.combiner x) c.as_mut_slice-buckets.ensures.value
          ∙ sym (ap (fold g.C.ScoreCombiner.step (place_state w.buckets.items w.states.items w.combiner x)) (none x));
    }

pub put-requires-clause-room : goal.put-requires-clause-room
unfolding window_has window_state
put-requires-clause-room g c =
    let w = c.args.self.now in
    let es = g.S.DocSet.entries c.args.scorer.now in
    let x = c.loop-doc.doc - w.start in
    let place : w.start + x ≡ c.loop-doc.doc = omega (arith, c.loop-doc.invariant.marks.low) in
    let old = place_state w.buckets.items w.states.items w.combiner x in
    let none : taken c.loop-doc.doc (w.start + x) es ≡ [] = taken-before c.loop-doc.doc (w.start + x) es (omega arith) in
    let now : place_state c.loop-doc.buckets c.loop-doc.states.items w.combiner x ≡ window_state w c.loop-doc.doc =
    c.loop-doc.invariant.states x (omega (arith, c.loop-doc-test.true, c.min-end.ensures)) ∙ ap (fold g.C.ScoreCombiner.step old) none
    ∙ sym (state_at-from w.start w.buckets.items w.states.items w.combiner c.loop-doc.doc c.loop-doc.invariant.marks.low) in
    let room = c.requires.room c.loop-doc.doc in
    let law = g.met.C.ScoreCombiner.room room.start room.scores (g.S.DocSet.limits c.args.scorer.now).top room.fits in
    subst (λ n. g.C.ScoreCombiner.has_room (place_state c.loop-doc.buckets c.loop-doc.states.items w.combiner x) n)
    (sym (ap (λ (l : Limits). l.top) c.loop-doc.invariant.limits))
    (subst (λ s. g.C.ScoreCombiner.has_room s (g.S.DocSet.limits c.args.scorer.now).top) (sym (now ∙ room.state)) law)

pub loop-doc-preserved : goal.loop-doc-preserved
loop-doc-preserved g c =
    let w = c.args.self.now in
    let es = g.S.DocSet.entries c.args.scorer.now in
    let ascends = g.met.S.DocSet.ascending c.args.scorer.now c.requires.scorer.valid in
    let doc = c.loop-doc.doc in
    let next = c.advance-doc.result in
    let inv = c.loop-doc.invariant in
    let end : ℕ = c.args.bound in
    let inside : doc < end = omega (arith, c.loop-doc-test.true, c.min-end.ensures) in
    let below : doc < 2147483647 = omega (arith, c.loop-doc-test.true, c.min-end.ensures) in
    let left : g.S.DocSet.entries c.loop-doc.scorer ≡ from doc es = inv.left ∙ ap (λ n. from n es) (omega arith) in
    let here = inv.here ∙ ap head_document left in
    let rest : g.S.DocSet.entries c.advance-doc.new.self ≡ drop 1 (from doc es) = c.advance-doc.ensures.entries
    ∙ ap (drop 1) (c.put.ensures.left.entries ∙ left) in
    let goes = c.advance-doc.ensures.head ∙ ap head_document rest in
    let old : (x : ℕ) → g.row.C.Denot = λ x. place_state w.buckets.items w.states.items w.combiner x in
    record {
      here = c.advance-doc.ensures.head;
      left = rest ∙ step_min _ es ascends doc next here below goes end inside;
      limits = c.advance-doc.ensures.limits ∙ c.put.ensures.left.limits ∙ inv.limits;
      valid = c.advance-doc.ensures.valid;
      placed = c.advance-doc.ensures.placed;
      marks = marking-next _ es ascends w.start doc next c.loop-doc.last (words_have w.buckets.items) (words_have c.loop-doc.buckets)
          (words_have c.put.new.buckets) inv.marks here below goes c.put.ensures.documents;
      room = c.put.ensures.room;
      states = λ x small. elim (cases_eq x (doc - w.start)) [
        | inl same ↦
            let at : w.start + x ≡ doc = omega (arith, inv.marks.low) in
            let was = inv.states x small ∙ ap (λ d. fold g.C.ScoreCombiner.step (old x) (taken doc d es)) at
            ∙ ap (fold g.C.ScoreCombiner.step (old x)) (taken-before doc doc es (omega arith)) in
            let put_in : place_state c.put.new.buckets c.put.new.states.items w.combiner x ≡ g.C.ScoreCombiner.step
            (place_state c.loop-doc.buckets c.loop-doc.states.items w.combiner x) (head_score (g.S.DocSet.entries c.loop-doc.scorer)) =
            rw same c.put.ensures.state in
            put_in ∙ ap₂ g.C.ScoreCombiner.step was (ap head_score left)
            ∙ sym (ap (λ d. fold g.C.ScoreCombiner.step (old x) (taken next d es)) at
            ∙ ap (fold g.C.ScoreCombiner.step (old x)) (taken-here _ es ascends doc next here below goes))
        | inr other ↦
            let apart : w.start + x ≢ doc = λ e. other (omega (arith, inv.marks.low)) in
            c.put.ensures.others x other ∙ inv.states x small
            ∙ ap (fold g.C.ScoreCombiner.step (old x)) (sym (taken-other _ es ascends doc next here below goes (w.start + x) apart))
      ];
    }

pub returns-clause-left : goal.returns-clause-left
returns-clause-left g c =
    let w = c.args.self.now in
    let es = g.S.DocSet.entries c.args.scorer.now in
    let ascends = g.met.S.DocSet.ascending c.args.scorer.now c.requires.scorer.valid in
    record {
      entries = c.loop-doc.invariant.left ∙ from-all_passed _ es ascends c.loop-doc.doc c.args.bound (omega (arith, c.loop-doc-test.false, c.min-end.ensures));
      limits = c.loop-doc.invariant.limits;
      valid = c.loop-doc.invariant.valid;
      placed = c.loop-doc.invariant.placed;
    }

pub returns-clause-taken : goal.returns-clause-taken
unfolding window_has window_state
returns-clause-taken g c =
    let w = c.args.self.now in
    let step = g.C.ScoreCombiner.step in
    let es = g.S.DocSet.entries c.args.scorer.now in
    let ascends = g.met.S.DocSet.ascending c.args.scorer.now c.requires.scorer.valid in
    let long : length c.loop-doc.buckets ≡ length w.buckets.items = c.loop-doc.auto.buckets ∙ ap length c.as_mut_slice-buckets.ensures.value in
    let words = whole w.buckets.len c.loop-doc.buckets w.buckets.items long w.buckets.ok.0 in
    let marks = c.loop-doc.invariant.marks in
    let passed : min c.args.bound 2147483647 ≤ c.loop-doc.doc = omega (arith, c.loop-doc-test.false, c.min-end.ensures) in
    IsTakenIn-made step w _ c.args.bound es refl refl
    (λ d inside. ap (λ ws. has_at w.start ws d) words
    ∙ marked-below _ es ascends w.start c.loop-doc.doc c.loop-doc.last c.args.bound w.buckets.items c.loop-doc.buckets marks
    passed c.requires.bound c.requires.first d inside)
    (λ d beyond. ap (λ ws. has_at w.start ws d) words
    ∙ marked-beyond _ es ascends w.start c.loop-doc.doc c.loop-doc.last c.args.bound w.buckets.items c.loop-doc.buckets marks
    passed c.requires.bound (omega (arith, w.sixty_four, w.buckets.ok.0))
    (omega (arith, long, w.sixty_four, w.buckets.ok.0)) (c.loop-doc.invariant.here ∙ ap head_document c.loop-doc.invariant.left) d beyond)
    (λ d inside. ap (λ ws. state_at w.start ws c.loop-doc.states.items w.combiner d) words ∙ elim (cases_lt d w.start) [
      | inl before ↦
          let none = scores_of-ahead _ es ascends d (omega (arith, c.requires.first)) in
          state_at-before w.start c.loop-doc.buckets c.loop-doc.states.items w.combiner d before
          ∙ sym (ap (fold step (window_state w d)) none ∙ state_at-before w.start w.buckets.items w.states.items w.combiner d before)
      | inr past ↦
          let x = d - w.start in
          let at : w.start + x ≡ d = omega arith in
          state_at-from w.start c.loop-doc.buckets c.loop-doc.states.items w.combiner d past ∙ c.loop-doc.invariant.states x (omega arith)
          ∙ ap (λ n. fold step (place_state w.buckets.items w.states.items w.combiner x) (taken c.loop-doc.doc n es)) at
          ∙ ap₂ (fold step) (sym (state_at-from w.start w.buckets.items w.states.items w.combiner d past))
          (taken-all _ es ascends c.loop-doc.doc c.args.bound d passed inside)
    ])
    (λ documents beyond until. marked-until _ es ascends w.start c.loop-doc.doc c.loop-doc.last c.args.bound w.buckets.items c.loop-doc.buckets marks
    passed c.requires.bound w.last c.max-self.result (window_has w) _ until
    (omega (arith, c.max-self.ensures)) (omega (arith, c.max-self.ensures)) documents beyond)
