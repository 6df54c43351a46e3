-- Each step is the turn of one document, and at the end no document is above the threshold.
use Rattle.std.proofs.Common.{rules, ◌≡◌, ◌<◌, ◌≤ℤ◌, ◌⊎◌, [], pos, drop, inl, inr, length, replicate, w64, to_z, of_z, arith, ap, refl, sym, subst, ◌∙◌}
use Rattle.std.proofs.lemmas.Int.{to_z-of_z}
use Rattle.qm_docset.specs.EntryFacts.{entries-at_end, head_document-bounds, length-entries}
use Rattle.qm_docset.specs.declared.numbers.TheConstants.{TERMINATED}
use Rattle.qm_term.specs.RunCounts.{calls_of}
use Rattle.qm_term.specs.Runs.{InRange, MayPrune, Plain, Turn}
use Rattle.qm_term.specs.RunsFacts.{MayPrune-step, Plain-step}
use Rattle.qm_weight.proofs.RunSteps.{Plain-none, calls-none, calls-nothing, calls-step, one_less}
use Rattle.qm_weight.proofs.pruning.prune_to_bound.Goals as goal
use Rattle.qm_weight.proofs.pruning.prune_to_bound.Goals.{then-loop-doc-test+else-threshold-most, else-loop-doc-test}

pub overflow_add-scored : goal.overflow_add-scored
overflow_add-scored g c =
    let es = g.S.DocSet.entries c.args.scorer in
    let are = g.met.S.DocSet.ascending c.args.scorer c.requires.placed.valid in
    omega (arith, c.loop-doc.invariant.scored, length-entries 0 _ es (omega arith) are)

pub loop-doc-preserved : goal.loop-doc-preserved
loop-doc-preserved g c =
    let call = InRange (goal.F-step g) in
    let invariant = c.loop-doc.invariant in
    let es = g.S.DocSet.entries c.loop-doc.scorer in
    let left = g.S.DocSet.entries c.advance-doc.new.self in
    let bounds = head_document-bounds 0 _ es (omega arith) (g.met.S.DocSet.ascending c.loop-doc.scorer invariant.valid) in
    let below : c.loop-doc.doc < TERMINATED = omega arith in
    let are : left ≡ drop 1 es = c.advance-doc.ensures.entries ∙ ap (drop 1) c.score.ensures.entries in
    let same : to_z w64 (of_z w64 c.turn-threshold.result) ≡ c.turn-threshold.result =
    to_z-of_z w64 c.turn-threshold.result (record { sfits = c.turn-threshold.type_inv }) in
    let made : Turn call
    (to_z w64 c.loop-doc.threshold-bits) c.loop-doc.callback c.loop-doc.doc c.score.result c.turn-threshold.result c.turn-threshold.new.callback =
    subst (λ s. Turn call (to_z w64 c.loop-doc.threshold-bits) c.loop-doc.callback c.loop-doc.doc s c.turn-threshold.result c.turn-threshold.new.callback)
    (to_z-of_z w64 c.score.result (record { sfits = c.score.type_inv })) c.turn-threshold.ensures in
    record {
      allowed = subst (λ t. MayPrune call (goal.F-pre g) t c.turn-threshold.new.callback left) (sym same)
          (MayPrune-step call (goal.F-pre g) _ _ _ _ _ _ es left invariant.here c.score.ensures.score below are made invariant.allowed);
      calls = λ thresholds last f run.
          let before = invariant.calls _ last f
          (Plain-step call _ _ last _ _ f _ _ es left thresholds invariant.here c.score.ensures.score below are made
          (subst (λ t. Plain call t c.turn-threshold.new.callback left thresholds last f) same run)) in (
            before.0,
            before.1,
            omega (arith, before.2, calls-step (to_z w64 c.loop-doc.threshold-bits) thresholds es, ap (calls_of thresholds) are),
          );
      scored = omega (arith, invariant.scored, one_less es (omega (arith, below, invariant.here)), ap length are);
      here = c.advance-doc.ensures.head;
      limits = c.advance-doc.ensures.limits ∙ c.score.ensures.limits ∙ invariant.limits;
      valid = c.advance-doc.ensures.valid;
      placed = c.advance-doc.ensures.placed;
    }

pub returns : goal.returns
returns g c =
    let call = InRange (goal.F-step g) in
    let invariant = c.loop-doc.invariant in
    let es = g.S.DocSet.entries c.loop-doc.scorer in
    let threshold = to_z w64 c.loop-doc.threshold-bits in
    let f = c.loop-doc.callback in
    let are = g.met.S.DocSet.ascending c.loop-doc.scorer invariant.valid in
    let limits = g.S.DocSet.limits c.loop-doc.scorer in
    let ended : (pos limits.top ≤ℤ threshold) ⊎ (es ≡ []) = elim c.loop-doc-test.branch [
      | then-loop-doc-test+else-threshold-most w ↦ inl (subst (λ n. n ≤ℤ threshold)
          (c.max_score-most.ensures ∙ ap (λ l. pos l.top) (sym invariant.limits)) (search (rules, w.if-threshold-most.false)))
      | else-loop-doc-test w ↦ inr (entries-at_end 0 limits es are (omega (arith, w.loop-doc-test.false)))
    ] in
    let quiet : Plain call threshold f es (replicate (length es) threshold) threshold f = elim ended [
      | inl most ↦ Plain-none call threshold f 0 limits es are most
      | inr none ↦ subst (λ rest. Plain call threshold f rest (replicate (length rest) threshold) threshold f) (sym none) (refl, refl)
    ] in
    let none : calls_of (replicate (length es) threshold) es ≡ 0 = elim ended [
      | inl most ↦ calls-none threshold 0 limits es are most
      | inr none ↦ subst (λ rest. calls_of (replicate (length rest) threshold) rest ≡ 0) (sym none) (calls-nothing threshold)
    ] in
    let all = invariant.calls _ threshold f quiet in
    record {
      calls = record {
        thresholds = all.0;
        last = threshold;
        calls = subst (λ t. Plain call t c.args.callback.now (g.S.DocSet.entries c.args.scorer) all.0 threshold f)
            (to_z-of_z w64 c.args.threshold c.ranges.threshold) all.1;
        at_least = omega (arith, all.2, none);
        at_most = omega (arith, invariant.scored);
        turns = omega arith;
      };
    }
