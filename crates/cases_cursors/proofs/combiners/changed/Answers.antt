-- A cleared combiner stands for no score, and an update adds one.
use Rattle.std.proofs.Common.{[], ◌∷◌, ◌++◌, arith, ap, sym, refl, ◌∙◌}
use Rattle.std.proofs.lemmas.List.Sums.{fold-append, sum_by-append, sum_by-cons}
use Rattle.cases_cursors.proofs.combiners.changed.Goals as goal
use Rattle.cases_cursors.proofs.combiners.changed.Goals.{in-Clear, in-Update+else-score-total}

pub loop-call-init : goal.loop-call-init
loop-call-init g c = record {
  stands = record { start = c.args.combiner; scores = []; is = c.clear.ensures; adds_up = refl };
  fits = omega arith;
}

pub loop-call-preserved : goal.loop-call-preserved
loop-call-preserved g c =
    let stands = c.loop-call.invariant.stands in
    elim c.match-call.branch [
      | in-Clear w ↦
          rw (w.combiner-is, w.total-is) (record {
            stands = record { start = c.loop-call.combiner; scores = []; is = w.clear-in-Clear.ensures; adds_up = refl };
            fits = omega arith;
          })
      | in-Update+else-score-total w ↦
          let x = w.in-Update.score in
          let step = g.C.ScoreCombiner.step in
          let begun = g.C.ScoreCombiner.cleared stands.start in
          rw (w.combiner-is, w.total-is) (record {
            stands = record {
              start = stands.start;
              scores = stands.scores ++ (x ∷ []);
              is = w.update.ensures.state ∙ ap (step c.loop-call.combiner) w.scored.ensures.score
                  ∙ ap (λ m. step m x) stands.is ∙ sym (fold-append step begun stands.scores (x ∷ []));
              adds_up = sum_by-append (λ n. n) stands.scores (x ∷ []) ∙ omega (arith, stands.adds_up, sum_by-cons (λ n. n) x []);
            };
            fits = omega (arith, c.loop-call.invariant.fits, w.if-score-total.false);
          })
    ]
