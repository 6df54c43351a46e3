use Rattle.std.proofs.Common.{◌≡◌, ◌∙◌, ap, arith, get_or, nat_abs, of_z, rules, sym, to_z, w64}
use Rattle.std.proofs.lemmas.Int.{to_z-of_z}
use mir.Val.{SFits}
use Rattle.qm_term.specs.Members.{Member}
use Rattle.qm_term.specs.TermBlocks.{member_of}
use Rattle.qm_term.specs.declared.term_scorer.TermScorer.{TermScorer}
use Rattle.qm_term.proofs.WandMembers.{top-member}
use Rattle.qm_term.proofs.WandRows.{sum_below, sum_done, sum_more}
use Rattle.qm_term.proofs.wand.rows.tops_fit.Goals as goal

pub returns-then-sum-clause-over : goal.returns-then-sum-clause-over
returns-then-sum-clause-over g c = λ _.
    let d = c.index-scorers-i.result in
    let fits : SFits w64 c.max_score.result = search rules in
    let is : nat_abs (to_z w64 (of_z w64 c.max_score.result)) ≡ (member_of (get_or c.args.scorers.now c.loop-i.i d)).top =
    ap nat_abs (to_z-of_z w64 c.max_score.result fits ∙ c.max_score.ensures) ∙ sym (top-member d)
    ∙ ap (λ (s : TermScorer _ _). (member_of s).top) c.index-scorers-i.is in
    omega (
      arith,
      c.if-sum.true,
      sum_below member_of c.args.scorers.now c.loop-i.i (λ (m : Member). m.top) d c.loop-i.sum _ _ c.loop-i-test.true is c.loop-i.invariant.sum,
    )

pub loop-i-preserved : goal.loop-i-preserved
loop-i-preserved g c =
    let d = c.index-scorers-i.result in
    let fits : SFits w64 c.max_score.result = search rules in
    let is : nat_abs (to_z w64 (of_z w64 c.max_score.result)) ≡ (member_of (get_or c.args.scorers.now c.loop-i.i d)).top =
    ap nat_abs (to_z-of_z w64 c.max_score.result fits ∙ c.max_score.ensures) ∙ sym (top-member d)
    ∙ ap (λ (s : TermScorer _ _). (member_of s).top) c.index-scorers-i.is in
    record {
      sum = sum_more member_of c.args.scorers.now c.loop-i.i (λ (m : Member). m.top) d c.loop-i.sum _ _ c.loop-i-test.true is c.loop-i.invariant.sum;
      fits = omega (arith, c.if-sum.false);
    }

pub returns-clause-fits : goal.returns-clause-fits
returns-clause-fits g c = λ _. omega (
  arith,
  sum_done member_of c.args.scorers.now c.loop-i.i (λ (m : Member). m.top) c.loop-i.sum _ c.loop-i-test.false c.loop-i.invariant.sum,
  c.loop-i.invariant.fits,
)
