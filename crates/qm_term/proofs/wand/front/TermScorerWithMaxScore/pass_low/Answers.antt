-- What earns less than the least share above the threshold does not score above it.
use Rattle.std.proofs.Common.{◌≡◌, ◌∙◌, ℕ, ◌+◌, ◌*◌, ◌<◌, ◌≤ℤ◌, List, ap, arith, length, of_z, pos, refl, subst, take, sym, suc, to_z, w64}
use Rattle.std.proofs.lemmas.Int.{to_z-of_z}
use Rattle.std.proofs.lemmas.List.{drop-drop, length-drop}
use Rattle.qm_combine.proofs.Chained.{length-stepped}
use Rattle.qm_docset.specs.Entry.{Entry, head_document, head_score}
use Rattle.qm_docset.specs.declared.numbers.TheConstants.{TERMINATED}
use Rattle.qm_term.specs.Members.{Member}
use Rattle.qm_term.specs.Pivot.{head, next}
use Rattle.qm_term.specs.RunScorers.{first_score, run_boost, wand_member}
use Rattle.qm_term.proofs.WandMembers.{head-member, score-member}
use Rattle.qm_term.proofs.WandScores.{Each, all_each, each_more}
use Rattle.qm_term.proofs.wand.front.TermScorerWithMaxScore.pass_low.Goals as goal

pub loop-doc-init : goal.loop-doc-init
loop-doc-init g c = record {
  valid = c.requires.valid;
  looking = c.requires.looking;
  boost = refl;
  here = c.doc-doc.ensures;
  most = omega arith;
  list = refl;
  before = tt;
  low = tt;
}

pub earns_less-requires-clause-here : goal.earns_less-requires-clause-here
unfolding wand_member
earns_less-requires-clause-here g c =
    omega (arith, head-member c.loop-doc.self.scorer, c.loop-doc.invariant.here, c.loop-doc-test.true, c.requires.end)

pub loop-doc-preserved : goal.loop-doc-preserved
unfolding wand_member
loop-doc-preserved g c =
    let m = wand_member c.args.self.now in
    let had = c.loop-doc.invariant in
    let passed = c.loop-doc.passed in
    let th = to_z w64 (of_z w64 c.args.threshold) in
    let one : suc passed ≡ passed + 1 = omega arith in
    let below : head (wand_member c.loop-doc.self) < TERMINATED = omega (arith, had.here, c.loop-doc-test.true, c.requires.end) in
    let earned = c.earns_less.ensures.yes c.if-earns_less.true in
    let score : first_score (wand_member c.loop-doc.self) ≡ run_boost c.args.self.now * earned.0 = score-member c.loop-doc.self.scorer ∙ earned.2
    ∙ ap (λ b. b * earned.0) had.boost in
    record {
      valid = c.advance-doc.ensures.valid;
      looking = c.advance-doc.ensures.looked;
      boost = c.advance-doc.ensures.boost ∙ had.boost;
      here = c.advance-doc.ensures.answer;
      most = omega (
        arith,
        ap (λ (n : Member). length n.entries) had.list,
        length-stepped (wand_member c.loop-doc.self).entries below,
        length-drop passed m.entries,
      );
      list = c.advance-doc.ensures.member ∙ ap next had.list
          ∙ ap (λ (es : List Entry). record { entries = es; blocks = m.blocks; top = m.top }) (drop-drop 1 passed m.entries);
      before = subst (λ n. Each (λ e. e.document < c.args.end) (take n m.entries)) one
          (each_more (λ e. e.document < c.args.end) passed m.entries had.before (λ e rest at.
          omega (arith, ap (λ (n : Member). head n) had.list, ap head_document at, had.here, c.loop-doc-test.true)));
      low = subst (λ n. Each (λ e. pos e.score ≤ℤ th) (take n m.entries)) one
          (each_more (λ e. pos e.score ≤ℤ th) passed m.entries had.low (λ e rest at.
          let of : e.score ≡ run_boost c.args.self.now * earned.0 = sym (ap head_score at) ∙ sym (ap first_score had.list) ∙ score in
          subst (λ (n : ℕ). pos n ≤ℤ th) (sym of) (c.share_above-least.ensures.less earned.0 earned.1)));
    }

pub returns-clause-passed : goal.returns-clause-passed
returns-clause-passed g c =
    let had = c.loop-doc.invariant in
    let is = to_z-of_z w64 c.args.threshold c.ranges.threshold in
    record {
      most = had.most;
      list = had.list;
      before = all_each (λ e. e.document < c.args.end) _ had.before;
      low = all_each (λ e. pos e.score ≤ℤ c.args.threshold) _ (rw is at had.low);
    }
