-- The documents before the first that scores above the threshold are passed, or that one is scored.
use Rattle.std.proofs.Common.{◌≡◌, ◌∙◌, ◌<ℤ◌, length, pos, refl, ap, arith, inl, inr, of_z, sym, to_z, subst, w64}
use Rattle.std.proofs.lemmas.Int.{to_z-of_z}
use Rattle.std.proofs.lemmas.List.{length-drop}
use Rattle.qm_combine.proofs.Chained.{length-stepped}
use Rattle.qm_docset.specs.Entry.{head_score}
use Rattle.qm_term.specs.Members.{IsMember, Member, bound_at}
use Rattle.qm_term.specs.Pivot.{head, next}
use Rattle.qm_term.specs.Runs.{InRange, Turn}
use Rattle.qm_term.specs.RunsFacts.{MayPrune-first}
use Rattle.qm_term.specs.RunScorers.{first_score, wand_member}
use Rattle.qm_term.proofs.RunRows.{law, next_later}
use Rattle.qm_term.proofs.WandBounds.{same_block}
use Rattle.qm_term.proofs.WandSingle.{none_passed, passed_later}
use Rattle.qm_term.proofs.wand.single.block_turn.Goals as goal

pub returns-then-passed-gt0-clause-fewer : goal.returns-then-passed-gt0-clause-fewer
returns-then-passed-gt0-clause-fewer g c =
    let m = wand_member c.args.scorer.now in
    let passed = c.pass_low-passed.ensures.passed in
    omega (arith, ap (λ (n : Member). length n.entries) passed.list, length-drop c.pass_low-passed.result m.entries, passed.most)

pub returns-then-passed-gt0-clause-later : goal.returns-then-passed-gt0-clause-later
returns-then-passed-gt0-clause-later g c =
    let m = wand_member c.args.scorer.now in
    let n = wand_member c.pass_low-passed.new.self in
    let later = passed_later _ _ c.pass_low-passed.result m n (law c.args.scorer.now c.requires.valid) c.pass_low-passed.ensures.passed
    (omega (arith, c.if-passed-gt0.true)) (omega (arith, c.requires.below, c.requires.here)) in
    omega (arith, later, c.requires.here)

pub returns-then-passed-gt0-clause-turn : goal.returns-then-passed-gt0-clause-turn
returns-then-passed-gt0-clause-turn g c =
    let m = wand_member c.args.scorer.now in
    let th = c.args.threshold in
    let is : to_z w64 (of_z w64 th) ≡ th = to_z-of_z w64 th c.ranges.threshold in
    inr (inr (record {
      same = (is, refl, refl);
      end = c.min.result;
      passed = rw is at c.pass_low-passed.ensures.passed;
      above = λ d from to.
          let block : bound_at d m.blocks ≡ bound_at c.args.doc m.blocks = same_block c.args.doc d m.blocks (omega (arith, from, c.requires.here))
          (omega (arith, to, c.min.ensures, c.saturating_add.ensures, c.requires.last)) in
          subst (λ n. th <ℤ pos n) (sym block) c.requires.above;
    }))

pub score_counted-score-requires-clause-here : goal.score_counted-score-requires-clause-here
score_counted-score-requires-clause-here g c =
    let same = none_passed _ _ c.pass_low-passed.result (wand_member c.args.scorer.now) _ c.pass_low-passed.ensures.passed
    (omega (arith, c.if-passed-gt0.false)) in
    omega (arith, ap head same, c.requires.below, c.requires.here)

pub call_at-threshold-requires : goal.call_at-threshold-requires
call_at-threshold-requires g c =
    let call = InRange (goal.F-step g) in
    let pre = goal.F-pre g in
    let m = wand_member c.args.scorer.now in
    let th = c.args.threshold in
    let f = c.args.callback.now in
    let is : to_z w64 (of_z w64 th) ≡ th = to_z-of_z w64 th c.ranges.threshold in
    let same = none_passed _ _ c.pass_low-passed.result m _ c.pass_low-passed.ensures.passed (omega (arith, c.if-passed-gt0.false)) in
    let score = c.score_counted-score.result in
    let is_score : to_z w64 (of_z w64 score) ≡ score = to_z-of_z w64 score (record { sfits = c.score_counted-score.type_inv }) in
    let sum : score ≡ pos (head_score m.entries) = c.score_counted-score.ensures.score ∙ ap (λ (n : Member). pos (first_score n)) same in
    let may = MayPrune-first call pre th f c.args.doc score m.entries c.requires.here sum c.requires.below in
    rw (is, is_score) (may c.requires.callable)

pub returns-clause-blocks : goal.returns-clause-blocks
returns-clause-blocks g c =
    let same = none_passed _ _ c.pass_low-passed.result (wand_member c.args.scorer.now) _ c.pass_low-passed.ensures.passed
    (omega (arith, c.if-passed-gt0.false)) in
    ap (λ (n : Member). n.blocks) (c.advance.ensures.member ∙ ap next same)

pub returns-clause-fewer : goal.returns-clause-fewer
returns-clause-fewer g c =
    let m = wand_member c.args.scorer.now in
    let same = none_passed _ _ c.pass_low-passed.result m _ c.pass_low-passed.ensures.passed (omega (arith, c.if-passed-gt0.false)) in
    let list : wand_member c.advance.new.self ≡ next m = c.advance.ensures.member ∙ ap next same in
    omega (arith, ap (λ (n : Member). length n.entries) list, length-stepped m.entries (omega (arith, c.requires.below, c.requires.here)))

pub returns-clause-later : goal.returns-clause-later
returns-clause-later g c =
    let m = wand_member c.args.scorer.now in
    let h : IsMember m = law c.args.scorer.now c.requires.valid in
    let same = none_passed _ _ c.pass_low-passed.result m _ c.pass_low-passed.ensures.passed (omega (arith, c.if-passed-gt0.false)) in
    let list : wand_member c.advance.new.self ≡ next m = c.advance.ensures.member ∙ ap next same in
    omega (arith, ap head list, next_later h.limits m.entries h.entries (omega (arith, c.requires.below, c.requires.here)), c.requires.here)

pub returns-clause-turn : goal.returns-clause-turn
returns-clause-turn g c =
    let call = InRange (goal.F-step g) in
    let m = wand_member c.args.scorer.now in
    let th = c.args.threshold in
    let f = c.args.callback.now in
    let is : to_z w64 (of_z w64 th) ≡ th = to_z-of_z w64 th c.ranges.threshold in
    let same = none_passed _ _ c.pass_low-passed.result m _ c.pass_low-passed.ensures.passed (omega (arith, c.if-passed-gt0.false)) in
    let bar = c.call_at-threshold.result in
    let after = c.call_at-threshold.new.callback in
    let is_bar : to_z w64 (of_z w64 bar) ≡ bar = to_z-of_z w64 bar (record { sfits = c.call_at-threshold.type_inv }) in
    let score = c.score_counted-score.result in
    let is_score : to_z w64 (of_z w64 score) ≡ score = to_z-of_z w64 score (record { sfits = c.score_counted-score.type_inv }) in
    let sum : score ≡ pos (head_score m.entries) = c.score_counted-score.ensures.score ∙ ap (λ (n : Member). pos (first_score n)) same in
    let made : Turn call th f c.args.doc score bar after = rw (is, is_score) at c.call_at-threshold.ensures in
    inr (inl (record {
      one = (refl, refl);
      above = subst (λ d. th <ℤ pos (bound_at d m.blocks)) c.requires.here c.requires.above;
      list = c.advance.ensures.member ∙ ap next same;
      turn = rw is_bar (subst (λ s. Turn call th f (head m) s bar after) sum (subst (λ d. Turn call th f d score bar after) c.requires.here made));
    }))
