-- The sum has one score more.
use Rattle.std.proofs.Common.{◌<◌, length, map, ap, arith, subst, sym}
use Rattle.std.proofs.lemmas.List.{length-map}
use Rattle.std.proofs.lemmas.List.Elements.{All-get_or, All-head, All-tail}
use Rattle.std.proofs.lemmas.List.Sums.{sum_by_more}
use Rattle.qm_combine.proofs.EachMember.{get_or-map-map, score_cast}
use Rattle.qm_docset.specs.Entry.{head_document, head_score}
use Rattle.qm_docset.specs.declared.numbers.TheConstants.{TERMINATED}
use Rattle.qm_term.specs.TermScorer.{IsTermScorer, scored_left}
use Rattle.qm_term.proofs.wand.conjunction.score_all.Goals as goal

pub score_here-sum-requires-clause-valid : goal.score_here-sum-requires-clause-valid
score_here-sum-requires-clause-valid g c = All-head IsTermScorer c.args.leader.now c.args.others.now c.requires.valid

pub score_here-sum-requires-clause-here : goal.score_here-sum-requires-clause-here
score_here-sum-requires-clause-here g c =
    All-head (λ s. head_document (scored_left s) < TERMINATED) c.args.leader.now c.args.others.now c.requires.here

pub score_here-requires-clause-valid : goal.score_here-requires-clause-valid
score_here-requires-clause-valid g c =
    subst IsTermScorer (sym c.other-item.is) (All-get_or IsTermScorer c.args.others.now c.loop-other.other-index c.other-item.result c.loop-other-test.true
    (All-tail IsTermScorer c.args.leader.now c.args.others.now c.requires.valid))

pub score_here-requires-clause-here : goal.score_here-requires-clause-here
score_here-requires-clause-here g c =
    subst (λ s. head_document (scored_left s) < TERMINATED) (sym c.other-item.is)
    (All-get_or (λ s. head_document (scored_left s) < TERMINATED) c.args.others.now c.loop-other.other-index c.other-item.result c.loop-other-test.true
    (All-tail (λ s. head_document (scored_left s) < TERMINATED) c.args.leader.now c.args.others.now c.requires.here))

pub loop-other-preserved : goal.loop-other-preserved
loop-other-preserved g c =
    let others = c.args.others.now in
    let i = c.loop-other.other-index in
    let item = c.other-item.result in
    let scores = map head_score (map scored_left others) in
    let here : i < length others = c.loop-other-test.true in
    omega (
      arith,
      score_cast c.score_here.result _ c.score_here.ensures c.score_here.type_inv,
      ap (λ s. head_score (scored_left s)) c.other-item.is,
      get_or-map-map head_score scored_left others i item 0 here,
      sum_by_more (λ x. x) scores i 0 (omega (arith, here, length-map (map scored_left others) head_score, length-map others scored_left)),
      c.min-sum.ensures,
      c.loop-other.invariant,
    )
