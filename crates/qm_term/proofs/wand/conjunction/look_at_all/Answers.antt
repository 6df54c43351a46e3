-- What bounds each list from the document on bounds their sum.
use Rattle.std.proofs.Common.{◌≡◌, ◌∙◌, ◌+◌, ◌<◌, ◌≤◌, List, [], ◌∷◌, ◌++◌, length, get_or, map, sum, take, ap, arith, refl, sym}
use Rattle.std.proofs.lemmas.List.{get_or-map, length-map, take_all, take_more}
use Rattle.std.proofs.lemmas.List.Elements.{All-cons, All-get_or, All-head, All-set, All-tail}
use Rattle.qm_combine.proofs.EachMember.{map-set_same}
use Rattle.qm_combine.specs.HeldSum.{held_sum}
use Rattle.qm_docset.specs.Entry.{Entry}
use Rattle.qm_docset.specs.Gather.{scores_at}
use Rattle.qm_docset.specs.GatherFacts.{scores_at-nil}
use Rattle.qm_term.specs.TermScorer.{IsTermScorer, scored_left, scored_limits}
use Rattle.qm_term.specs.TermScorerFacts.{AreEntries-scored}
use Rattle.qm_term.proofs.SharedRuns.{All-common, score_bounded, sum-push}
use Rattle.qm_term.proofs.wand.conjunction.look_at_all.Goals as goal

pub look_from-next-requires-clause-valid : goal.look_from-next-requires-clause-valid
look_from-next-requires-clause-valid g c = All-head IsTermScorer c.args.leader.now c.args.others.now c.requires.valid

pub loop-other-init : goal.loop-other-init
loop-other-init g c =
    let leader = c.args.leader.now in
    let others = c.args.others.now in
    let first = c.look_from-next in
    record {
      valid = All-tail IsTermScorer leader others c.requires.valid;
      same = refl;
      past = first.ensures.past;
      end = first.ensures.end;
      most = first.ensures.bound;
      bounded = λ d from to. omega (
        arith,
        score_bounded d c.args.doc first.result.next first.result.bound 0 (scored_limits leader) (scored_left leader)
            (AreEntries-scored leader (All-head IsTermScorer leader others c.requires.valid)) first.ensures.bounded from to,
        sum-push d [] (scored_left leader),
        ap sum (scores_at-nil d),
      );
    }

pub loop-other-preserved : goal.loop-other-preserved
loop-other-preserved g c =
    let leader = scored_left c.args.leader.now in
    let now = c.loop-other.others in
    let ess = map scored_left c.args.others.now in
    let i = c.loop-other.other-index in
    let given = c.other-item.result in
    let item = get_or now i given in
    let had = c.loop-other.invariant in
    let one = c.look_from-one in
    let here : i < length now = omega (arith, c.loop-other-test.true, c.loop-other.auto.others) in
    let valid : IsTermScorer item = All-get_or IsTermScorer now i given here had.valid in
    let at : get_or ess i (scored_left item) ≡ scored_left item = ap (λ r. get_or r i (scored_left item)) (sym had.same)
    ∙ get_or-map scored_left now i given (scored_left item) here in
    let long : i < length ess = omega (arith, here, length-map now scored_left, ap length had.same) in
    let grown : take (i + 1) ess ≡ take i ess ++ scored_left item ∷ [] =
    take_more ess i (scored_left item) long ∙ ap (λ x. take i ess ++ x ∷ []) at in
    record {
      valid = All-set IsTermScorer now i one.new.scorer one.ensures.valid had.valid;
      same = map-set_same scored_left now i one.new.scorer given here one.ensures.same ∙ had.same;
      past = omega (arith, c.min-next.ensures, had.past, one.ensures.past);
      end = omega (arith, c.min-next.ensures, had.end);
      most = omega (arith, c.min-bound.ensures);
      bounded = λ d from to. omega (
        arith,
        ap (λ (r : List (List Entry)). sum (scores_at d (leader ∷ r))) grown,
        sum-push d (leader ∷ take i ess) (scored_left item),
        score_bounded d c.args.doc one.result.next one.result.bound 0 (scored_limits item) (scored_left item)
            (AreEntries-scored item valid) one.ensures.bounded from (omega (arith, to, c.min-next.ensures)),
        had.bounded d from (omega (arith, to, c.min-next.ensures)),
        c.min-bound.ensures,
      );
    }

pub returns-clause-valid : goal.returns-clause-valid
returns-clause-valid g c =
    All-cons IsTermScorer c.look_from-next.new.scorer c.loop-other.others c.look_from-next.ensures.valid c.loop-other.invariant.valid

pub returns-clause-lists : goal.returns-clause-lists
returns-clause-lists g c = λ i. c.look_from-next.ensures.same i ∷ c.loop-other.invariant.same i

pub returns-clause-bounded : goal.returns-clause-bounded
returns-clause-bounded g c =
    let leader = scored_left c.args.leader.now in
    let now = c.loop-other.others in
    let ess = map scored_left c.args.others.now in
    let i = c.loop-other.other-index in
    let had = c.loop-other.invariant in
    let next = c.loop-other.next in
    let bound = c.loop-other.bound in
    let whole : take i ess ≡ ess = take_all i ess (omega (arith, c.loop-other-test.false, length-map c.args.others.now scored_left)) in
    All-common (λ e. c.args.doc ≤ e.document → e.document < next → e.score ≤ bound) held_sum (leader ∷ ess) (λ d from to. omega (
      arith,
      had.bounded d from to,
      ap (λ (r : List (List Entry)). sum (scores_at d (leader ∷ r))) whole,
    ))
