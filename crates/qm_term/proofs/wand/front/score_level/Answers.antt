use Rattle.std.proofs.Common.{ℕ, ◌≤◌, ◌≡◌, ◌+◌, ◌∙◌, ◌<◌, [], ◌∷◌, ◌++◌, ap, arith, fold, get_or, length, map, nat_abs, pos, rules, subst, sum, sym, take, w64}
use Rattle.std.proofs.lemmas.Int.{to_z-of_z}
use Rattle.std.proofs.lemmas.List.{get_or-map, length-map, map-append, take_all, take_more}
use Rattle.std.proofs.lemmas.List.Elements.{All-take}
use Rattle.std.proofs.lemmas.List.Sums.{fold-append, sum-map, sum_by_more_le}
use mir.Val.{SFits}
use Rattle.qm_docset.specs.Entry.{greatest_score}
use Rattle.qm_term.specs.HeadRow.{row_lists}
use Rattle.qm_term.specs.Heads.{IsRecord, listed, no_member}
use Rattle.qm_term.specs.Pivot.{front_scores}
use Rattle.qm_term.specs.RunScorers.{first_score, wand_member}
use Rattle.qm_term.specs.declared.wand.heads.Head.{Head}
use Rattle.qm_term.proofs.RowLevel.{level_scores, scores_fit}
use Rattle.qm_term.proofs.RowRecords.{row_members, zeros}
use Rattle.qm_term.proofs.wand.front.score_level.Goals as goal

pub scored-one-requires : goal.scored-one-requires
scored-one-requires g c =
    let ss = c.args.scorers.now in
    let hs = c.args.heads.now in
    let ms = map wand_member ss in
    let items = take c.args.n hs in
    let h = get_or items c.loop-head.head-index zeros in
    let record_of = All-take (IsRecord ms) c.args.n hs c.requires.heads.records.each c.loop-head.head-index zeros c.loop-head-test.true in
    let inside : h.scorer < length ss = omega (arith, record_of.inside, length-map ss wand_member) in
    let same : c.score.result ≡ first_score (listed ms h) = c.score.ensures ∙ ap (λ s. first_score (wand_member s)) c.index-scorers-head.is
    ∙ ap first_score (sym (get_or-map wand_member ss h.scorer _ no_member inside)) in
    omega (
      arith,
      same,
      sum_by_more_le (λ x. first_score (listed ms x)) items c.loop-head.head-index zeros c.loop-head-test.true,
      scores_fit ms hs c.args.n (row_members ss hs c.requires.heads),
      c.requires.fits,
    )

pub update-requires-clause-room : goal.update-requires-clause-room
update-requires-clause-room g c =
    let ss = c.args.scorers.now in
    let hs = c.args.heads.now in
    let ms = map wand_member ss in
    let items = take c.args.n hs in
    let h = get_or items c.loop-head.head-index zeros in
    let record_of = All-take (IsRecord ms) c.args.n hs c.requires.heads.records.each c.loop-head.head-index zeros c.loop-head-test.true in
    let inside : h.scorer < length ss = omega (arith, record_of.inside, length-map ss wand_member) in
    let same : c.score.result ≡ first_score (listed ms h) = c.score.ensures ∙ ap (λ s. first_score (wand_member s)) c.index-scorers-head.is
    ∙ ap first_score (sym (get_or-map wand_member ss h.scorer _ no_member inside)) in
    let scores = map (λ x. first_score (listed ms x)) (take c.loop-head.head-index items) in
    let x = nat_abs c.scored-one.result.score in
    let top : x ≡ c.score.result = c.scored-one.ensures.top in
    let fits : x + sum scores ≤ greatest_score = omega (
      arith,
      top,
      same,
      sum-map (λ y. first_score (listed ms y)) (take c.loop-head.head-index items),
      sum_by_more_le (λ y. first_score (listed ms y)) items c.loop-head.head-index zeros c.loop-head-test.true,
      scores_fit ms hs c.args.n (row_members ss hs c.requires.heads),
      c.requires.fits,
    ) in
    subst (λ s. g.C.ScoreCombiner.has_room s x) (sym c.loop-head.invariant) (g.met.C.ScoreCombiner.room c.args.combiner scores x fits)

pub returns-clause-score : goal.returns-clause-score
returns-clause-score g c = λ p level.
    let ms = map wand_member c.args.scorers.now in
    let hs = c.args.heads.now in
    let items = take c.args.n hs in
    let scores = map (λ h. first_score (listed ms h)) (take c.loop-head.head-index items) in
    let fits : SFits w64 c.score-2.result = search rules in
    let all : scores ≡ front_scores p (row_lists c.args.scorers.now hs) =
    ap (map (λ h. first_score (listed ms h))) (take_all c.loop-head.head-index items c.loop-head-test.false)
    ∙ level_scores ms hs c.args.n p c.requires.heads.records level in
    to_z-of_z w64 c.score-2.result fits ∙ c.score-2.ensures
    ∙ ap pos (ap g.C.ScoreCombiner.value c.loop-head.invariant ∙ g.met.C.ScoreCombiner.combines c.args.combiner scores
    ∙ ap (g.C.ScoreCombiner.combined c.args.combiner) all)

pub loop-head-preserved : goal.loop-head-preserved
loop-head-preserved g c =
    let ss = c.args.scorers.now in
    let hs = c.args.heads.now in
    let ms = map wand_member ss in
    let items = take c.args.n hs in
    let i = c.loop-head.head-index in
    let h = get_or items i zeros in
    let f : Head → ℕ = λ x. first_score (listed ms x) in
    let step = g.C.ScoreCombiner.step in
    let start = g.C.ScoreCombiner.cleared c.args.combiner in
    let record_of = All-take (IsRecord ms) c.args.n hs c.requires.heads.records.each i zeros c.loop-head-test.true in
    let inside : h.scorer < length ss = omega (arith, record_of.inside, length-map ss wand_member) in
    let same : c.score.result ≡ f h = c.score.ensures ∙ ap (λ s. first_score (wand_member s)) c.index-scorers-head.is
    ∙ ap first_score (sym (get_or-map wand_member ss h.scorer _ no_member inside)) in
    let more : map f (take (i + 1) items) ≡ map f (take i items) ++ f h ∷ [] = ap (map f) (take_more items i zeros c.loop-head-test.true)
    ∙ map-append f (take i items) (h ∷ []) in
    c.update.ensures.state ∙ ap (step c.loop-head.state) (c.scored-one.ensures.score ∙ same) ∙ ap (λ s. step s (f h)) c.loop-head.invariant
    ∙ sym (ap (fold step start) more ∙ fold-append step start (map f (take i items)) (f h ∷ []))
