-- The window keeps the score of the document.
use Rattle.std.proofs.Common.{◌<◌, map, pos, w64, arith, ap, sym, ◌∙◌}
use Rattle.std.proofs.lemmas.Int.{to_z-of_z}
use Rattle.qm_docset.specs.GatherFacts.{AreMembers-map}
use Rattle.qm_docset.specs.declared.numbers.TheConstants.{TERMINATED}
use Rattle.qm_combine.specs.United.{kept_score}
use Rattle.qm_combine.specs.Union.{united_limits}
use Rattle.qm_combine.specs.Window.{window_combiner, window_has}
use Rattle.qm_combine.proofs.Standing.{score_here}
use Rattle.qm_combine.proofs.union.buffered_union.BufferedUnionScorer.score.Goals as goal

pub score-requires : goal.score-requires
score-requires g c = c.requires.valid.own.standing.here (omega (arith, c.requires.valid.own.standing.first, c.requires.here))

pub returns-clause-score : goal.returns-clause-score
returns-clause-score g c =
    let s = c.args.self.now in
    let h = c.requires.valid in
    let below : s.doc < TERMINATED = omega (arith, h.own.standing.first, c.requires.here) in
    let members = AreMembers-map g.S.DocSet.limits g.S.DocSet.entries s.members.items (λ k d inside. g.met.S.DocSet.ascending _ (h.placed.valid k d inside)) in
    to_z-of_z w64 c.score.result (record { sfits = c.score.type_inv }) ∙ c.score.ensures
    ∙ ap pos (sym (score_here (g.L.LeastMembers.least s.least) (g.met.L.LeastMembers.some s.least) (window_has s.window)
    (kept_score g.C.ScoreCombiner.combined g.C.ScoreCombiner.value s.window) s.doc s.ahead
    (g.C.ScoreCombiner.combined (window_combiner s.window)) (united_limits (map g.S.DocSet.limits s.members.items)) _ _ members h.own.standing below))
