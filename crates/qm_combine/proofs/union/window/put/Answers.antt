-- A place that is new begins cleared, and one that was there goes on.
use Rattle.std.proofs.Common.{◌≡◌, ◌<◌, length, sym, ap, subst, ◌∙◌, arith}
use Rattle.qm_docset.specs.Entry.{head_score}
use Rattle.qm_combine.specs.WindowStates.{place_state}
use Rattle.qm_combine.proofs.WindowWords.{place_state-new, place_state-old, place_state-other, place_state-put, place_state-same}
use Rattle.qm_combine.proofs.union.window.put.Goals as goal
use Rattle.qm_combine.proofs.union.window.put.Goals.{Joined-is_new, then-is_new, else-is_new}
use Rattle.qm_combine.proofs.union.window.put.Given.{Over}

begins : (g : Over) (c : Joined-is_new g) → place_state c.args.buckets.now c.args.states.now.items c.args.cleared c.args.place ≡ c.if-is_new.state
begins g c =
    let words = c.args.buckets.now in
    let states = c.make_states.new.states in
    let there : c.args.place < length states.items = omega (arith, c.make_states.ensures.place, states.ok.0) in
    sym (place_state-same words states.items c.args.states.now.items c.args.cleared c.make_states.ensures.same c.args.place) ∙ elim c.if-is_new.branch [
      | then-is_new b ↦ place_state-new words c.args.place states.items c.args.cleared c.mark_place-is_new.result c.mark_place-is_new.ensures.new
          b.if-is_new.true ∙ sym b.state-is
      | else-is_new b ↦ place_state-old words c.args.place states.items c.args.cleared c.mark_place-is_new.result c.mark_place-is_new.ensures.new
          b.if-is_new.false b.index.result.now b.index.ensures there ∙ sym b.state-is
    ]

pub update-requires-clause-room : goal.update-requires-clause-room
update-requires-clause-room g c =
    subst (λ s. g.C.ScoreCombiner.has_room s (g.S.DocSet.limits c.args.scorer.now).top)
    (begins g (goal.at.update-requires-clause-room g c).Joined-is_new) c.requires.room

pub returns-clause-state : goal.returns-clause-state
returns-clause-state g c =
    let states = c.make_states.new.states in
    let there : c.args.place < length states.items = omega (arith, c.make_states.ensures.place, states.ok.0) in
    place_state-put c.args.buckets.now c.mark_place-is_new.new.buckets c.args.place c.mark_place-is_new.ensures.documents
    states.items c.args.cleared c.update.new.self there
    ∙ c.update.ensures.state
    ∙ ap (λ s. g.C.ScoreCombiner.step s (head_score (g.S.DocSet.entries c.args.scorer.now))) (sym (begins g (goal.at.returns-clause-state g c).Joined-is_new))

pub returns-clause-others : goal.returns-clause-others
returns-clause-others g c = λ x other.
    let words = c.args.buckets.now in
    let states = c.make_states.new.states in
    let there : c.args.place < length states.items = omega (arith, c.make_states.ensures.place, states.ok.0) in
    place_state-other words c.mark_place-is_new.new.buckets c.args.place c.mark_place-is_new.ensures.documents
    states.items c.args.cleared c.update.new.self there x other
    ∙ place_state-same words states.items c.args.states.now.items c.args.cleared c.make_states.ensures.same x
