-- A cursor over one document hands the combiner the score.
use Rattle.std.proofs.Common.{◌≡◌, ◌<◌, ◌-◌, ◌==◌, ◌||◌, [], ◌∷◌, length, nat_abs, w64, arith, refl, ap, ap₂, sym, subst, ◌∙◌, inl}
use Rattle.std.proofs.Common.{inr}
use Rattle.std.proofs.lemmas.Bool.{cases_lt}
use Rattle.std.proofs.lemmas.Int.{to_z-of_z}
use Rattle.qm_docset.specs.Entry.{Limits, head_document, head_score}
use Rattle.qm_docset.specs.declared.numbers.TheConstants.{TERMINATED}
use Rattle.qm_combine.specs.AllDocuments.{all_from, all_left, one}
use Rattle.qm_combine.specs.RescoredFacts.{head_document-rescored, head_score-rescored}
use Rattle.qm_docset.specs.Words.{words_have}
use Rattle.qm_combine.specs.WindowStates.{place_state}
use Rattle.qm_combine.specs.Window.{window_has, window_state}
use Rattle.qm_combine.proofs.Adding.{IsAdded-made}
use Rattle.qm_combine.proofs.Leading.{whole}
use Rattle.qm_combine.proofs.WindowWords.{has_at, has_at-put, state_at, state_at-before, state_at-from}
use Rattle.qm_combine.proofs.union.window.Window.add.Goals as goal

one_document : all_from 0 1 ≡ one 0 ∷ []
unfolding all_from
one_document = refl

-- no states are kept: any score leaves them as they are
pub mark-requires-clause-stateless : goal.mark-requires-clause-stateless
mark-requires-clause-stateless g c = c.keeps_no_states.ensures c.if-keeps_no_states.true

pub returns-then-keeps_no_states : goal.returns-then-keeps_no_states
returns-then-keeps_no_states g c = c.mark.ensures.added _

pub put-requires-clause-here : goal.put-requires-clause-here
put-requires-clause-here g c =
    omega (
      arith,
      ap head_document c.new-scorer.ensures.cursor.entries ∙ head_document-rescored _ _ ∙ ap head_document c.new.ensures.lists.entries
          ∙ ap head_document one_document,
    )

pub put-requires-clause-room : goal.put-requires-clause-room
unfolding window_state window_has
put-requires-clause-room g c =
    let w = c.args.self.now in
    let here : window_state w c.args.doc ≡ place_state c.as_mut_slice.result.now w.states.items w.combiner (c.args.doc - w.start) =
    state_at-from w.start w.buckets.items w.states.items w.combiner c.args.doc c.requires.span.0
    ∙ ap (λ ws. place_state ws w.states.items w.combiner (c.args.doc - w.start)) (sym c.as_mut_slice.ensures.value) in
    let top : nat_abs c.args.score ≡ nat_abs c.new-scorer.result.score =
    sym (ap (λ (l : Limits). l.top) c.new-scorer.ensures.cursor.limits ∙ ap nat_abs (to_z-of_z w64 c.args.score c.ranges.score)) in
    subst (λ n. g.C.ScoreCombiner.has_room (place_state c.as_mut_slice.result.now w.states.items w.combiner (c.args.doc - w.start)) n) top
    (subst (λ s. g.C.ScoreCombiner.has_room s (nat_abs c.args.score)) here c.requires.room)

pub returns : goal.returns
unfolding window_has window_state
returns g c =
    let w = c.args.self.now in
    let step = g.C.ScoreCombiner.step in
    let low = c.requires.span.0 in
    let words = whole w.buckets.len c.put.new.buckets w.buckets.items (c.put.auto.buckets ∙ ap length c.as_mut_slice.ensures.value) w.buckets.ok.0 in
    let here : head_document (all_left c.new.result) < TERMINATED =
    omega (arith, ap head_document c.new.ensures.lists.entries, ap head_document one_document) in
    let score = ap head_score c.new-scorer.ensures.cursor.entries ∙ head_score-rescored _ _ here in
    let before : place_state c.as_mut_slice.result.now w.states.items w.combiner (c.args.doc - w.start) ≡ window_state w c.args.doc =
    ap (λ ws. place_state ws w.states.items w.combiner (c.args.doc - w.start)) c.as_mut_slice.ensures.value
    ∙ sym (state_at-from w.start w.buckets.items w.states.items w.combiner c.args.doc low) in
    IsAdded-made step w _ c.args.doc _ (omega (arith, c.max-self.ensures)) (omega (arith, c.max-self.ensures))
    (λ d. ap (λ ws. has_at w.start ws d) words
    ∙ has_at-put w.start c.args.doc w.buckets.items c.put.new.buckets low (λ x. c.put.ensures.documents x
    ∙ ap (λ ws. x == c.args.doc - w.start || words_have ws x) c.as_mut_slice.ensures.value) d)
    (ap (λ ws. state_at w.start ws c.put.new.states.items w.combiner c.args.doc) words
    ∙ state_at-from w.start c.put.new.buckets c.put.new.states.items w.combiner c.args.doc low
    ∙ c.put.ensures.state ∙ ap₂ step before (score ∙ ap nat_abs (to_z-of_z w64 c.args.score c.ranges.score)))
    (λ d other. ap (λ ws. state_at w.start ws c.put.new.states.items w.combiner d) words ∙ elim (cases_lt d w.start) [
      | inl before ↦ state_at-before w.start c.put.new.buckets c.put.new.states.items w.combiner d before
          ∙ sym (state_at-before w.start w.buckets.items w.states.items w.combiner d before)
      | inr past ↦
          state_at-from w.start c.put.new.buckets c.put.new.states.items w.combiner d past ∙ c.put.ensures.others (d - w.start) (omega arith)
          ∙ ap (λ ws. place_state ws w.states.items w.combiner (d - w.start)) c.as_mut_slice.ensures.value
          ∙ sym (state_at-from w.start w.buckets.items w.states.items w.combiner d past)
    ]) refl refl
