-- No state is kept, so none changes.
use Rattle.std.proofs.Common.{◌==◌, ◌||◌, ◌-◌, length, ap, arith, refl, sym, ◌∙◌}
use Rattle.qm_docset.specs.Words.{words_have}
use Rattle.qm_combine.specs.Window.{window_has}
use Rattle.qm_combine.proofs.Adding.{IsAdded-made}
use Rattle.qm_combine.proofs.Leading.{whole}
use Rattle.qm_combine.proofs.WindowWords.{has_at, has_at-put, window_state-none}
use Rattle.qm_combine.proofs.union.window.Window.mark.Goals as goal

pub returns-clause-added : goal.returns-clause-added
unfolding window_has
returns-clause-added g c = λ score.
    let w = c.args.self.now in
    let k = c.requires.stateless in
    let step = g.C.ScoreCombiner.step in
    let words = whole w.buckets.len c.mark_place.new.buckets w.buckets.items (c.mark_place.auto.buckets ∙ ap length c.as_mut_slice.ensures.value)
    w.buckets.ok.0 in
    IsAdded-made step w _ c.args.doc score (omega (arith, c.max-self.ensures)) (omega (arith, c.max-self.ensures))
    (λ d. ap (λ ws. has_at w.start ws d) words
    ∙ has_at-put w.start c.args.doc w.buckets.items c.mark_place.new.buckets c.requires.span.0 (λ x. c.mark_place.ensures.documents x
    ∙ ap (λ ws. x == c.args.doc - w.start || words_have ws x) c.as_mut_slice.ensures.value) d)
    (window_state-none _ k.none c.args.doc ∙ sym (ap (λ s. step s score) (window_state-none w k.none c.args.doc) ∙ k.idle score))
    (λ d other. window_state-none _ k.none d ∙ sym (window_state-none w k.none d)) refl refl
