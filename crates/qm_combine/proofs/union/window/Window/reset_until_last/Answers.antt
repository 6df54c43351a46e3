-- Once all up to the last are dropped, the words have nothing.
use Rattle.std.proofs.Common.{◌≡◌, ℕ, ◌+◌, ◌-◌, false, nat_le, ap, sym, true≢false, arith, ◌∙◌}
use Rattle.std.proofs.lemmas.Bool.{and_parts, and_right, false_from_ne_true, leb-true}
use Rattle.qm_docset.specs.Words.{words_have}
use Rattle.qm_combine.specs.Window.{window_has}
use Rattle.qm_combine.proofs.Refilled.{window_has-before_end}
use Rattle.qm_combine.proofs.WindowWords.{has_at-from}
use Rattle.qm_combine.proofs.union.window.Window.reset_until_last.Goals as goal
use Rattle.qm_combine.proofs.union.window.Window.reset_until_last.Goals.{After-drop_below}
use Rattle.qm_combine.proofs.union.window.Window.reset_until_last.Given.{Over}

none : (g : Over) (c : After-drop_below g) → (d : ℕ) → window_has c.drop_below.new.self d ≡ false
none g c d = false_from_ne_true (window_has c.drop_below.new.self d) (λ here.
    let w = c.args.self.now in
    let both = and_parts (nat_le c.saturating_add.result d) (window_has w d) (sym (c.drop_below.ensures.documents d) ∙ here) in
    let past = leb-true c.saturating_add.result d both.0 in
    let low = c.requires.until d both.1 in
    let inside = window_has-before_end w d both.1 in
    absurd (omega (arith, c.saturating_add.ensures, w.within)))

no_word : (g : Over) (c : After-drop_below g) → (x : ℕ) → words_have c.drop_below.new.self.buckets.items x ≡ false
unfolding window_has
no_word g c x =
    let w = c.drop_below.new.self in
    let place : w.start + x - w.start ≡ x = omega arith in
    sym (ap (words_have w.buckets.items) place) ∙ sym (has_at-from w.start w.buckets.items (w.start + x) (omega arith)) ∙ none g c (w.start + x)

pub returns-clause-documents : goal.returns-clause-documents
unfolding window_has
returns-clause-documents g c = λ d.
    and_right (nat_le c.args.start d) _ (no_word g (goal.at.returns-clause-documents g c).After-drop_below (d - c.args.start))

pub returns-clause-until : goal.returns-clause-until
returns-clause-until g c = λ d here. absurd (true≢false (sym here ∙ returns-clause-documents g c d))
