-- Words before the document's bucket are emptied, and that one is cut.
use Rattle.std.proofs.Common.{◌≡◌, ℕ, ◌+◌, ◌-◌, ◌*◌, ◌/◌, ◌<◌, ◌&&◌, nat_le, length, set, ap, sym, refl, arith, ◌∙◌}
use Rattle.std.proofs.lemmas.Bool.{and_parts, lt-leb, le-leb}
use Rattle.qm_docset.specs.Words.{words_have}
use Rattle.qm_combine.specs.Window.{window_has, window_state}
use Rattle.qm_combine.proofs.WindowWords.{cut_word, has_at, has_at-cut, state_at-same, words_have-cut, words_have-cut_all}
use Rattle.qm_combine.proofs.union.window.Window.drop_below.Goals as goal
use Rattle.qm_combine.proofs.union.window.Window.drop_below.Goals.{After-intersect, Else-full-lt64}
use Rattle.qm_combine.proofs.union.window.Window.drop_below.Given.{Over}

pub loop-bucket-preserved : goal.loop-bucket-preserved
loop-bucket-preserved g c =
    let words = c.loop-bucket.self.buckets.items in
    let i = c.loop-bucket.bucket in
    record {
      start = c.loop-bucket.invariant.start;
      last = c.loop-bucket.invariant.last;
      combiner = c.loop-bucket.invariant.combiner;
      states = c.loop-bucket.invariant.states;
      cut = words_have-cut (words_have c.args.self.now.buckets.items) words i (64 * (i + 1)) c.index_mut.result.now c.clear.new.self
          (omega (arith, c.loop-bucket.self.sixty_four, c.loop-bucket.self.buckets.ok.0)) c.index_mut.ensures.value c.loop-bucket.invariant.cut
          (omega arith) (omega arith)
          (λ x small. c.clear.ensures x ∙ sym (rw (lt-leb (64 * (i + 1)) (64 * i + x) (omega arith)) refl));
    }

-- where the document lies in the window
left : (g : Over) (c : After-intersect g) → (d : ℕ)
    → has_at c.loop-bucket.self.start (set c.loop-bucket.self.buckets.items (c.min-below.result / 64) c.intersect.result) d
    ≡ (nat_le c.args.doc d && window_has c.args.self.now d)
unfolding window_has
left g c d =
    let old = c.args.self.now in
    let l = c.loop-bucket.self in
    let below = c.min-below.result in
    let words = l.buckets.items in
    let cut_to : c.loop-bucket.bucket ≡ below / 64 = omega (arith, c.if-full-lt64.true) in
    let before : (x : ℕ) → words_have words x ≡ (nat_le (64 * (below / 64)) x && words_have old.buckets.items x) =
    λ x. rw cut_to at (c.loop-bucket.invariant.cut x) in
    let inside : below / 64 < length words = omega (arith, c.if-full-lt64.true, l.sixty_four, l.buckets.ok.0) in
    let cut = words_have-cut (words_have old.buckets.items) words (below / 64) below c.index.result.now c.intersect.result inside c.index.ensures
    before (omega arith) (omega arith)
    (λ x small. cut_word below x c.index.result.now c.range_greater_or_equal.result c.intersect.result c.intersect.ensures
    c.range_greater_or_equal.ensures small) in
    let place : below ≡ c.args.doc - old.start = omega (arith, c.if-full-lt64.true, c.min-below.ensures, c.saturating_sub.ensures) in
    ap (λ s. has_at s (set words (below / 64) c.intersect.result) d) c.loop-bucket.invariant.start
    ∙ has_at-cut old.start c.args.doc old.buckets.items (set words (below / 64) c.intersect.result) (λ x. cut x
    ∙ ap (λ n. nat_le n x && words_have old.buckets.items x) place) d

pub returns-then-full-lt64-clause-documents : goal.returns-then-full-lt64-clause-documents
unfolding window_has
returns-then-full-lt64-clause-documents g c d = left g (goal.at.returns-then-full-lt64-clause-documents g c).After-intersect d

pub returns-then-full-lt64-clause-state : goal.returns-then-full-lt64-clause-state
unfolding window_has window_state
returns-then-full-lt64-clause-state g c d past =
    let old = c.args.self.now in
    let l = c.loop-bucket.self in
    let words = set l.buckets.items (c.min-below.result / 64) c.intersect.result in
    let same : has_at l.start words d ≡ has_at old.start old.buckets.items d =
    left g (goal.at.returns-then-full-lt64-clause-state g c).After-intersect d ∙ rw (le-leb c.args.doc d past) refl in
    state_at-same old.start l.start old.buckets.items words old.states.items l.states.items old.combiner l.combiner d c.loop-bucket.invariant.start
    (ap (λ (v : _). v.items) c.loop-bucket.invariant.states) c.loop-bucket.invariant.combiner same

-- where it lies behind it
gone : (g : Over) (c : Else-full-lt64 g) → (d : ℕ) → window_has c.loop-bucket.self d ≡ (nat_le c.args.doc d && window_has c.args.self.now d)
unfolding window_has
gone g c d =
    let old = c.args.self.now in
    let l = c.loop-bucket.self in
    let all : c.loop-bucket.bucket ≡ 64 = omega (arith, c.if-full-lt64.false, c.min-below.ensures) in
    let cut : (x : ℕ) → words_have l.buckets.items x ≡ (nat_le 4096 x && words_have old.buckets.items x) = λ x. rw all at (c.loop-bucket.invariant.cut x) in
    let more : (x : ℕ) → words_have l.buckets.items x ≡ (nat_le (c.args.doc - old.start) x && words_have old.buckets.items x) = λ x. cut x
    ∙ words_have-cut_all old.buckets.items (c.args.doc - old.start) x (omega (arith, old.sixty_four, old.buckets.ok.0))
    (omega (arith, c.if-full-lt64.false, c.min-below.ensures, c.saturating_sub.ensures)) in
    ap (λ s. has_at s l.buckets.items d) c.loop-bucket.invariant.start ∙ has_at-cut old.start c.args.doc old.buckets.items l.buckets.items more d

pub returns-else-full-lt64-clause-documents : goal.returns-else-full-lt64-clause-documents
returns-else-full-lt64-clause-documents g c d = gone g (goal.at.returns-else-full-lt64-clause-documents g c).Else-full-lt64 d

pub returns-else-full-lt64-clause-state : goal.returns-else-full-lt64-clause-state
unfolding window_has window_state
returns-else-full-lt64-clause-state g c d past =
    let old = c.args.self.now in
    let l = c.loop-bucket.self in
    let same : has_at l.start l.buckets.items d ≡ has_at old.start old.buckets.items d =
    gone g (goal.at.returns-else-full-lt64-clause-state g c).Else-full-lt64 d ∙ rw (le-leb c.args.doc d past) refl in
    state_at-same old.start l.start old.buckets.items l.buckets.items old.states.items l.states.items old.combiner l.combiner d
    c.loop-bucket.invariant.start (ap (λ (v : _). v.items) c.loop-bucket.invariant.states) c.loop-bucket.invariant.combiner same

pub returns-then-full-lt64-clause-until : goal.returns-then-full-lt64-clause-until
returns-then-full-lt64-clause-until g c = λ until d here.
    let had = (and_parts (nat_le c.args.doc d) (window_has c.args.self.now d) (sym (returns-then-full-lt64-clause-documents g c d) ∙ here)).1 in
    let low = until d had in
    omega (arith, c.loop-bucket.invariant.last)

pub returns-else-full-lt64-clause-until : goal.returns-else-full-lt64-clause-until
returns-else-full-lt64-clause-until g c = λ until d here.
    let had = (and_parts (nat_le c.args.doc d) (window_has c.args.self.now d) (sym (returns-else-full-lt64-clause-documents g c d) ∙ here)).1 in
    let low = until d had in
    omega (arith, c.loop-bucket.invariant.last)
