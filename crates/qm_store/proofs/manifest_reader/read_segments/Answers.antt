use Rattle.std.proofs.Common.{◌≡◌, ◌+◌, ◌-◌, ◌∙◌, ℕ, List, Option, ap, arith, sym}
use Rattle.qm_store.specs.Items.{each_at, items_at}
use Rattle.qm_store.specs.Manifest.{segment_at, segments_at}
use Rattle.qm_store.specs.RowBytes.{followed_by}
use Rattle.qm_store.specs.declared.kept_segment.KeptSegment.{KeptSegment}
use Rattle.qm_store.proofs.ItemsRead.{items-end, items-go_on, items-stop}
use Rattle.qm_store.proofs.manifest_reader.read_segments.Goals as goal

abbrev read : List KeptSegment → List ℕ → Option (KeptSegment × List ℕ)
read front rest = segment_at rest

pub returns-in_default-read_segment : goal.returns-in_default-read_segment
unfolding segments_at
returns-in_default-read_segment c =
    let at = c.loop in
    ap (λ (r : Option (ℕ × List ℕ)). followed_by r (each_at segment_at)) (sym c.in-Some.ensures.read)
    ∙ sym (items-stop read (c.in-Some.count - at.counter) at.segments.items at.rest.now _ at.invariant (omega (arith, c.loop-test.true))
    (sym c.in_default-read_segment.ensures))

pub loop-preserved : goal.loop-preserved
loop-preserved c =
    let at = c.loop in
    let left = c.in-Some.count - at.counter in
    let e : c.in-Some.count - (at.counter + 1) ≡ left - 1 = omega arith in
    (λ i. items_at read (e i) (c.in_ok-push.ensures.items i) c.in-Some-read_segment.left.now)
    ∙ items-go_on read left at.segments.items at.rest.now _ at.invariant (omega (arith, c.loop-test.true)) c.in-Some-read_segment.segment
    c.in-Some-read_segment.left.now (sym c.in-Some-read_segment.ensures)

pub returns : goal.returns
unfolding segments_at
returns c =
    let at = c.loop in
    ap (λ (r : Option (ℕ × List ℕ)). followed_by r (each_at segment_at)) (sym c.in-Some.ensures.read)
    ∙ sym (items-end read (c.in-Some.count - at.counter) at.segments.items at.rest.now _ at.invariant (omega (arith, c.loop-test.false, at.auto.counter-end)))
