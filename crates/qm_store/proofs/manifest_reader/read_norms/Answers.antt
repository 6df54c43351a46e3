use Rattle.std.proofs.Common.{◌≡◌, ◌+◌, ◌-◌, ◌<◌, ◌∙◌, ℕ, List, Option, Some, ap, arith, length, length-set, sym, take}
use Rattle.std.proofs.lemmas.List.{take_all, take_more_set}
use Rattle.qm_store.specs.Items.{items_at, small_at}
use Rattle.qm_store.specs.Manifest.{norms_at}
use Rattle.qm_store.proofs.ItemsRead.{items-end, items-go_on, items-stop}
use Rattle.qm_store.proofs.manifest_reader.read_norms.Goals as goal

abbrev read : List ℕ → List ℕ → Option (ℕ × List ℕ)
read front rest = small_at rest

pub returns-in_default : goal.returns-in_default
unfolding norms_at
returns-in_default c =
    let at = c.loop-place in
    items-stop read (256 - at.place) (take at.place at.norms) at.rest.now _ at.invariant.whole (omega (arith, c.loop-place-test.true)) (sym c.in_default.ensures.read)

pub loop-place-preserved : goal.loop-place-preserved
loop-place-preserved c =
    let at = c.loop-place in
    let left = 256 - at.place in
    let inside : at.place < length at.norms = omega (arith, c.loop-place-test.true, at.invariant.long) in
    let e : 256 - (at.place + 1) ≡ left - 1 = omega arith in
    let more = take_more_set at.norms at.place c.in-Some.norm inside in
    record {
      whole =
          (λ i. items_at read (e i) (more i) c.in-Some.left.now)
          ∙ items-go_on read left (take at.place at.norms) at.rest.now _ at.invariant.whole (omega (arith, c.loop-place-test.true)) c.in-Some.norm c.in-Some.left.now
          (sym c.in-Some.ensures.read);
      long = length-set at.norms at.place c.in-Some.norm ∙ at.invariant.long;
    }

pub returns : goal.returns
unfolding norms_at
returns c =
    let at = c.loop-place in
    let whole = take_all at.place at.norms (omega (arith, at.invariant.long, c.loop-place-test.false)) in
    ap (λ l. Some (l, at.rest.now)) (sym whole)
    ∙ items-end read (256 - at.place) (take at.place at.norms) at.rest.now _ at.invariant.whole (omega (arith, c.loop-place-test.false, at.auto.place-end))
