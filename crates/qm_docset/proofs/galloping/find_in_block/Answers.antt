-- The documents of a block ascend too, and stand in the list from its first place on.
use Rattle.std.proofs.Common.{◌≡◌, ◌+◌, ◌-◌, length, take, drop, arith, inl, inr, length-drop}
use Rattle.std.proofs.lemmas.Bool.{cases_lt}
use Rattle.std.proofs.lemmas.List.{length-take-le}
use Rattle.qm_docset.proofs.GallopFacts.{get_or-part, increases_in_part, rises}
use Rattle.qm_docset.proofs.galloping.find_in_block.Goals as goal

pub returns-clause-below : goal.returns-clause-below
returns-clause-below c k from_low before =
    let docs = c.args.docs.now in
    let low = c.args.low in
    let width = low + c.args.size - low in
    let long : length (take width (drop low docs)) ≡ width = length-take-le width (drop low docs) (omega (arith, length-drop low docs)) in
    let below = c.count_below.ensures.passed (k - low) (omega arith) in
    rw (get_or-part docs low width k from_low (omega (arith, c.count_below.ensures.within))) at below

pub returns-clause-reached : goal.returns-clause-reached
returns-clause-reached c more =
    let docs = c.args.docs.now in
    let low = c.args.low in
    let width = low + c.args.size - low in
    let long : length (take width (drop low docs)) ≡ width = length-take-le width (drop low docs) (omega (arith, length-drop low docs)) in
    let place = low + c.count_below.result in
    elim (cases_lt c.count_below.result width) [
      | inl inside ↦
          let past = c.count_below.ensures.reached (place - low) (omega arith) (omega arith) in
          rw (get_or-part docs low width place (omega arith) (omega arith)) at past
      | inr all ↦
          let last = rises docs c.requires.ascending (low + c.args.size - 1) place (omega arith) more in
          omega (arith, c.if-docs-end.false)
    ]

pub returns-then-docs-end-clause-passed : goal.returns-then-docs-end-clause-passed
returns-then-docs-end-clause-passed c k from_low before =
    let last = rises c.args.docs.now c.requires.ascending k (c.args.low + c.args.size - 1) (omega (arith, c.requires.some)) (omega (arith, c.if-docs-low.false, c.requires.some)) in
    omega (arith, c.if-docs-end.true)

pub count_below-requires : goal.count_below-requires
count_below-requires c = increases_in_part c.args.docs.now c.args.low (c.args.low + c.args.size - c.args.low) c.requires.ascending (omega arith)
