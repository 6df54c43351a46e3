use Rattle.std.proofs.Common.{◌+◌, All, arith, get_or, subst, sym, take}
use Rattle.std.proofs.lemmas.List.{take_all, take_more}
use Rattle.std.proofs.lemmas.List.Elements.{All-push}
use Rattle.qm_store.specs.declared.kept_segment.KeptSegment.{KeptSegment}
use Rattle.qm_index.specs.SavedFiles.{IsNumberedBelow}
use Rattle.qm_index.proofs.SavingSteps.{numbered-later}
use Rattle.qm_index.proofs.stored_files.next_number.Goals as goal

pub loop-place-preserved : goal.loop-place-preserved
loop-place-preserved c =
    let ks = c.args.kept.now in
    let place = c.loop-place.place in
    let none : KeptSegment = record { key = 0; deletions = 0; deleted = 0 } in
    let own : IsNumberedBelow (c.max-last.result + 1) (get_or ks place none) =
    record { key = omega (arith, c.max.ensures, c.max-last.ensures); deletions = omega (arith, c.max.ensures, c.max-last.ensures) } in
    let so_far = numbered-later (c.loop-place.last + 1) (c.max-last.result + 1) (take place ks) (omega (arith, c.max.ensures, c.max-last.ensures)) c.loop-place.invariant.above in
    let more = subst (All (IsNumberedBelow (c.max-last.result + 1))) (sym (take_more ks place none c.loop-place-test.true))
    (All-push (IsNumberedBelow (c.max-last.result + 1)) (take place ks) (get_or ks place none) so_far own) in
    record {
      above = more;
      small = λ all.
          let least = all place none c.loop-place-test.true in
          omega (arith, c.max.ensures, c.max-last.ensures, c.loop-place.invariant.small all, least.key, least.deletions);
    }

pub returns-in-Some-clause-above : goal.returns-in-Some-clause-above
returns-in-Some-clause-above c =
    let ks = c.args.kept.now in
    let end = take_all c.loop-place.place ks c.loop-place-test.false in
    numbered-later (c.loop-place.last + 1) c.in-Some.next ks (omega (arith, c.in-Some.ensures.1)) (subst (All (IsNumberedBelow (c.loop-place.last + 1))) end c.loop-place.invariant.above)

pub returns-in-None-clause-there : goal.returns-in-None-clause-there
returns-in-None-clause-there c = λ all. absurd (omega (arith, c.loop-place.invariant.small all, c.in-None.ensures))
