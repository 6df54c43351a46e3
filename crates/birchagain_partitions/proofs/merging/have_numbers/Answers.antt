use Rattle.std.proofs.Common.{◌+◌, ◌≤◌, All, arith, pos, refl, subst}
use Rattle.std.proofs.lemmas.List.{take_all}
use Rattle.std.proofs.lemmas.List.Elements.{All-more}
use Rattle.qm_script.specs.declared.searching.Hit.{Hit}
use Rattle.birchagain_partitions.specs.Merging.{HaveNumbers}
use Rattle.birchagain_partitions.proofs.merging.have_numbers.Goals as goal

pub loop-hit-preserved : goal.loop-hit-preserved
loop-hit-preserved c =
    let none : Hit = record { document = 0; score = pos 0 } in
    All-more (λ h. c.args.offset + h.document ≤ 18446744073709551615) c.args.hits.now c.loop-hit.hit-index none c.loop-hit-test.true c.loop-hit.invariant
    (omega (arith, c.if-hit-highest.false, c.ranges.offset.fits))

pub returns : goal.returns
returns c = (λ t. subst (HaveNumbers c.args.offset) (take_all c.loop-hit.hit-index c.args.hits.now c.loop-hit-test.false) c.loop-hit.invariant, λ all. refl)
