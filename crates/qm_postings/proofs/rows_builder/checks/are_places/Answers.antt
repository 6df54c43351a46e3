use Rattle.std.proofs.Common.{◌≡◌, [], ap, arith, drop, length, subst, sym}
use Rattle.std.proofs.lemmas.Bool.{eq-eqb, eqb-true}
use Rattle.std.proofs.lemmas.List.{drop_all, length-drop}
use Rattle.qm_postings.specs.Rows.{ArePlaces}
use Rattle.qm_postings.proofs.rows_builder.checks.are_places.Goals as goal

pub returns : goal.returns
returns c =
    let at = c.loop-frequency in
    let fs = c.args.frequencies.now in
    let ps = c.args.positions.now in
    let done : drop at.frequency-index fs ≡ [] = drop_all at.frequency-index fs (omega (arith, c.loop-frequency-test.false, at.auto.frequency-index-end)) in (
      λ yes. at.invariant.left.1 (subst (λ l. ArePlaces l (drop at.start ps)) (sym done)
          (drop_all at.start ps (omega (arith, eqb-true at.start (length ps) yes)))),
      λ are.
          let none : drop at.start ps ≡ [] = subst (λ l. ArePlaces l (drop at.start ps)) done (at.invariant.left.0 are) in
          eq-eqb at.start (length ps) (omega (arith, length-drop at.start ps, ap length none, at.invariant.within)),
    )
