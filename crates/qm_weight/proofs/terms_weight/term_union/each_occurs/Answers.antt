use Rattle.std.proofs.Common.{rules, ◌≡◌, arith, subst}
use Rattle.std.proofs.lemmas.List.{take_all}
use Rattle.std.proofs.lemmas.List.Elements.{All-more}
use Rattle.qm_weight.specs.TermUnions.{AreAll}
use Rattle.qm_weight.specs.Weights.{clause_occur}
use Rattle.qm_weight.specs.declared.terms_weight.TermClause.{TermClause}
use Rattle.qm_weight.proofs.terms_weight.term_union.each_occurs.Goals as goal

pub loop-clause-preserved : goal.loop-clause-preserved
loop-clause-preserved c =
    let P : TermClause → Type 0 = λ x. clause_occur x ≡ c.args.occur in
    let items = c.args.clauses.now in
    let i = c.loop-clause.clause-index in
    let x = c.clause-item.result in
    let here : P x = search rules in
    All-more P items i x c.loop-clause-test.true c.loop-clause.invariant (subst P c.clause-item.is here)

pub returns : goal.returns
returns c = λ all.
    subst (AreAll c.args.occur) (take_all c.loop-clause.clause-index c.args.clauses.now (omega (arith, c.loop-clause-test.false)))
    c.loop-clause.invariant
