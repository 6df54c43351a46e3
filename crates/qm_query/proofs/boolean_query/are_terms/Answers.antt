use Rattle.std.proofs.Common.{arith, subst, Box, Global}
use Rattle.std.proofs.lemmas.List.{take_all}
use Rattle.std.proofs.lemmas.List.Elements.{All-more}
use Rattle.qm_schema.specs.declared.occur.Occur.{Occur}
use Rattle.qm_query.specs.SharedTerms.{AreTermClauses, IsTermQuery}
use Rattle.qm_query.specs.declared.any_query.AnyQuery.{AnyQuery}
use Rattle.qm_query.proofs.boolean_query.are_terms.Goals as goal

pub loop-query-preserved : goal.loop-query-preserved
loop-query-preserved c =
    let P : Occur × Box AnyQuery Global → Type 0 = λ clause. IsTermQuery clause.1.value in
    let items = c.args.subqueries.now in
    let i = c.loop-query.query-index in
    let x = c.loop-query-item.result in
    let here : P x = subst IsTermQuery c.deref.ensures (c.is_term.ensures c.if-not-is_term.false) in
    All-more P items i x c.loop-query-test.true c.loop-query.invariant (subst P c.loop-query-item.is here)

pub returns : goal.returns
returns c = λ several.
    subst AreTermClauses (take_all c.loop-query.query-index c.args.subqueries.now (omega (arith, c.loop-query-test.false))) c.loop-query.invariant
