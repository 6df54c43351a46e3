use Rattle.std.proofs.Common.{arith, subst, Box, Global}
use Rattle.std.proofs.lemmas.List.{take_all}
use Rattle.std.proofs.lemmas.List.Elements.{All-more}
use Rattle.qm_query.specs.SharedTerms.{AreTermQueries, IsTermQuery}
use Rattle.qm_query.specs.declared.any_query.AnyQuery.{AnyQuery}
use Rattle.qm_query.proofs.disjunction_max_query.are_terms.Goals as goal

pub loop-query-preserved : goal.loop-query-preserved
loop-query-preserved c =
    let P : Box AnyQuery Global → Type 0 = λ q. IsTermQuery q.value in
    let items = c.args.disjuncts.now in
    let i = c.loop-query.query-index in
    let x = c.query-item.result in
    let here : P x = subst IsTermQuery c.deref.ensures (c.is_term.ensures c.if-not-is_term.false) in
    All-more P items i x c.loop-query-test.true c.loop-query.invariant (subst P c.query-item.is here)

pub returns : goal.returns
returns c = λ several.
    subst AreTermQueries (take_all c.loop-query.query-index c.args.disjuncts.now (omega (arith, c.loop-query-test.false))) c.loop-query.invariant
