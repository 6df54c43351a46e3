use Rattle.std.proofs.Common.{rules}
use Rattle.qm_query.specs.declared.any_query.AnyQuery as q
use Rattle.qm_query.specs.Query.{disjunction_max_of, disjuncts_of}
use Rattle.qm_query.proofs.Rows.{row_disjuncts-items}
use Rattle.qm_script.proofs.Building.{through, within-tie_breaker}
use Rattle.qm_script.proofs.query_builder.build_disjunction_max.Goals as goal

pub returns : goal.returns
returns c =
    let few =
    within-tie_breaker c.args.tie_breaker (disjuncts_of c.args.disjuncts.items) (λ over. let e = c.in_ok-query.ensures.refused.1 over in absurd (cc)) in
    through _ (disjunction_max_of c.in_ok-query.query) _ (rw c.in_ok-query.ensures.ok few) (search (rules, q.the_lemmas, row_disjuncts-items))
