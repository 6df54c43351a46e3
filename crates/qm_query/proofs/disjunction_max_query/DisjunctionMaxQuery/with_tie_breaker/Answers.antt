use Rattle.std.proofs.Common.{ap}
use Rattle.qm_query.specs.Query.{disjunction_max, disjuncts_of}
use Rattle.qm_query.proofs.BuilderLemmas.{same_tie_breaker}
use Rattle.qm_query.proofs.disjunction_max_query.DisjunctionMaxQuery.with_tie_breaker.Goals as goal

pub returns-clause-ok : goal.returns-clause-ok
returns-clause-ok c =
    let combiner = c.in_ok-with_tie_breaker.field-0 in
    ap (λ t. disjunction_max t (disjuncts_of c.args.disjuncts.items))
    (same_tie_breaker combiner.tie_breaker c.args.tie_breaker c.in_ok-with_tie_breaker.ensures.combines)
