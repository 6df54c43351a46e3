use Rattle.std.proofs.Common.{ap}
use Rattle.qm_query.specs.Query.{disjunction_max, disjuncts_of}
use Rattle.qm_query.proofs.BuilderLemmas.{no_tie_breaker}
use Rattle.qm_query.proofs.disjunction_max_query.DisjunctionMaxQuery.new.Goals as goal

pub returns : goal.returns
returns c = ap (λ t. disjunction_max t (disjuncts_of c.args.disjuncts.items)) (no_tie_breaker c.default.result.tie_breaker c.default.ensures.0)
