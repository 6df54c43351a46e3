use Rattle.qm_query.proofs.BuilderLemmas.{minimum_of_clauses}
use Rattle.qm_query.proofs.boolean_query.BooleanQuery.new.Goals as goal

pub returns : goal.returns
returns c = let minimum = minimum_of_clauses c.args.subqueries.items in cc
