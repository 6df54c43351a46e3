use Rattle.std.proofs.Common.{rules}
use Rattle.qm_query.specs.declared.any_query.AnyQuery as q
use Rattle.qm_query.proofs.Rows.{row_subqueries-items}
use Rattle.qm_query.proofs.query.BooleanQueryQueryClone.box_clone.Goals as goal

pub returns-clause-same : goal.returns-clause-same
returns-clause-same c = search (rules, q.the_lemmas, row_subqueries-items)
