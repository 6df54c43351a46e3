-- Queries that change the scores of what stands below them alone.
use Rattle.qm_query.specs.Query.{Query, boost, constant, query_of}
use Rattle.qm_query.specs.declared.any_query.AnyQuery.{AnyQuery}
use Rattle.qm_query.specs.declared.rescoring.Rescoring.{Rescoring}
use Rattle.qm_query.specs.declared.rescoring.Rescoring.TheVariants.{Boost, Constant}

-- a query at a boost, or with one score, by how its scores are changed
abbrev pub rescored_query : Rescoring → AnyQuery → Query
rescored_query (Boost factor) inside = boost factor (query_of inside)
rescored_query (Constant score) inside = constant score (query_of inside)
