-- A query whose clauses, or disjuncts, stand in a row asks for what they ask for as a list.
use Rattle.std.proofs.Common.{◌≡◌, refl, ap}
use Rattle.qm_query.specs.Query.{disjunct, disjuncts_of, query_of, row_disjuncts, row_subqueries, subqueries_of, subquery}
use Rattle.qm_query.specs.declared.any_query.AnyQuery.{Row_of-BooleanQuery-subqueries-3, end_of-BooleanQuery-subqueries-3, more_of-BooleanQuery-subqueries-3}
use Rattle.qm_query.specs.declared.any_query.AnyQuery.{items-the_row-BooleanQuery-subqueries-3, Row_of-DisjunctionMaxQuery-disjuncts-1}
use Rattle.qm_query.specs.declared.any_query.AnyQuery.{end_of-DisjunctionMaxQuery-disjuncts-1, more_of-DisjunctionMaxQuery-disjuncts-1}
use Rattle.qm_query.specs.declared.any_query.AnyQuery.{items-the_row-DisjunctionMaxQuery-disjuncts-1}

pub row_subqueries-items : {n : _} (row : Row_of-BooleanQuery-subqueries-3 n) →
    row_subqueries row ≡ subqueries_of (items-the_row-BooleanQuery-subqueries-3 n row)
row_subqueries-items end_of-BooleanQuery-subqueries-3 = refl
row_subqueries-items (more_of-BooleanQuery-subqueries-3 occur p x more) = ap (subquery occur (query_of x)) (row_subqueries-items more)

pub row_disjuncts-items : {n : _} (row : Row_of-DisjunctionMaxQuery-disjuncts-1 n) →
    row_disjuncts row ≡ disjuncts_of (items-the_row-DisjunctionMaxQuery-disjuncts-1 n row)
row_disjuncts-items end_of-DisjunctionMaxQuery-disjuncts-1 = refl
row_disjuncts-items (more_of-DisjunctionMaxQuery-disjuncts-1 p x more) = ap (disjunct (query_of x)) (row_disjuncts-items more)
