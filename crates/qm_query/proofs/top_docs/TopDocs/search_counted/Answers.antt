-- What the query's weight finds best, the query does; and where it has no weight nothing is found.
use Rattle.std.proofs.Common.{ℕ, ◌<◌, Err, Result, ap, arith, length, rules, ◌∙◌}
use Rattle.qm_schema.specs.declared.error.QueryError.{QueryError}
use Rattle.qm_weight.proofs.LeafWeights.{leaves-fit}
use Rattle.qm_weight.specs.Weights.{tree_of}
use Rattle.qm_query.specs.TopDocs.{IsTopDocsRefusalBy}
use Rattle.qm_query.proofs.SearchFacts.{best_fits, best_refused, best_unweighed, found_best, if_ok_anyway, leaves_fit, scored_for}
use Rattle.qm_query.proofs.top_docs.TopDocs.search_counted.Goals as goal

pub returns-in_err-weight-clause-refused : goal.returns-in_err-weight-clause-refused
returns-in_err-weight-clause-refused g c =
    let under = c.enabled_from_statistics_provider-scoring in
    let refused : IsTopDocsRefusalBy g.P.Bm25StatisticsProvider c.args.statistics_provider.now c.args.searcher.now (g.Q.Query.query c.args.query.now) c.args.self.now c.in_err-weight.field-0.0 =
    best_unweighed g.P.Bm25StatisticsProvider c.args.statistics_provider.now c.args.searcher.now under.result
    (g.Q.Query.query c.args.query.now) under.ensures.provider c.args.self.now c.in_err-weight.field-0.0 under.ensures.schema c.in_err-weight.ensures.refused in
    search rules

pub returns-clause-best : goal.returns-clause-best
returns-clause-best g c =
    let best = found_best g.P.Bm25StatisticsProvider c.args.statistics_provider.now c.args.searcher.now c.enabled_from_statistics_provider-scoring.result
    (g.Q.Query.query c.args.query.now) c.enabled_from_statistics_provider-scoring.ensures.provider (tree_of c.deref-2.result.now)
    (ap tree_of c.deref-2.ensures ∙ c.in_ok-weight.ensures.tree) (λ v. v.documents.items) _ c.best_alive.result c.best_alive.ensures.best in
    search rules

pub returns-clause-refused : goal.returns-clause-refused
returns-clause-refused g c =
    let some : 0 < c.args.self.now = search (arith, rules) in
    best_refused g.P.Bm25StatisticsProvider c.args.statistics_provider.now c.args.searcher.now c.enabled_from_statistics_provider-scoring.result (g.Q.Query.query c.args.query.now) c.enabled_from_statistics_provider-scoring.ensures.provider
    (tree_of c.deref-2.result.now) (ap tree_of c.deref-2.ensures ∙ c.in_ok-weight.ensures.tree) c.args.self.now c.best_alive.result some
    c.best_alive.ensures.refused

pub returns-in_err-check_fits-clause-refused : goal.returns-in_err-check_fits-clause-refused
returns-in_err-check_fits-clause-refused g c =
    let some : 0 < c.args.self.now = search (arith, rules) in
    let refused : IsTopDocsRefusalBy g.P.Bm25StatisticsProvider c.args.statistics_provider.now c.args.searcher.now (g.Q.Query.query c.args.query.now) c.args.self.now c.in_err-check_fits.field-0.0 =
    best_refused g.P.Bm25StatisticsProvider c.args.statistics_provider.now c.args.searcher.now c.enabled_from_statistics_provider-scoring.result (g.Q.Query.query c.args.query.now) c.enabled_from_statistics_provider-scoring.ensures.provider
    (tree_of c.deref.result.now) (ap tree_of c.deref.ensures ∙ c.in_ok-weight.ensures.tree) c.args.self.now
    (let r : Result ℕ QueryError = Err c.in_err-check_fits.field-0.0 in r) some c.in_err-check_fits.ensures.refused in
    search rules

pub returns-clause-fits : goal.returns-clause-fits
returns-clause-fits g c =
    let fits = best_fits g.P.Bm25StatisticsProvider c.args.statistics_provider.now c.args.searcher.now c.enabled_from_statistics_provider-scoring.result (g.Q.Query.query c.args.query.now)
    c.enabled_from_statistics_provider-scoring.ensures.provider (tree_of c.deref.result.now)
    (ap tree_of c.deref.ensures ∙ c.in_ok-weight.ensures.tree) c.args.self.now c.in_ok-check_fits.ensures.fits in
    if_ok_anyway c.best_alive.result fits

-- none is wanted
pub returns-then-self-eq0-clause-fits : goal.returns-then-self-eq0-clause-fits
returns-then-self-eq0-clause-fits g c =
    leaves_fit g.P.Bm25StatisticsProvider c.args.statistics_provider.now c.args.searcher.now c.enabled_from_statistics_provider-scoring.result (g.Q.Query.query c.args.query.now)
    c.enabled_from_statistics_provider-scoring.ensures.provider (tree_of c.in_ok-weight.weight.value)
    c.in_ok-weight.ensures.tree c.args.self.now (search rules) (leaves-fit c.in_ok-weight.weight.value)

pub returns-clause-scored : goal.returns-clause-scored
returns-clause-scored g c =
    scored_for g.P.Bm25StatisticsProvider c.args.statistics_provider.now c.args.searcher.now c.enabled_from_statistics_provider-scoring.result
    (g.Q.Query.query c.args.query.now) c.enabled_from_statistics_provider-scoring.ensures.provider (tree_of c.deref-2.result.now)
    (ap tree_of c.deref-2.ensures ∙ c.in_ok-weight.ensures.tree) (λ v. length v.documents.items) (λ v. v.scored) c.best_alive.result
    c.best_alive.ensures.scored
