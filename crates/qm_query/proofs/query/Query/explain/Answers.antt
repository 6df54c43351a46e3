-- What the query's weight explains, the query does.
use Rattle.std.proofs.Common.{ap, rules, ◌∙◌}
use Rattle.qm_term.specs.Explained.{value_of}
use Rattle.qm_weight.specs.Weights.{tree_of}
use Rattle.qm_query.proofs.SearchFacts.{explained, searcher_asks, searcher_ghosts, unexplained, unweighed}
use Rattle.qm_query.proofs.query.Query.explain.Goals as goal

pub returns-in_err-weight-clause-refused : goal.returns-in_err-weight-clause-refused
returns-in_err-weight-clause-refused g c =
    let refused = unweighed searcher_ghosts c.args.searcher.now c.enabled_from_searcher.result (g.Self.Query.query c.args.self.now)
    c.enabled_from_searcher.ensures.provider _ c.in_ok-reader.reader.now c.in_ok-reader.ensures.found c.args.address.segment_ord c.args.address.doc_id
    c.in_err-weight.field-0.0 (searcher_asks c.args.searcher.now) c.enabled_from_searcher.ensures.schema c.in_err-weight.ensures.refused in
    search rules

pub returns-clause-explained : goal.returns-clause-explained
returns-clause-explained g c =
    explained searcher_ghosts c.args.searcher.now c.enabled_from_searcher.result (g.Self.Query.query c.args.self.now) c.enabled_from_searcher.ensures.provider
    _ c.in_ok-reader.reader.now c.in_ok-reader.ensures.found c.args.address.segment_ord c.args.address.doc_id value_of
    (tree_of c.deref.result.now) (ap tree_of c.deref.ensures ∙ c.in_ok-weight.ensures.tree) c.explain.result c.explain.ensures.explained

pub returns-clause-refused : goal.returns-clause-refused
returns-clause-refused g c =
    unexplained searcher_ghosts c.args.searcher.now c.enabled_from_searcher.result (g.Self.Query.query c.args.self.now) c.enabled_from_searcher.ensures.provider
    _ c.in_ok-reader.reader.now c.in_ok-reader.ensures.found c.args.address.segment_ord c.args.address.doc_id value_of
    (tree_of c.deref.result.now) (ap tree_of c.deref.ensures ∙ c.in_ok-weight.ensures.tree) c.explain.result c.explain.ensures.refused
