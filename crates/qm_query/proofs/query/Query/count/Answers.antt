-- What the query's weight counts, the query does; and where it has no weight it has no count.
use Rattle.std.proofs.Common.{IsTrue, ap, rules, subst, ◌∙◌}
use Rattle.qm_weight.specs.Weights.{tree_of}
use Rattle.qm_query.specs.Fields.{is_served}
use Rattle.qm_query.specs.Searches.{IsCountRefusal}
use Rattle.qm_query.proofs.SearchFacts.{count_fits, count_refused, count_unweighed, counted, if_ok_anyway, if_ok_then, searcher_ghosts}
use Rattle.qm_query.proofs.query.Query.count.Goals as goal

pub returns-in_err-weight-clause-refused : goal.returns-in_err-weight-clause-refused
returns-in_err-weight-clause-refused g c =
    let under = c.disabled_from_searcher-enable_scoring in
    let refused : IsCountRefusal searcher_ghosts c.args.searcher.now (g.Self.Query.query c.args.self.now) c.in_err-weight.field-0.0 =
    count_unweighed searcher_ghosts c.args.searcher.now under.result
    (g.Self.Query.query c.args.self.now) under.ensures.provider c.in_err-weight.field-0.0 under.ensures.schema c.in_err-weight.ensures.refused in
    search rules

pub returns-clause-count : goal.returns-clause-count
returns-clause-count g c =
    let under = c.disabled_from_searcher-enable_scoring in
    counted searcher_ghosts c.args.searcher.now under.result (g.Self.Query.query c.args.self.now) under.ensures.provider c.count_fitting.result
    (tree_of c.deref.result.now) (ap tree_of c.deref.ensures ∙ c.in_ok-weight.ensures.tree) c.count_fitting.ensures.count

pub returns-clause-fits : goal.returns-clause-fits
returns-clause-fits g c =
    let under = c.disabled_from_searcher-enable_scoring in
    if_ok_then c.count_fitting.result (count_fits searcher_ghosts c.args.searcher.now under.result (g.Self.Query.query c.args.self.now) under.ensures.provider
    (tree_of c.deref.result.now) (ap tree_of c.deref.ensures ∙ c.in_ok-weight.ensures.tree)) c.count_fitting.ensures.fits

pub returns-clause-served : goal.returns-clause-served
returns-clause-served g c =
    let under = c.disabled_from_searcher-enable_scoring in
    if_ok_anyway c.count_fitting.result
    (subst (λ fields. IsTrue (is_served fields (g.Self.Query.query c.args.self.now))) under.ensures.schema c.in_ok-weight.ensures.served)

pub returns-clause-refused : goal.returns-clause-refused
returns-clause-refused g c =
    let under = c.disabled_from_searcher-enable_scoring in
    count_refused searcher_ghosts c.args.searcher.now under.result (g.Self.Query.query c.args.self.now) under.ensures.provider c.count_fitting.result
    (tree_of c.deref.result.now) (ap tree_of c.deref.ensures ∙ c.in_ok-weight.ensures.tree) c.count_fitting.ensures.refused
