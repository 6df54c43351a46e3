-- By what is known of every answer: it is in an answer of one, or stands behind it.
use Rattle.std.proofs.Common.{◌≡◌, arith, rules, slice_get, subst}
use Rattle.qm_postings.specs.contracts.searcher.SearcherBm25StatisticsProvider.TheImpl.{ghosts}
use Rattle.qm_query.specs.TopDocs.{AreTopDocs, all_found}
use Rattle.qm_query.specs.TopDocsFacts.{top_docs-length, top_docs-others}
use Rattle.example_callers.proofs.BestFound.{best_found, none_found}
use Rattle.example_callers.proofs.top_docs_callers.best_address.Goals as goal

pub returns-clause-none : goal.returns-clause-none
returns-clause-none g c =
    let searcher = c.args.searcher.now in
    let query = g.Q.Query.query c.args.query.now in
    let found = c.in_ok-found.found.items in
    let top : AreTopDocs ghosts searcher query 1 found =
    subst (λ k. AreTopDocs ghosts searcher query k found) c.with_limit.ensures c.in_ok-found.ensures.best in
    let is : c.copied.result ≡ slice_get found 0 = search rules in
    none_found (all_found ghosts searcher query) c.copied.result found is (top_docs-others ghosts searcher query 1 found top)

pub returns-clause-best : goal.returns-clause-best
returns-clause-best g c =
    let searcher = c.args.searcher.now in
    let query = g.Q.Query.query c.args.query.now in
    let found = c.in_ok-found.found.items in
    let top : AreTopDocs ghosts searcher query 1 found =
    subst (λ k. AreTopDocs ghosts searcher query k found) c.with_limit.ensures c.in_ok-found.ensures.best in
    let is : c.copied.result ≡ slice_get found 0 = search rules in
    best_found (all_found ghosts searcher query) c.copied.result found is
    (omega (arith, top_docs-length ghosts searcher query 1 found top)) (top_docs-others ghosts searcher query 1 found top)
