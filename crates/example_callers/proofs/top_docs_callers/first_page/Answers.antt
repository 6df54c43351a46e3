-- The first of the best are the best of so many, and one more is found exactly where there are more.
use Rattle.std.proofs.Common.{◌≡◌, ◌+◌, nat_lt, length, take, arith, ap, subst, sym, rules, ◌∙◌}
use Rattle.qm_postings.specs.contracts.searcher.SearcherBm25StatisticsProvider.TheImpl.{ghosts}
use Rattle.qm_query.specs.QueryTree.{query_tree}
use Rattle.qm_query.specs.Searches.{count_in, with_scores}
use Rattle.qm_query.specs.TopDocs.{AreTopDocs}
use Rattle.qm_query.specs.TopDocsFacts.{top_docs-fewer, top_docs-length}
use Rattle.example_callers.proofs.BestFound.{more_found}
use Rattle.example_callers.proofs.top_docs_callers.first_page.Goals as goal

pub returns-clause-page : goal.returns-clause-page
returns-clause-page g c =
    let searcher = c.args.searcher.now in
    let query = g.Q.Query.query c.args.query.now in
    let size = c.args.size in
    let found = c.in_ok-found.found.items in
    let top : AreTopDocs ghosts searcher query (size + 1) found =
    subst (λ k. AreTopDocs ghosts searcher query k found) c.with_limit.ensures c.in_ok-found.ensures.best in
    let page : AreTopDocs ghosts searcher query size (take size found) = top_docs-fewer ghosts searcher query (size + 1) found top size (omega arith) in
    subst (AreTopDocs ghosts searcher query size) (sym c.truncate.ensures.items) page

pub returns-clause-more : goal.returns-clause-more
returns-clause-more g c =
    let searcher = c.args.searcher.now in
    let query = g.Q.Query.query c.args.query.now in
    let size = c.args.size in
    let found = c.in_ok-found.found.items in
    let top : AreTopDocs ghosts searcher query (size + 1) found =
    subst (λ k. AreTopDocs ghosts searcher query k found) c.with_limit.ensures c.in_ok-found.ensures.best in
    let count = count_in (query_tree ghosts (with_scores searcher) query) searcher.segments in
    let long : c.len.result ≡ length found = search rules in
    ap (nat_lt size) (long ∙ top_docs-length ghosts searcher query (size + 1) found top) ∙ more_found size count
