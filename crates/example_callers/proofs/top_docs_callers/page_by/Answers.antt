-- No fewer documents were scored than are answered.
use Rattle.std.proofs.Common.{◌≡◌, [], arith, rules, subst}
use Rattle.qm_query.specs.TopDocs.{AreTopDocsBy}
use Rattle.std.proofs.lemmas.List.{nil_from_length}
use Rattle.example_callers.proofs.top_docs_callers.page_by.Goals as goal

pub returns-then-found-eq0-clause-none : goal.returns-then-found-eq0-clause-none
returns-then-found-eq0-clause-none g c =
    let searcher = c.args.searcher.now in
    let query = g.Q.Query.query c.args.query.now in
    let found = c.in_ok-found.found.documents.items in
    let none : found ≡ [] = nil_from_length found (search (arith, rules)) in
    let by = subst (λ k. AreTopDocsBy g.P.Bm25StatisticsProvider c.args.provider.now searcher query k found) c.with_limit.ensures c.in_ok-found.ensures.best in
    λ is. subst (AreTopDocsBy g.P.Bm25StatisticsProvider c.args.provider.now searcher query c.args.size) none by

pub returns-clause-some : goal.returns-clause-some
returns-clause-some g c =
    let searcher = c.args.searcher.now in
    let query = g.Q.Query.query c.args.query.now in
    let found = c.in_ok-found.found.documents.items in
    subst (λ k. AreTopDocsBy g.P.Bm25StatisticsProvider c.args.provider.now searcher query k found) c.with_limit.ensures c.in_ok-found.ensures.best
