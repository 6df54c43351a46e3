use Rattle.std.proofs.Common.{ap, refl, subst, ◌∙◌}
use Rattle.qm_index.specs.Indexed.{Indexed, indexed}
use Rattle.qm_query.specs.Query.{query_of as built_query}
use Rattle.qm_query.specs.Searches.{without_scores}
use Rattle.qm_script.specs.Served.{Serve}
use Rattle.qm_script.specs.Spelled.{query_of}
use Rattle.qm_script.specs.Under.{tree_of}
use Rattle.qm_script.proofs.Answering.{counted-same}
use Rattle.qm_script.proofs.SearchedIndexes.{counted-readers, serve-ready}
use Rattle.qm_script.proofs.searching.count_hits.Goals as goal

pub returns-clause-count : goal.returns-clause-count
returns-clause-count c =
    let i = c.make_ready.new.index in
    let s = indexed c.args.index.now in
    let q = query_of c.args.spelled.now in
    let searcher = c.searcher.result.now in
    let readers = searcher.segments in
    let same = c.in_ok-make_ready.ensures.documents in
    let enable = without_scores searcher in
    let query = built_query c.in_ok-query.query in
    let serve = subst (λ t. Serve q t readers) same
    (serve-ready i q readers c.searcher.ensures.searched c.searcher.ensures.merged c.searcher.ensures.parts c.in_ok-make_ready.ensures.ready.1) in
    record {
      query = query;
      built = c.in_ok-query.ensures;
      enable = enable;
      fields = ap (λ w. w.schema) c.searcher.ensures.statistics ∙ ap (λ (t : Indexed). t.current.schema) same;
      scores = refl;
      count = c.in_ok-count.ensures.count.is ∙ counted-readers (tree_of enable query) readers ∙ counted-same enable s q query readers c.in_ok-query.ensures serve;
    }
