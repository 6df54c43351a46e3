use Rattle.std.proofs.Common.{◌≤◌, ◌*◌, ◌++◌, ap, filter, length, nat_le, subst, sym, take, ◌∙◌}
use Rattle.qm_docset.specs.declared.numbers.TheConstants.{TERMINATED}
use Rattle.qm_index.specs.Indexed.{Indexed, indexed}
use Rattle.qm_index.specs.Parts.{segments_of}
use Rattle.qm_query.specs.Query.{query_of as built_query}
use Rattle.qm_script.specs.BestListed.{alive_numbers}
use Rattle.qm_script.specs.Parts.{document_count}
use Rattle.qm_script.specs.ProgramNumbers.{most_segments}
use Rattle.qm_script.specs.Served.{Serve}
use Rattle.qm_script.specs.Spelled.{query_of}
use Rattle.qm_weight.specs.Weights.{tree_of as weight_tree_of}
use Rattle.qm_script.proofs.Answering.{page-same}
use Rattle.qm_script.proofs.Pages.{few-taken}
use Rattle.qm_script.proofs.PartLemmas.{count-readers}
use Rattle.qm_script.proofs.SearchedIndexes.{serve-ready}
use Rattle.qm_script.proofs.paging.page_hits.Goals as goal

pub fill-requires-clause-few : goal.fill-requires-clause-few
fill-requires-clause-few c =
    let readers = c.searcher-searcher.result.now.segments in
    let few = subst (λ n. n ≤ most_segments * TERMINATED) (sym (count-readers readers)) c.searcher-searcher.ensures.few in
    subst (λ rs. document_count (segments_of rs) ≤ most_segments * TERMINATED) (sym c.segment_readers.ensures.segments) few

pub returns-clause-page : goal.returns-clause-page
returns-clause-page c =
    let i = c.make_ready.new.index in
    let s = indexed c.args.index.now in
    let q = query_of c.args.spelled.now in
    let searcher = c.searcher-searcher.result.now in
    let readers = searcher.segments in
    let same = c.in_ok-make_ready.ensures.documents in
    let asked = c.disabled_from_searcher-enable_scoring in
    let enable = asked.result in
    let query = built_query c.in_ok-query.query in
    let serve = subst (λ t. Serve q t readers) same (serve-ready i q readers c.searcher-searcher.ensures.searched c.searcher-searcher.ensures.merged
    c.searcher-searcher.ensures.parts c.in_ok-make_ready.ensures.ready.1) in
    let begun = c.new-page.ensures.begun in
    let tree = ap weight_tree_of c.deref.ensures ∙ c.in_ok-weight.ensures.tree in
    let segments = c.segment_readers.ensures.segments in
    record {
      query = query;
      built = c.in_ok-query.ensures;
      enable = enable;
      fields = asked.ensures.schema ∙ ap (λ w. w.schema) c.searcher-searcher.ensures.statistics ∙ ap (λ (t : Indexed). t.current.schema) same;
      scores = asked.ensures.provider;
      page = c.in_ok-fill.ensures.taken.documents
          ∙ (λ j. take (begun.limit j) (begun.none j ++ filter (nat_le (begun.first j)) (alive_numbers (tree j) (segments_of (segments j)))))
          ∙ ap (take c.args.limit) (page-same enable s q query readers c.in_ok-query.ensures c.args.from serve);
    }

pub returns-clause-few : goal.returns-clause-few
returns-clause-few c =
    subst (λ n. length c.fill.new.self.documents.items ≤ n) c.new-page.ensures.begun.limit
    (few-taken _ _ _ c.in_ok-fill.ensures.taken.documents)
