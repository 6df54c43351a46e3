use Rattle.std.proofs.Common.{◌≡◌, ◌<◌, ◌≤◌, ◌*◌, ◌∙◌, ℕ, ℤ, All, Option, Some, ap, arith, length, map, refl, subst, sym, take}
use Rattle.std.proofs.lemmas.List.{length-map, length-take}
use Rattle.qm_docset.specs.declared.numbers.TheConstants.{TERMINATED}
use Rattle.qm_index.specs.Indexed.{Indexed, indexed}
use Rattle.qm_index.specs.Parts.{segments_of}
use Rattle.qm_query.specs.Query.{query_of as built_query}
use Rattle.qm_query.specs.Searches.{scoring_by}
use Rattle.qm_query.specs.TopDocs.{alive_matches_from, score_first}
use Rattle.qm_script.specs.BestListed.{best_listed, firsts_from, found_item}
use Rattle.qm_script.specs.Parts.{document_count}
use Rattle.qm_script.specs.ProgramNumbers.{most_segments}
use Rattle.qm_script.specs.Served.{Serve}
use Rattle.qm_script.specs.Spelled.{query_of}
use Rattle.qm_script.specs.Under.{tree_of}
use Rattle.qm_script.specs.declared.searching.Hit.{Hit}
use Rattle.qm_weight.specs.Best.{best, by_score}
use Rattle.qm_script.proofs.Answering.{best-same}
use Rattle.qm_script.proofs.BestListings.{best-there, found-listed}
use Rattle.qm_script.proofs.PartLemmas.{count-readers}
use Rattle.qm_script.proofs.SearchedIndexes.{serve-ready}
use Rattle.qm_script.proofs.searching.best_hits.Goals as goal

pub first_numbers-requires : goal.first_numbers-requires
first_numbers-requires c =
    let readers = c.searcher-searcher.result.now.segments in
    let few = subst (λ n. n ≤ most_segments * TERMINATED) (sym (count-readers readers)) c.searcher-searcher.ensures.few in
    record { few = subst (λ rs. document_count (segments_of rs) ≤ most_segments * TERMINATED) (sym c.segment_readers.ensures.segments) few }

pub hits_of-requires-clause-there : goal.hits_of-requires-clause-there
hits_of-requires-clause-there c =
    let searcher = c.searcher-searcher.result.now in
    let readers = searcher.segments in
    let tree = tree_of (scoring_by searcher searcher) (built_query c.in_ok-query.query) in
    let firsts = c.as_slice.ensures.value ∙ c.in_ok-firsts.ensures.numbers ∙ ap (λ rs. firsts_from 0 (segments_of rs)) c.segment_readers.ensures.segments in
    let found = c.as_slice-2.ensures.value ∙ c.in_ok-found.ensures.best.are
    ∙ ap (λ k. map score_first (best k (alive_matches_from 0 tree readers))) c.with_limit-top.ensures in
    subst (λ fs. All (λ f. f.1.segment_ord < length c.as_slice.result.now) fs) (sym found)
    (subst (λ ns. All (λ f. f.1.segment_ord < length ns) (map score_first (best c.args.limit (alive_matches_from 0 tree readers)))) (sym firsts)
    (best-there tree c.args.limit readers))

pub returns-clause-best : goal.returns-clause-best
returns-clause-best c =
    let i = c.make_ready.new.index in
    let s = indexed c.args.index.now in
    let q = query_of c.args.spelled.now in
    let searcher = c.searcher-searcher.result.now in
    let readers = searcher.segments in
    let same = c.in_ok-make_ready.ensures.documents in
    let enable = scoring_by searcher searcher in
    let query = built_query c.in_ok-query.query in
    let tree = tree_of enable query in
    let serve = subst (λ t. Serve q t readers) same (serve-ready i q readers c.searcher-searcher.ensures.searched c.searcher-searcher.ensures.merged
    c.searcher-searcher.ensures.parts c.in_ok-make_ready.ensures.ready.1) in
    let firsts = c.as_slice.ensures.value ∙ c.in_ok-firsts.ensures.numbers ∙ ap (λ rs. firsts_from 0 (segments_of rs)) c.segment_readers.ensures.segments in
    let found = c.as_slice-2.ensures.value ∙ c.in_ok-found.ensures.best.are
    ∙ ap (λ k. map score_first (best k (alive_matches_from 0 tree readers))) c.with_limit-top.ensures in
    let listed : map (found_item c.as_slice.result.now) c.as_slice-2.result.now ≡ best_listed c.args.limit tree (segments_of readers) =
    ap (λ ns. map (found_item ns) c.as_slice-2.result.now) firsts ∙ ap (map (found_item (firsts_from 0 (segments_of readers)))) found
    ∙ found-listed tree c.args.limit readers in
    record {
      query = query;
      built = c.in_ok-query.ensures;
      enable = enable;
      fields = ap (λ w. w.schema) c.searcher-searcher.ensures.statistics ∙ ap (λ (t : Indexed). t.current.schema) same;
      searched = searcher;
      scores = refl;
      weighed = c.searcher-searcher.ensures.statistics ∙ c.in_ok-make_ready.ensures.statistics;
      best = c.in_ok-hits.ensures ∙ listed ∙ best-same enable s q query readers c.in_ok-query.ensures c.args.limit serve;
    }

pub returns-clause-few : goal.returns-clause-few
returns-clause-few c =
    let searcher = c.searcher-searcher.result.now in
    let readers = searcher.segments in
    let tree = tree_of (scoring_by searcher searcher) (built_query c.in_ok-query.query) in
    let shown : Hit → ℕ × Option ℤ = λ h. (h.document, Some h.score) in
    let firsts = c.as_slice.ensures.value ∙ c.in_ok-firsts.ensures.numbers ∙ ap (λ rs. firsts_from 0 (segments_of rs)) c.segment_readers.ensures.segments in
    let found = c.as_slice-2.ensures.value ∙ c.in_ok-found.ensures.best.are
    ∙ ap (λ k. map score_first (best k (alive_matches_from 0 tree readers))) c.with_limit-top.ensures in
    let ranked = by_score (alive_matches_from 0 tree readers) in
    omega (
      arith,
      length-map c.in_ok-hits.hits.items shown,
      ap length c.in_ok-hits.ensures,
      length-map c.as_slice-2.result.now (found_item c.as_slice.result.now),
      ap length found,
      length-map (take c.args.limit ranked) score_first,
      length-take c.args.limit ranked,
    )
