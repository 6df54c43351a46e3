use Rattle.std.proofs.Common.{◌≡◌, ◌<◌, ◌∙◌, [], All, ap, length, map, subst, sym}
use Rattle.qm_query.specs.Query.{query_of}
use Rattle.qm_query.specs.Searches.{scoring_by}
use Rattle.qm_query.specs.TopDocs.{alive_matches_from, score_first}
use Rattle.qm_script.specs.BestListed.{best_listed, firsts_from, found_item}
use Rattle.qm_index.specs.Parts.{segments_of}
use Rattle.qm_script.specs.Written.{ListsSoFar}
use Rattle.qm_script.specs.Under.{tree_of}
use Rattle.qm_weight.specs.Best.{best}
use Rattle.qm_script.proofs.BestListings.{best-there, found-listed}
use Rattle.qm_script.proofs.best.write_best.Goals as goal

pub list_found-requires-clause-there : goal.list_found-requires-clause-there
list_found-requires-clause-there c =
    let readers = c.args.searcher.now.segments in
    let tree = tree_of (scoring_by c.args.weights.now c.args.searcher.now) (query_of c.args.query.now) in
    let firsts = c.as_slice.ensures.value ∙ c.in_ok-firsts.ensures.numbers ∙ ap (λ rs. firsts_from 0 (segments_of rs)) c.segment_readers.ensures.segments in
    let found = c.as_slice-2.ensures.value ∙ c.in_ok-found.ensures.best.are
    ∙ ap (λ k. map score_first (best k (alive_matches_from 0 tree readers))) c.with_limit-best.ensures in
    subst (λ fs. All (λ f. f.1.segment_ord < length c.as_slice.result.now) fs) (sym found)
    (subst (λ ns. All (λ f. f.1.segment_ord < length ns) (map score_first (best c.args.count (alive_matches_from 0 tree readers)))) (sym firsts)
    (best-there tree c.args.count readers))

pub returns-clause-listed : goal.returns-clause-listed
returns-clause-listed c =
    let readers = c.args.searcher.now.segments in
    let tree = tree_of (scoring_by c.args.weights.now c.args.searcher.now) (query_of c.args.query.now) in
    let firsts = c.as_slice.ensures.value ∙ c.in_ok-firsts.ensures.numbers ∙ ap (λ rs. firsts_from 0 (segments_of rs)) c.segment_readers.ensures.segments in
    let found = c.as_slice-2.ensures.value ∙ c.in_ok-found.ensures.best.are
    ∙ ap (λ k. map score_first (best k (alive_matches_from 0 tree readers))) c.with_limit-best.ensures in
    let listed : map (found_item c.as_slice.result.now) c.as_slice-2.result.now ≡ best_listed c.args.count tree (segments_of readers) =
    ap (λ ns. map (found_item ns) c.as_slice-2.result.now) firsts ∙ ap (map (found_item (firsts_from 0 (segments_of readers)))) found
    ∙ found-listed tree c.args.count readers in
    let written = c.list_found.ensures [] c.new-listing.ensures in
    c.finish.ensures.listed _ (subst (λ l. ListsSoFar l c.list_found.new.listing) listed written)
