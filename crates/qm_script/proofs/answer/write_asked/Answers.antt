-- What serves the query has what the script's own segments have, whatever is asked of it.
use Rattle.std.proofs.Common.{◌≡◌, ◌≤◌, ◌*◌, ◌+◌, ◌∙◌, OnOk, ap, arith, length, of_z, refl, rules, string_bytes, subst, sym, to_z, w64}
use Rattle.std.specs.Fmt.{decimal}
use mir.ValLaws.{to_z-of_z}
use Rattle.std.proofs.lemmas.Grind.{common_steps}
use Rattle.qm_docset.specs.declared.numbers.TheConstants.{TERMINATED}
use Rattle.qm_index.specs.Indexed.{all_segments}
use Rattle.qm_index.specs.Parts.{segments_of}
use Rattle.qm_query.specs.Query.{query_of as built_query}
use Rattle.qm_query.specs.Searches.{scoring_by, without_scores}
use Rattle.qm_script.specs.Answers.{WritesAsked, best_text, pruned_text}
use Rattle.qm_script.specs.Found.{found_above_in_parts, found_alive, found_best}
use Rattle.qm_script.specs.Parts.{document_count}
use Rattle.qm_script.specs.ProgramNumbers.{most_segments}
use Rattle.qm_script.specs.ScriptSegments.{script}
use Rattle.qm_script.specs.State.{state}
use Rattle.qm_script.specs.Text.{IsListing, listing_text}
use Rattle.qm_script.proofs.AskedFields.{best-refusal, score-refusal}
use Rattle.qm_script.proofs.Answering.{above-same, behind_nothing, best-same, counted-same, ended-served, listing-written, matches-written, refused-as}
use Rattle.qm_script.proofs.answer.write_asked.Goals as goal

pub write_matches-requires-clause-few : goal.write_matches-requires-clause-few
write_matches-requires-clause-few c = subst (λ rs. document_count (segments_of rs) ≤ most_segments * TERMINATED)
    (sym c.segment_readers-segments.ensures.segments) (c.searched-searched.ensures.few c.requires.served.spelled c.requires.served.served)

pub write_matches-requires-in-Scores-clause-few : goal.write_matches-requires-in-Scores-clause-few
write_matches-requires-in-Scores-clause-few c = subst (λ rs. document_count (segments_of rs) ≤ most_segments * TERMINATED)
    (sym c.segment_readers-segments.ensures.segments) (c.searched-searched.ensures.few c.requires.served.spelled c.requires.served.served)

pub write_pruned-requires-clause-few : goal.write_pruned-requires-clause-few
write_pruned-requires-clause-few c = subst (λ rs. document_count (segments_of rs) ≤ most_segments * TERMINATED)
    (sym c.segment_readers-segments.ensures.segments) (c.searched-searched.ensures.few c.requires.served.spelled c.requires.served.served)

pub write_pruned-requires-clause-some : goal.write_pruned-requires-clause-some
write_pruned-requires-clause-some c =
    let s = script c.args.corpus.now in
    let q = c.requires.served.spelled in
    let readers = c.searched-searched.result.now.segments in
    let serve = c.searched-searched.ensures.serve q c.requires.served.served in
    let ended : length (all_segments s) ≡ c.ended-ended.result + 1 = c.ended-ended.ensures in
    omega (arith, ended-served q s readers serve c.ended-ended.result ended, ap length c.segment_readers-segments.ensures.segments)

pub write_best-requires-clause-few : goal.write_best-requires-clause-few
write_best-requires-clause-few c = c.searched-searched.ensures.few c.requires.served.spelled c.requires.served.served

pub returns-in-Documents : goal.returns-in-Documents
returns-in-Documents c =
    let corpus = c.args.corpus.now in
    let s = script corpus in
    let q = c.requires.served.spelled in
    let built = c.requires.served.is_built in
    let query = built_query c.args.query.now in
    let readers = c.searched-searched.result.now.segments in
    let serve = c.searched-searched.ensures.serve q c.requires.served.served in
    let enable = c.disabled_from_searcher-enable.result in
    let fields = c.disabled_from_searcher-enable.ensures.schema ∙ c.searcher-searcher.ensures.fields in
    let result = c.write_matches.result in
    let text = string_bytes c.write_matches.new.text in
    subst (λ a. WritesAsked a query (state corpus) result text) (sym c.in-Documents.is) (record {
      enable = enable;
      under = record { fields = fields; scores = c.disabled_from_searcher-enable.ensures.provider };
      written = matches-written enable s q query readers built c.segment_readers-segments.result.now text result serve
          c.segment_readers-segments.ensures.segments c.write_matches.ensures.listed;
      within = c.write_matches.ensures.within;
      refused = refused-as result (score-refusal enable q query (fields ∙ corpus.fields) built) c.write_matches.ensures.refused;
    })

pub returns-in-Scores : goal.returns-in-Scores
returns-in-Scores c =
    let corpus = c.args.corpus.now in
    let s = script corpus in
    let q = c.requires.served.spelled in
    let built = c.requires.served.is_built in
    let query = built_query c.args.query.now in
    let readers = c.searched-searched.result.now.segments in
    let serve = c.searched-searched.ensures.serve q c.requires.served.served in
    let enable = c.enabled_from_searcher-enable.result in
    let fields = c.enabled_from_searcher-enable.ensures.schema ∙ c.searcher-searcher.ensures.fields in
    let result = c.write_matches-in-Scores.result in
    let text = string_bytes c.write_matches-in-Scores.new.text in
    subst (λ a. WritesAsked a query (state corpus) result text) (sym c.in-Scores.is) (record {
      enable = enable;
      under = (
        c.searcher-searcher.result.now,
        record { fields = fields; scores = c.enabled_from_searcher-enable.ensures.provider; weights = c.searcher-searcher.ensures.weights },
      );
      written = matches-written enable s q query readers built c.segment_readers-segments.result.now text result serve
          c.segment_readers-segments.ensures.segments c.write_matches-in-Scores.ensures.listed;
      within = c.write_matches-in-Scores.ensures.within;
      refused = refused-as result (score-refusal enable q query (fields ∙ corpus.fields) built) c.write_matches-in-Scores.ensures.refused;
    })

pub returns-in-Count : goal.returns-in-Count
returns-in-Count c =
    let corpus = c.args.corpus.now in
    let s = script corpus in
    let q = c.requires.served.spelled in
    let built = c.requires.served.is_built in
    let query = built_query c.args.query.now in
    let searcher = c.searched-searched.result.now in
    let readers = searcher.segments in
    let serve = c.searched-searched.ensures.serve q c.requires.served.served in
    let enable = without_scores searcher in
    let fields = c.searched-searched.ensures.fields q c.requires.served.served in
    let result = c.write_count.result in
    let text = string_bytes c.write_count.new.text in
    let digits = behind_nothing (string_bytes c.args.text.now) (decimal (found_alive enable query (segments_of readers))) c.requires.empty
    ∙ ap decimal (counted-same enable s q query readers built serve) in
    subst (λ a. WritesAsked a query (state corpus) result text) (sym c.in-Count.is) (record {
      enable = enable;
      under = record { fields = fields; scores = refl };
      written = subst (λ t. OnOk result (text ≡ t)) digits c.write_count.ensures.count;
      within = c.write_count.ensures.within;
      refused = refused-as result (score-refusal enable q query (fields ∙ corpus.fields) built) c.write_count.ensures.refused;
    })

pub returns-in-Above : goal.returns-in-Above
returns-in-Above c =
    let corpus = c.args.corpus.now in
    let s = script corpus in
    let q = c.requires.served.spelled in
    let built = c.requires.served.is_built in
    let query = built_query c.args.query.now in
    let threshold = c.in-Above.threshold in
    let readers = c.searched-searched.result.now.segments in
    let slice = c.segment_readers-segments.result.now in
    let serve = c.searched-searched.ensures.serve q c.requires.served.served in
    let enable = c.enabled_from_searcher-enable-in-Above.result in
    let fields = c.enabled_from_searcher-enable-in-Above.ensures.schema ∙ c.searcher-searcher.ensures.fields in
    let n = c.ended-ended.result in
    let ended : length (all_segments s) ≡ n + 1 = c.ended-ended.ensures in
    let result = c.write_pruned.result in
    let text = string_bytes c.write_pruned.new.text in
    let same : to_z w64 (of_z w64 threshold) ≡ threshold = first_of (search rules, search (rules, to_z-of_z w64), grind (arith, common_steps)) in
    let listed = subst (λ t. OnOk result (IsListing (found_above_in_parts t enable query n (segments_of slice)) text)) same c.write_pruned.ensures.listed in
    subst (λ a. WritesAsked a query (state corpus) result text) (sym c.in-Above.is) (record {
      enable = enable;
      under = (
        c.searcher-searcher.result.now,
        record { fields = fields; scores = c.enabled_from_searcher-enable-in-Above.ensures.provider; weights = c.searcher-searcher.ensures.weights },
      );
      written = listing-written (found_above_in_parts threshold enable query n (segments_of slice)) text (pruned_text threshold enable s query) result
          (ap (λ rs. listing_text (found_above_in_parts threshold enable query n (segments_of rs))) c.segment_readers-segments.ensures.segments
          ∙ ap listing_text (above-same enable s q query readers built threshold n ended serve)) listed;
      within = c.write_pruned.ensures.within;
      refused = refused-as result (score-refusal enable q query (fields ∙ corpus.fields) built) c.write_pruned.ensures.refused;
    })

pub returns-in-Best : goal.returns-in-Best
returns-in-Best c =
    let corpus = c.args.corpus.now in
    let s = script corpus in
    let q = c.requires.served.spelled in
    let built = c.requires.served.is_built in
    let query = built_query c.args.query.now in
    let count = c.in-Best.count in
    let searched = c.searched-searched.result.now in
    let readers = searched.segments in
    let serve = c.searched-searched.ensures.serve q c.requires.served.served in
    let enable = scoring_by c.searcher-searcher.result.now searched in
    let fields = c.searched-searched.ensures.fields q c.requires.served.served in
    let result = c.write_best.result in
    let text = string_bytes c.write_best.new.text in
    subst (λ a. WritesAsked a query (state corpus) result text) (sym c.in-Best.is) (record {
      enable = enable;
      under = (c.searcher-searcher.result.now, record { fields = fields; scores = refl; weights = c.searcher-searcher.ensures.weights });
      written = listing-written (found_best count enable query (segments_of readers)) text (best_text count enable s query) result
          (ap listing_text (best-same enable s q query readers built count serve)) c.write_best.ensures.listed;
      within = c.write_best.ensures.within;
      refused = refused-as result (best-refusal enable q query (fields ∙ corpus.fields) built count) c.write_best.ensures.refused;
    })
