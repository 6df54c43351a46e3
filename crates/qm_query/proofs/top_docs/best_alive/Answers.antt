-- Of the segments so far and of one more the best documents are kept.
use Rattle.std.proofs.Common.{◌≡◌, ◌+◌, ◌<◌, ◌++◌, [], ◌∷◌, length, take, get_or, ap, arith, rules, subst, sym, ◌∙◌}
use Rattle.std.proofs.lemmas.List.{length-take-le, take_all, take_more}
use Rattle.std.proofs.lemmas.List.Sums.{sum_by_push}
use Rattle.std.specs.Prelude.{IsTrue}
use Rattle.qm_postings.specs.Reading.{Reader}
use Rattle.qm_weight.specs.Tree.{is_scoring, matching}
use Rattle.qm_weight.specs.Weights.{tree_of}
use Rattle.qm_query.specs.KeptDocuments.{AreBest}
use Rattle.qm_query.specs.TopDocs.{AreByAddress, alive_matches, alive_matches_from, matching_in}
use Rattle.qm_query.specs.TopDocsOrder.{AreByAddress-from, alive_matches_from-push}
use Rattle.qm_query.proofs.TopDocsSteps.{AreBestOf-kept, AreKeptToo-collected, IsScoredIn-kept, kept-scored, scored-matching}
use Rattle.qm_query.proofs.top_docs.best_alive.Goals as goal

pub overflow_add-scored : goal.overflow_add-scored
overflow_add-scored c =
    omega (
      arith,
      c.loop-reader.invariant.fits,
      c.loop-reader.invariant.number,
      c.loop-reader.auto.segment_ord-fits,
      c.in_ok-scored.ensures.few,
    )

pub loop-reader-preserved : goal.loop-reader-preserved
loop-reader-preserved c =
    let tree = tree_of c.args.weight.now in
    let segments = c.args.searcher.now.segments in
    let i = c.loop-reader.reader-index in
    let ord = c.loop-reader.segment_ord in
    let reader = c.reader-item.result in
    let inside : i < length segments = search rules in
    let here : get_or segments i reader ≡ reader = search rules in
    let before = alive_matches_from 0 tree (take i segments) in
    let number : 0 + length (take i segments) ≡ ord =
    omega (arith, length-take-le i segments (omega (arith, inside)), c.loop-reader.invariant.number) in
    let pushed : take (i + 1) segments ≡ take i segments ++ reader ∷ [] =
    take_more segments i reader inside ∙ ap (λ r. take i segments ++ r ∷ []) here in
    let more : alive_matches_from 0 tree (take (i + 1) segments) ≡ before ++ alive_matches ord tree reader.segment =
    ap (alive_matches_from 0 tree) pushed
    ∙ alive_matches_from-push 0 tree (take i segments) reader ∙ ap (λ n. before ++ alive_matches n tree reader.segment) number in
    let matches : matching_in tree (take (i + 1) segments) ≡ matching_in tree (take i segments) + length (matching tree reader.segment) =
    ap (matching_in tree) pushed ∙ sum_by_push (λ (r : Reader). length (matching tree r.segment)) (take i segments) reader in
    let made = c.in_ok-scored.ensures.kept in
    let old = c.loop-reader.kept in
    let new = c.collect_segment.new.kept in
    let scored = c.in_ok-scored.field-0 in
    let kept = AreKeptToo-collected ord tree reader.segment old new scored made in
    record {
      limit = kept.limit ∙ c.loop-reader.invariant.limit;
      number = omega (arith, c.loop-reader.invariant.number);
      best = λ on.
          subst (AreBest new) (sym more)
          (kept.best on before (subst AreByAddress more (AreByAddress-from 0 tree (take (i + 1) segments))) (c.loop-reader.invariant.best on));
      fits = omega (arith, c.loop-reader.invariant.fits, c.in_ok-scored.ensures.few);
      fewer = λ fine.
          let more-kept = kept-scored ord tree reader.segment old new scored made fine in
          omega (arith, more-kept.1, c.loop-reader.invariant.fewer more-kept.0);
      matched = omega (arith, c.loop-reader.invariant.matched, matches, scored-matching ord tree reader.segment old new scored made);
    }

pub returns-clause-best : goal.returns-clause-best
returns-clause-best c =
    let tree = tree_of c.args.weight.now in
    let segments = c.args.searcher.now.segments in
    let all : take c.loop-reader.reader-index segments ≡ segments = take_all c.loop-reader.reader-index segments (search rules) in
    let best : IsTrue (is_scoring tree) → AreBest c.loop-reader.kept (alive_matches_from 0 tree segments) =
    λ on. subst (λ l. AreBest c.loop-reader.kept (alive_matches_from 0 tree l)) all (c.loop-reader.invariant.best on) in
    AreBestOf-kept (λ v. v.items) c.loop-reader.kept c.args.limit tree segments c.loop-reader.invariant.limit
    best c.in_ok-documents.documents c.in_ok-documents.ensures.best c.in_ok-documents.ensures.complete

pub returns-clause-scored : goal.returns-clause-scored
returns-clause-scored c =
    let tree = tree_of c.args.weight.now in
    let segments = c.args.searcher.now.segments in
    let all : take c.loop-reader.reader-index segments ≡ segments = take_all c.loop-reader.reader-index segments (search rules) in
    IsScoredIn-kept (λ v. v.items) c.loop-reader.kept tree segments c.loop-reader.scored c.loop-reader.invariant.fewer
    (omega (arith, c.loop-reader.invariant.matched, ap (matching_in tree) all)) c.in_ok-documents.documents c.in_ok-documents.ensures.best
    c.in_ok-documents.ensures.complete
