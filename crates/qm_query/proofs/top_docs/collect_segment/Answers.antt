-- The run of the callback is one of what it does to the documents that are kept, from their threshold on.
use Rattle.std.proofs.Common.{◌≡◌, arith, refl, rules, subst, sym, w64, ◌∙◌}
use Rattle.std.proofs.lemmas.Int.{to_z-of_z}
use Rattle.std.specs.BinaryHeap.{heap_items}
use Rattle.qm_term.specs.Runs.{InRange}
use Rattle.qm_term.specs.RunsFacts.{MayPrune-always}
use Rattle.qm_weight.specs.TreeFacts.{length-matching}
use Rattle.qm_weight.specs.Weights.{tree_of}
use Rattle.qm_query.specs.KeptDocument.{IsThreshold}
use Rattle.qm_query.specs.KeptDocuments.{CollectsAll, CollectsAt}
use Rattle.qm_query.proofs.TopDocsSteps.{Plain-shown, ticks-matching}
use Rattle.qm_query.proofs.top_docs.collect_segment.Goals as goal

pub for_each_pruning_counted-requires : goal.for_each_pruning_counted-requires
for_each_pruning_counted-requires c = record { allowed = λ es is. search (rules, MayPrune-always) }

pub overflow_cast-result : goal.overflow_cast-result
overflow_cast-result c =
    let tree = tree_of c.args.weight.now in
    let segment = c.args.reader.now.segment in
    let scored = ticks-matching _ tree segment _ _ _ c.in_ok-count.count c.in_ok-count.ensures.calls in
    omega (arith, scored, length-matching tree segment, c.max_doc-documents.ensures.number, c.max_doc-documents.ensures.room)

pub returns-clause-few : goal.returns-clause-few
returns-clause-few c =
    let tree = tree_of c.args.weight.now in
    let segment = c.args.reader.now.segment in
    let scored = ticks-matching _ tree segment _ _ _ c.in_ok-count.count c.in_ok-count.ensures.calls in
    omega (arith, scored, length-matching tree segment, c.max_doc-documents.ensures.number, c.max_doc-documents.ensures.room)

pub returns-clause-kept : goal.returns-clause-kept
returns-clause-kept c =
    let made = c.in_ok-count.ensures.calls in
    let ord = c.args.segment_ord in
    let segment = c.args.reader.now.segment in
    let tree = tree_of c.args.weight.now in
    let old = c.args.kept.now in
    let callback = c.for_each_pruning_counted.new.callback in
    let threshold = to_z-of_z w64 c.threshold-threshold.result (record { sfits = c.threshold-threshold.type_inv }) in
    let shown = Plain-shown _ (InRange (CollectsAt ord segment)) (λ f. f.0.now)
    (λ first f. (f.0.ghost_name ≡ first.0.ghost_name) × (f.1 ≡ first.1) × (f.2 ≡ first.2)) _ made.run.last _ _ made.entries made.run.thresholds made.run.calls
    (λ f h d s after now call.
    let at : CollectsAt f.2.now f.1.now.segment f.0.now d s after h.0.now = search rules in
    let name : h.0.ghost_name ≡ f.0.ghost_name = search rules in
    let reader : h.1 ≡ f.1 = search rules in
    let number : h.2 ≡ f.2 = search rules in (
      (name ∙ now.0, reader ∙ now.1, number ∙ now.2),
      (
        call.0,
        subst (λ r. CollectsAt ord r.now.segment f.0.now d s after h.0.now) now.1
            (subst (λ n. CollectsAt n.now f.1.now.segment f.0.now d s after h.0.now) now.2 at),
      ),
    ))
    (refl, refl, refl) in
    let name = shown.0.0 in
    let kept : CollectsAll ord tree segment old c.in_ok-count.count.ticks callback.0.now = record {
      threshold = _;
      is_kept = subst (IsThreshold old.limit (heap_items old.documents)) (sym threshold) c.threshold-threshold.ensures;
      count = c.in_ok-count.count;
      run = record {
        entries = made.entries;
        listed = made.listed;
        run = record {
          thresholds = made.run.thresholds;
          last = made.run.last;
          calls = shown.1;
          at_least = made.run.at_least;
          at_most = made.run.at_most;
          turns = made.run.turns;
        };
      };
      counted = refl;
    } in
    search rules
