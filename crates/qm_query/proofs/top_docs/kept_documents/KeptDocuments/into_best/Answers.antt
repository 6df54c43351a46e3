-- The heap is sorted from the best to the worst.
use Rattle.std.proofs.Common.{◌≡◌, ap, map, sym, ◌∙◌}
use Rattle.std.proofs.lemmas.List.{take_all}
use Rattle.std.specs.BinaryHeap.{heap_items}
use Rattle.qm_query.specs.KeptDocument.{answer_of, ranked, worst_last, worst_last-total}
use Rattle.qm_query.proofs.KeptOrder.{worst_last-same}
use Rattle.qm_query.proofs.RankingFacts.{ranking-permutation, ranking-sorted}
use Rattle.qm_query.proofs.top_docs.kept_documents.KeptDocuments.into_best.Goals as goal

pub returns-clause-best : goal.returns-clause-best
returns-clause-best c =
    let items = heap_items c.args.self.documents in
    let sorted = c.into_sorted_vec-sorted.result.items in
    let same : ranked items ≡ sorted =
    ranking-permutation worst_last worst_last-total worst_last-same items sorted c.into_sorted_vec-sorted.ensures.permutation
    ∙ ranking-sorted worst_last worst_last-total worst_last-same sorted (c.into_sorted_vec-sorted.ensures.sorted c.args.self.ordered) in
    c.loop-document.invariant ∙ ap (map answer_of)
    (take_all c.loop-document.document-index c.deref-document-items.result.now c.loop-document-test.false ∙ c.deref-document-items.ensures.value ∙ sym same)
