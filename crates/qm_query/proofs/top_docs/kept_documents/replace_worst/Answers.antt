-- The document takes the place of the worst, or is worse than all.
use Rattle.std.proofs.Common.{◌≡◌, true, false, length, rules}
use Rattle.std.proofs.lemmas.List.Elements.{All-from_recursion}
use Rattle.std.proofs.lemmas.List.Sorted.{IsPermutation-trans}
use Rattle.std.specs.BinaryHeap.{heap_items, heap_len}
use Rattle.std.specs.Ordering.{is_lt}
use Rattle.qm_query.specs.KeptDocument.{worst_last, worst_last-total}
use Rattle.qm_query.proofs.KeptOrder.{worst_last-same}
use Rattle.qm_query.proofs.RankingFacts.{ranking-full, ranking-replaced}
use Rattle.qm_query.proofs.top_docs.kept_documents.replace_worst.Goals as goal

pub returns-then-lt-clause-best : goal.returns-then-lt-clause-best
returns-then-lt-clause-best c =
    let items = heap_items c.args.documents.now in
    let worst = c.in-Some.worst.top in
    let full : heap_len c.args.documents.now ≡ length items = search rules in
    let less : is_lt (worst_last c.args.document worst) ≡ true = search rules in
    let top = All-from_recursion (λ y. is_lt (worst_last worst y) ≡ false) items (c.in-Some.ensures.greatest c.requires.heap) in
    let best = ranking-replaced worst_last worst_last-total worst_last-same (heap_len c.args.documents.now) c.args.document
    worst items _ _ full c.in-Some.ensures.permutation (c.drop-worst.ensures.permutation (search rules)) top less in
    search rules

pub returns-in-Some-clause-best : goal.returns-in-Some-clause-best
returns-in-Some-clause-best c =
    let items = heap_items c.args.documents.now in
    let worst = c.in-Some.worst.top in
    let full : heap_len c.args.documents.now ≡ length items = search rules in
    let no_less : is_lt (worst_last c.args.document worst) ≡ false = search rules in
    let top = All-from_recursion (λ y. is_lt (worst_last worst y) ≡ false) items (c.in-Some.ensures.greatest c.requires.heap) in
    let moved = IsPermutation-trans items _ _ c.in-Some.ensures.permutation (c.drop-worst-in-Some.ensures.permutation (search rules)) in
    let best = ranking-full worst_last worst_last-total worst_last-same (heap_len c.args.documents.now) c.args.document worst items _ full moved top no_less in
    search rules
