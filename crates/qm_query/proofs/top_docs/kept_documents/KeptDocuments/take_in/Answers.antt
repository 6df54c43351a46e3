-- Where there is room the document joins those that are kept.
use Rattle.std.proofs.Common.{◌<◌, length, rules}
use Rattle.std.specs.BinaryHeap.{heap_items}
use Rattle.qm_query.specs.KeptDocument.{worst_last, worst_last-total}
use Rattle.qm_query.proofs.KeptOrder.{worst_last-same}
use Rattle.qm_query.proofs.RankingFacts.{ranking-room}
use Rattle.qm_query.proofs.top_docs.kept_documents.KeptDocuments.take_in.Goals as goal

pub returns-in_ok-push-clause-best : goal.returns-in_ok-push-clause-best
returns-in_ok-push-clause-best c =
    let items = heap_items c.args.self.now.documents in
    let room : length items < c.args.self.now.limit = search rules in
    ranking-room worst_last worst_last-total worst_last-same c.args.self.now.limit c.args.document items _ room c.in_ok-push.ensures.permutation
