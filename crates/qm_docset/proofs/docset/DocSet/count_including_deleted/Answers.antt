-- There are fewer than 2^31 documents.
use Rattle.std.proofs.Common.{arith}
use Rattle.qm_docset.specs.EntryFacts.{length-entries}
use Rattle.qm_docset.proofs.docset.DocSet.count_including_deleted.Goals as goal

pub overflow_add-count : goal.overflow_add-count
overflow_add-count g c =
    let most = length-entries 0 _ _ (omega arith) (g.met.Self.DocSet.ascending c.args.self.now c.requires.valid) in
    omega arith
