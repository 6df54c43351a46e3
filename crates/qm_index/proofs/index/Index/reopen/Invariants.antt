use Rattle.std.proofs.Common.{◌≡◌, drop, take}
use Rattle.qm_index.specs.OpenDocuments.{undeleted}
use Rattle.qm_index.proofs.index.Index.reopen.Given as goal

abbrev pub invariant-loop-document : goal.invariant-loop-document
invariant-loop-document l =
    l.builder ≡ undeleted l.self.searcher.schema l.self.block_len (take l.document-index (drop l.self.built l.self.documents.items))
