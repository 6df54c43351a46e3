use Rattle.std.proofs.Common.{◌≡◌, map, take, None}
use Rattle.qm_script.specs.Text.{numbered}
use Rattle.qm_script.specs.Written.{ListsMore}
use Rattle.qm_script.proofs.listing.Listing.add_documents.Given as goal

abbrev pub invariant-loop-document : goal.invariant-loop-document
invariant-loop-document l = record {
  first : l.self.first ≡ l.fn.self.first;
  listed : ListsMore (numbered l.fn.self.first (map (λ d. (d, None)) (take l.document-index l.documents))) l.fn.self l.self;
}
