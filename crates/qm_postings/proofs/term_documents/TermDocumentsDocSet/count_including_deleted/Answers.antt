use Rattle.std.proofs.Common.{arith}
use Rattle.qm_docset.proofs.PlacesLeft.{few}
use Rattle.qm_postings.proofs.term_documents.TermDocumentsDocSet.count_including_deleted.Goals as goal

pub overflow_cast-count : goal.overflow_cast-count
overflow_cast-count c = let most = few c.args.self.now.cursor c.args.self.now.documents.now c.requires.documents in omega arith
