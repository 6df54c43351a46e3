use Rattle.qm_docset.proofs.TinySetLemmas.{tiny_has-zero}
use Rattle.qm_docset.proofs.tiny_set.TinySet.empty.Goals as goal

pub returns : goal.returns
returns c = tiny_has-zero
