use Rattle.qm_docset.proofs.TinySetLemmas.{tiny_has-intersect}
use Rattle.qm_docset.proofs.tiny_set.TinySet.intersect.Goals as goal

pub returns : goal.returns
returns c = tiny_has-intersect c.args.self c.args.other
