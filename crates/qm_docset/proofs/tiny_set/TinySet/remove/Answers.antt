use Rattle.qm_docset.proofs.TinySetLemmas.{tiny_has-remove}
use Rattle.qm_docset.proofs.tiny_set.TinySet.remove.Goals as goal

pub returns : goal.returns
returns c = tiny_has-remove c.args.self c.args.el c.requires
