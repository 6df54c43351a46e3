use Rattle.qm_docset.proofs.TinySetLemmas.{tiny_has-insert}
use Rattle.qm_docset.proofs.tiny_set.TinySet.insert.Goals as goal

pub returns : goal.returns
returns c = tiny_has-insert c.args.self c.args.el c.requires
