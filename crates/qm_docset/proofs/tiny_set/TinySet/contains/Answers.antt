use Rattle.qm_docset.proofs.TinySetLemmas.{tiny_has-shift}
use Rattle.qm_docset.proofs.tiny_set.TinySet.contains.Goals as goal

pub returns : goal.returns
returns c = tiny_has-shift c.args.self c.args.el c.requires
