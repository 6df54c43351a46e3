use Rattle.qm_docset.proofs.TinySetLemmas.{tiny_has-range}
use Rattle.qm_docset.proofs.tiny_set.TinySet.range_greater_or_equal.Goals as goal

pub returns : goal.returns
returns c = tiny_has-range c.args.from
