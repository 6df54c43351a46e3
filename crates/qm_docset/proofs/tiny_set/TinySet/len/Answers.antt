use Rattle.std.proofs.Common.{arith}
use Rattle.qm_docset.proofs.TinySetLemmas.{length-tiny_members}
use Rattle.qm_docset.proofs.tiny_set.TinySet.len.Goals as goal

pub returns : goal.returns
returns c = length-tiny_members c.args.self (omega arith)
