use Rattle.std.proofs.Common.{arith, eq-eqb, eqb-true}
use Rattle.qm_docset.proofs.TinySetLemmas.{tiny_members-empty, bits-empty}
use Rattle.qm_docset.proofs.tiny_set.TinySet.is_empty.Goals as goal

pub returns : goal.returns
returns c = (
  λ zero. tiny_members-empty c.args.self (eqb-true c.args.self.bits 0 zero),
  λ none. eq-eqb c.args.self.bits 0 (bits-empty c.args.self (omega arith) none),
)
