use Rattle.qm_docset.specs.BitSet.{set_has, set_members_from}
use Rattle.qm_docset.proofs.bitset.BitSet.len.Goals as goal

pub returns : goal.returns
unfolding set_has set_members_from
returns c = c.args.self.now.counted
