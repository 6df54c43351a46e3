use Rattle.std.proofs.Common.{arith}
use Rattle.qm_docset.specs.BitSet.{set_has, set_max_value, set_members_from}
use Rattle.qm_docset.proofs.MembersLemmas.{length-members_between}
use Rattle.qm_docset.proofs.bitset_docset.BitSetDocSetDocSet.cost.Goals as goal

pub overflow_add-result : goal.overflow_add-result
unfolding set_members_from
overflow_add-result c =
    let docs = c.args.self.now.docs in
    omega (arith, c.requires.documents, c.len.ensures, length-members_between (set_has docs) 0 (set_max_value docs))
