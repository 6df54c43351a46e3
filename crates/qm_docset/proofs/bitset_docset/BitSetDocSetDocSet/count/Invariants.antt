use Rattle.std.proofs.Common.{◌≡◌, ◌*◌, length}
use Rattle.qm_docset.specs.AliveBitSet.{alive_docs}
use Rattle.qm_docset.specs.Members.{members_between}
use Rattle.qm_docset.proofs.CountMembers.{both_have}
use Rattle.qm_docset.proofs.bitset_docset.BitSetDocSetDocSet.count.Given as goal

abbrev pub invariant-loop-bucket : goal.invariant-loop-bucket
invariant-loop-bucket l =
    l.count ≡ length (members_between (both_have l.self.docs (alive_docs l.alive)) l.self.doc (64 * l.bucket))
