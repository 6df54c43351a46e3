use Rattle.std.proofs.Common.{◌≡◌, ◌*◌, length}
use Rattle.qm_docset.specs.BitSet.{set_has}
use Rattle.qm_docset.specs.Members.{members_between}
use Rattle.qm_docset.proofs.bitset_docset.BitSetDocSetDocSet.count_including_deleted.Given as goal

abbrev pub invariant-loop-bucket : goal.invariant-loop-bucket
invariant-loop-bucket l = l.count ≡ length (members_between (set_has l.self.docs) l.self.doc (64 * l.bucket))
