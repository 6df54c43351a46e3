use Rattle.std.proofs.Common.{◌≡◌, ◌+◌, length, map, drop}
use Rattle.qm_docset.specs.AliveBitSet.{alive_entries}
use Rattle.qm_docset.specs.Entry.{plain}
use Rattle.qm_docset.proofs.vec_docset.VecDocSetDocSet.count.Given as goal

abbrev pub invariant-loop-doc : goal.invariant-loop-doc
invariant-loop-doc l =
    l.count + length (alive_entries l.alive (map plain (drop l.doc-index l.doc-items))) ≡ length (alive_entries l.alive (map plain l.doc-items))
