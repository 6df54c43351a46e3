use Rattle.std.proofs.Common.{◌≡◌, take}
use Rattle.qm_scorer.specs.LeastDocs.{least_of}
use Rattle.qm_scorer.proofs.least_docs.least_doc.Given as goal

abbrev pub invariant-loop-i : goal.invariant-loop-i
invariant-loop-i l = l.least ≡ least_of (take l.i l.docs)
