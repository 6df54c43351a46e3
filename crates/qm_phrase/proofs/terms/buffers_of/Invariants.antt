use Rattle.std.proofs.Common.{map, take, vec_capacity}
use Rattle.qm_docset.specs.Lists.{bounds}
use Rattle.qm_phrase.specs.Terms.{AreRoomy}
use Rattle.qm_phrase.proofs.terms.buffers_of.Given as goal

abbrev pub invariant-loop-member : goal.invariant-loop-member
invariant-loop-member g l = AreRoomy (take l.member-index (bounds g.P.DocSet l.members)) (map vec_capacity l.buffers.items)
