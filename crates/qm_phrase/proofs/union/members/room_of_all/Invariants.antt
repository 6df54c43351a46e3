use Rattle.std.proofs.Common.{◌≡◌, take}
use Rattle.qm_docset.specs.Lists.{bounds}
use Rattle.qm_phrase.specs.PostingUnions.{united_room}
use Rattle.qm_phrase.proofs.union.members.room_of_all.Given as goal

abbrev pub invariant-loop-member : goal.invariant-loop-member
invariant-loop-member g l = l.room ≡ united_room (take l.member-index (bounds g.P.DocSet l.members))
