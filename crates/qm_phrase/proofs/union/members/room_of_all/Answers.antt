-- One more member is added.
use Rattle.std.proofs.Common.{arith}
use Rattle.qm_phrase.proofs.UnitedMembers.{room-more}
use Rattle.qm_phrase.proofs.union.members.room_of_all.Goals as goal

pub loop-member-preserved : goal.loop-member-preserved
loop-member-preserved g c =
    let more =
    room-more g.P.DocSet.entries g.P.DocSet.limits c.args.members.now c.loop-member.member-index c.member-item.result c.member-item.is (omega arith) in
    omega (arith, more, c.loop-member.invariant, c.max_term_freq.ensures, c.saturating_add-room.ensures)
