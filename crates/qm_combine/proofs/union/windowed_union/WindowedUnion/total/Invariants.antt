use Rattle.std.proofs.Common.{◌≡◌, ◌+◌, length}
use Rattle.qm_combine.specs.United.{HasSameMembers, shown_list}
use Rattle.qm_combine.proofs.union.windowed_union.WindowedUnion.total.Given as goal

abbrev pub invariant-loop-self : goal.invariant-loop-self
invariant-loop-self g l = record {
  counted : l.count + length (shown_list g.C.ScoreCombiner.combined g.C.ScoreCombiner.value (g.Self.WindowedUnion.shown l.self)) ≡ length
      (shown_list g.C.ScoreCombiner.combined g.C.ScoreCombiner.value (g.Self.WindowedUnion.shown l.fn.self));
  members : HasSameMembers (g.Self.WindowedUnion.shown l.fn.self) (g.Self.WindowedUnion.shown l.self);
  standing : g.Self.WindowedUnion.standing l.self;
}

abbrev pub decreases-loop-self : goal.decreases-loop-self
decreases-loop-self g l = length (shown_list g.C.ScoreCombiner.combined g.C.ScoreCombiner.value (g.Self.WindowedUnion.shown l.self))
