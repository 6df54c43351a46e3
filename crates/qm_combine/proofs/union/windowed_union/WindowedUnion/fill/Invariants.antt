use Rattle.std.proofs.Common.{◌≡◌, ◌-◌, ◌≤◌, drop, length, take}
use Rattle.qm_docset.specs.Entry.{documents}
use Rattle.qm_combine.specs.United.{HasSameMembers, shown_list}
use Rattle.qm_combine.proofs.union.windowed_union.WindowedUnion.fill.Given as goal

abbrev pub invariant-loop-taken : goal.invariant-loop-taken
invariant-loop-taken g l = record {
  long : length l.buffer ≡ 64;
  room : l.taken ≤ 64;
  within : l.taken ≤ length (shown_list g.C.ScoreCombiner.combined g.C.ScoreCombiner.value (g.Self.WindowedUnion.shown l.fn.self));
  filled : take l.taken l.buffer ≡ documents
      (take l.taken (shown_list g.C.ScoreCombiner.combined g.C.ScoreCombiner.value (g.Self.WindowedUnion.shown l.fn.self)));
  left : shown_list g.C.ScoreCombiner.combined g.C.ScoreCombiner.value (g.Self.WindowedUnion.shown l.self) ≡ drop l.taken
      (shown_list g.C.ScoreCombiner.combined g.C.ScoreCombiner.value (g.Self.WindowedUnion.shown l.fn.self));
  members : HasSameMembers (g.Self.WindowedUnion.shown l.fn.self) (g.Self.WindowedUnion.shown l.self);
  standing : g.Self.WindowedUnion.standing l.self;
}

abbrev pub decreases-loop-taken : goal.decreases-loop-taken
decreases-loop-taken g l = 64 - l.taken
