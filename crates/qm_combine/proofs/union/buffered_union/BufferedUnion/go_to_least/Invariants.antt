use Rattle.std.proofs.Common.{◌≡◌, ◌-◌}
use Rattle.qm_docset.specs.Lists.{bounds}
use Rattle.qm_combine.specs.BufferedUnion.{IsPassed, union_left}
use Rattle.qm_combine.proofs.union.buffered_union.BufferedUnion.go_to_least.Given as goal

abbrev pub invariant-loop-self : goal.invariant-loop-self
invariant-loop-self g l = record {
  passed : IsPassed g.S.DocSet g.C.ScoreCombiner.cleared l.self.members.items l.self.window l.self.ahead l.self.top;
  left : union_left g.S.DocSet g.C.ScoreCombiner.combined g.C.ScoreCombiner.value g.L.LeastMembers.least l.self
      ≡ union_left g.S.DocSet g.C.ScoreCombiner.combined g.C.ScoreCombiner.value g.L.LeastMembers.least l.fn.self;
  bounds : bounds g.S.DocSet l.self.members.items ≡ bounds g.S.DocSet l.fn.self.members.items;
  least : l.self.least ≡ l.fn.self.least;
}

abbrev pub decreases-loop-self : goal.decreases-loop-self
decreases-loop-self g l = 2147483647 - l.self.ahead
