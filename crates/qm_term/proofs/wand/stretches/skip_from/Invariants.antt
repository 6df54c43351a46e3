use Rattle.std.proofs.Common.{◌≡◌, ◌≤◌, List, drop, map, min}
use Rattle.qm_docset.specs.declared.numbers.TheConstants.{TERMINATED}
use Rattle.qm_term.specs.Heads.{AreRecords, listed, lists}
use Rattle.qm_term.specs.Members.{Member}
use Rattle.qm_term.specs.Pivot.{skip}
use Rattle.qm_term.specs.Stretches.{AreLookedAt}
use Rattle.qm_term.proofs.wand.stretches.skip_from.Given as goal

abbrev pub invariant-loop-k : goal.invariant-loop-k
invariant-loop-k l = record {
  end : l.least ≤ TERMINATED;
  skip : (ms : List Member) → AreRecords ms l.heads → AreLookedAt l.low l.heads →
      min l.least (skip l.low (map (listed ms) (drop l.k l.heads))) ≡ skip l.low (lists ms l.heads);
}
