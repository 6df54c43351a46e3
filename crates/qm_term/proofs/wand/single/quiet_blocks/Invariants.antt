use Rattle.std.proofs.Common.{◌≡◌, ◌+◌, ◌<◌, ◌≤◌, ◌-◌, suc}
use Rattle.qm_docset.specs.declared.numbers.TheConstants.{TERMINATED}
use Rattle.qm_term.specs.Members.{end_at}
use Rattle.qm_term.specs.Pivot.{head}
use Rattle.qm_term.specs.RunScorers.{IsRunScorer, wand_member}
use Rattle.qm_term.specs.SingleRun.{IsQuietTo, PassesBlocks}
use Rattle.qm_term.proofs.wand.single.quiet_blocks.Given as goal

abbrev pub invariant-loop-end : goal.invariant-loop-end
invariant-loop-end g l = record {
  valid : IsRunScorer l.scorer;
  same : wand_member l.scorer ≡ wand_member l.fn.scorer;
  from : l.fn.known.end ≤ l.end;
  on : head (wand_member l.fn.scorer) ≤ l.end;
  stop : end_at l.end (wand_member l.fn.scorer).blocks ≡ l.end;
  quiet : IsQuietTo l.threshold l.end (wand_member l.fn.scorer);
  some : 0 < l.blocks;
  few : l.blocks ≤ l.end + 1;
  passed : PassesBlocks l.threshold (suc l.end) l.blocks (wand_member l.fn.scorer);
}

abbrev pub decreases-loop-end : goal.decreases-loop-end
decreases-loop-end g l = TERMINATED - l.end
