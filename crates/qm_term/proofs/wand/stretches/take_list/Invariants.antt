use Rattle.std.proofs.Common.{◌≡◌, ℕ, ◌-◌, ◌≤◌, get_or, set}
use Rattle.qm_term.specs.Cells.{TakesIn}
use Rattle.qm_term.specs.HeadRow.{AreHeads, row_lists}
use Rattle.qm_term.specs.Heads.{no_member}
use Rattle.qm_term.specs.Pivot.{cut, head}
use Rattle.qm_term.proofs.wand.stretches.take_list.Given as goal

abbrev pub invariant-loop-doc : goal.invariant-loop-doc
invariant-loop-doc g l =
    let ls = row_lists l.fn.scorers l.fn.heads in
    let m = get_or ls l.k no_member in
    record {
      heads : AreHeads l.scorers l.heads;
      here : l.doc ≡ head (get_or (row_lists l.scorers l.heads) l.k no_member);
      part : (s : ℕ) × (s ≤ l.end) × (l.low ≤ s) × (row_lists l.scorers l.heads ≡ set ls l.k (cut s m)) × TakesIn g.C.ScoreCombiner.step s (cut l.low m) l.fn.cells l.cells;
    }

abbrev pub decreases-loop-doc : goal.decreases-loop-doc
decreases-loop-doc g l = l.end - l.doc
