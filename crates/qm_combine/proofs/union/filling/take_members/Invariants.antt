use Rattle.std.proofs.Common.{◌≡◌, ℕ, ◌+◌, ◌<◌, ◌≤◌, false, nat_le, All, drop, fold, length, map, take}
use Rattle.qm_docset.specs.Entry.{from}
use Rattle.qm_docset.specs.Gather.{scores_at}
use Rattle.qm_combine.specs.Union.{least_head}
use Rattle.qm_combine.specs.Window.{IsUntil, window_combiner, window_has, window_start, window_state}
use Rattle.qm_combine.proofs.union.filling.take_members.Given as goal

abbrev pub invariant-loop-member : goal.invariant-loop-member
invariant-loop-member g l = record {
  valid : All g.S.DocSet.valid l.members;
  placed : All g.S.DocSet.placed l.members;
  limits : map g.S.DocSet.limits l.members ≡ map g.S.DocSet.limits l.fn.members;
  behind : drop l.member-index l.members ≡ drop l.member-index l.fn.members;
  done : map g.S.DocSet.entries (take l.member-index l.members) ≡ map (from (l.first + l.span)) (map g.S.DocSet.entries (take l.member-index l.fn.members));
  least : l.least ≡ least_head (map g.S.DocSet.entries (take l.member-index l.members));
  start : window_start l.window ≡ l.first;
  until : IsUntil l.window;
  combiner : window_combiner l.window ≡ window_combiner l.fn.window;
  beyond : (d : ℕ) → l.first + l.span ≤ d → window_has l.window d ≡ false;
  documents : (d : ℕ) → d < l.first + l.span
      → window_has l.window d ≡ nat_le 1 (length (scores_at d (take l.member-index (map g.S.DocSet.entries l.fn.members))));
  states : (d : ℕ) → d < l.first + l.span
      → window_state l.window d ≡ fold g.C.ScoreCombiner.step (window_combiner l.fn.window)
      (scores_at d (take l.member-index (map g.S.DocSet.entries l.fn.members)));
}
