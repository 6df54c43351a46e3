use Rattle.std.proofs.Common.{ℕ, ◌<◌, ◌≤◌, get_or}
use Rattle.qm_docset.proofs.galloping.count_below.Given as goal

abbrev pub invariant-loop-doc : goal.invariant-loop-doc
invariant-loop-doc l = record {
  short : l.below ≤ l.doc-index;
  passed : (k : ℕ) → k < l.below → get_or l.docs k 0 < l.target;
  reached : (k : ℕ) → l.below ≤ k → k < l.doc-index → l.target ≤ get_or l.docs k 0;
}
