use Rattle.std.proofs.Common.{ℕ, ◌<◌, ◌≤◌, get_or}
use Rattle.qm_docset.specs.declared.numbers.TheConstants.{TERMINATED}
use Rattle.qm_term.specs.Stretches.{AreFrom}
use Rattle.qm_term.specs.declared.wand.heads.Head.{Head}
use Rattle.qm_term.proofs.wand.stretches.first_doc.Given as goal

abbrev pub invariant-loop-k : goal.invariant-loop-k
invariant-loop-k l = record {
  end : l.least ≤ TERMINATED;
  least : (j : ℕ) (d : Head) → j < l.k → l.least ≤ (get_or l.heads j d).doc;
  from : (p : ℕ) → p ≤ TERMINATED → AreFrom p l.heads → p ≤ l.least;
}
