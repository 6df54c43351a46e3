use Rattle.std.proofs.Common.{◌≡◌, ◌<◌, ◌++◌, All, map, take, drop, length, vec_capacity}
use Rattle.qm_docset.specs.Entry.{head_document, head_positions}
use Rattle.qm_docset.specs.Lists.{lists, bounds}
use Rattle.qm_docset.specs.declared.numbers.TheConstants.{TERMINATED}
use Rattle.qm_phrase.specs.TermRows.{member_positions}
use Rattle.qm_phrase.specs.Terms.{AreRoomy}
use Rattle.qm_phrase.proofs.terms.read_positions.Given as goal

abbrev pub invariant-loop-i : goal.invariant-loop-i
invariant-loop-i g l = record {
  paired : length l.members ≡ length l.positions;
  read : member_positions l.positions ≡ take l.i (map head_positions (lists g.P.DocSet l.fn.members)) ++ drop l.i (member_positions l.fn.positions);
  roomy : AreRoomy (bounds g.P.DocSet l.members) (map vec_capacity l.positions);
  entries : lists g.P.DocSet l.members ≡ lists g.P.DocSet l.fn.members;
  limits : bounds g.P.DocSet l.members ≡ bounds g.P.DocSet l.fn.members;
  valid : All g.P.DocSet.valid l.members;
  here : All (λ m. g.P.DocSet.placed m × (head_document (g.P.DocSet.entries m) < TERMINATED)) l.members;
}
