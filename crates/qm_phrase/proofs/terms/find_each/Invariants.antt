use Rattle.std.proofs.Common.{◌≡◌, ◌<◌, All}
use Rattle.qm_docset.specs.Entry.{head_document}
use Rattle.qm_docset.specs.Lists.{lists, bounds}
use Rattle.qm_docset.specs.declared.numbers.TheConstants.{TERMINATED}
use Rattle.qm_phrase.proofs.terms.find_each.Given as goal

abbrev pub invariant-loop-member : goal.invariant-loop-member
invariant-loop-member g l = record {
  entries : lists g.P.DocSet l.members ≡ lists g.P.DocSet l.fn.members;
  limits : bounds g.P.DocSet l.members ≡ bounds g.P.DocSet l.fn.members;
  valid : All g.P.DocSet.valid l.members;
  here : All (λ m. g.P.DocSet.placed m × (head_document (g.P.DocSet.entries m) < TERMINATED)) l.members;
}
