use Rattle.qm_docset.specs.Lists.{ArePlaced}
use Rattle.cases_postings.specs.contracts.own_postings.OwnPostingsDocSet.TheImpl as own
use Rattle.cases_postings.proofs.member.read_members.Given as goal

abbrev pub invariant-loop-spelled : goal.invariant-loop-spelled
invariant-loop-spelled l = ArePlaced own.ghosts l.row.items
