use Rattle.std.proofs.Common.{All}
use Rattle.cases_postings.specs.contracts.own_postings.OwnPostingsDocSet.TheImpl as own
use Rattle.cases_postings.proofs.member.read_suffixes.Given as goal

abbrev pub invariant-loop-spelled : goal.invariant-loop-spelled
invariant-loop-spelled l = All own.ghosts.valid l.row.items
