use Rattle.std.proofs.Common.{◌≤◌, All}
use Rattle.cases_postings.specs.contracts.own_postings.OwnPostingsDocSet.TheImpl as own
use Rattle.qm_phrase.specs.SimpleUnion.{IsSimpleUnion}
use Rattle.cases_postings.proofs.phrases.read_unions.Given as goal

abbrev pub invariant-loop-spelled : goal.invariant-loop-spelled
invariant-loop-spelled l = record {
  valid : All (λ pair. IsSimpleUnion own.ghosts pair.1) l.row.items;
  offsets : All (λ pair. pair.0 ≤ 4294967295) l.row.items;
}
