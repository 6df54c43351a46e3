use Rattle.std.proofs.Common.{◌≡◌}
use Rattle.qm_docset.specs.BitSet.{set_max_value}
use Rattle.cases_postings.proofs.unions.read_set.Given as goal

abbrev pub invariant-loop-document : goal.invariant-loop-document
invariant-loop-document l = set_max_value l.set ≡ l.max_value
