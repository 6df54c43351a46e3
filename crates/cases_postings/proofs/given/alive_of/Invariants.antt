use Rattle.std.proofs.Common.{◌≡◌}
use Rattle.qm_docset.specs.BitSet.{set_max_value}
use Rattle.cases_postings.proofs.given.alive_of.Given as goal

abbrev pub invariant-loop-doc : goal.invariant-loop-doc
invariant-loop-doc l = set_max_value l.set ≡ l.max_doc
