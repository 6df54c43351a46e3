use Rattle.std.proofs.Common.{arith}
use Rattle.qm_weight.proofs.ExplainedScores.{past-refuses}
use Rattle.qm_weight.proofs.shared_runs.check_document.Goals as goal

pub returns-else-doc-max_doc-clause-refused : goal.returns-else-doc-max_doc-clause-refused
returns-else-doc-max_doc-clause-refused g c =
    past-refuses (g.W.StandsFor.tree c.args.weight.now) 1 c.args.reader.now.segment c.args.doc (omega (arith, c.max_doc.ensures.number))
