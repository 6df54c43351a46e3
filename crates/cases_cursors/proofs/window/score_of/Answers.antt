-- The first document from one on is one of the window.
use Rattle.qm_combine.proofs.Standing.{answers_first}
use Rattle.cases_cursors.proofs.window.score_of.Goals as goal

pub score-requires : goal.score-requires
score-requires g c = (answers_first c.args.window.now c.args.doc c.in-Some.first c.in-Some.ensures).member
