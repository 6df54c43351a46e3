-- The scorer of a term over its postings, and none where no document holds the term.
use Rattle.qm_weight.specs.Weights.{weighing_if}
use Rattle.qm_weight.proofs.Leaves.{leaf-term, weighed_score-if}
use Rattle.qm_weight.proofs.term_weight.TermWeight.scorer_by.Goals as goal

pub returns : goal.returns
returns g c boost weighs =
    let w = c.args.self.now in
    let made = c.for_term.ensures in
    leaf-term _ c.args.reader.now.segment w.index_record_option w.term (weighing_if w.scoring_enabled w.similarity_weight) boost _
    (weighed_score-if w.scoring_enabled w.similarity_weight boost _ weighs) _ made.present.1 made.lists
