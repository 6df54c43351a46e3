-- The scorer of a term over its postings, and none where no document holds the term.
use Rattle.std.proofs.Common.{◌∙◌}
use Rattle.qm_weight.specs.Weights.{shared_weighing}
use Rattle.qm_weight.proofs.Leaves.{leaf-term, weighed_score-shared}
use Rattle.qm_weight.proofs.terms_weight.term_cursor.scorer_of_term.Goals as goal

pub returns-clause-scorer : goal.returns-clause-scorer
returns-clause-scorer c =
    let w = c.args.clause.weight.now in
    let own = c.args.clause.clause.now in
    let made = c.for_term.ensures in
    leaf-term _ c.args.reader.now.segment own.index_record_option own.term (shared_weighing w.rule.scoring_enabled w.norms own.weight) c.args.boost _
    (weighed_score-shared w.rule.scoring_enabled w.norms own.weight c.args.boost _ (c.owned-weight.ensures ∙ c.in_ok-weight_at.ensures.weighing)) _
    made.present.1 made.lists
