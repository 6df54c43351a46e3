-- The value is the score, whatever is added; and a clause that is refused refuses them all.
use Rattle.std.proofs.Common.{rules, ◌≡◌, ◌<◌, ◌∙◌, Err, IfErr, ap, get_or, length, subst, sym}
use Rattle.qm_weight.specs.ClauseScorers.{IsClauseRefusal}
use Rattle.qm_weight.specs.TermUnions.{clause_tree_in, clauses_in}
use Rattle.qm_weight.specs.Weights.{clause_occur, clause_tree}
use Rattle.qm_weight.proofs.ClauseSteps.{refusal-clause, refusal-detail}
use Rattle.qm_weight.proofs.ExplainedScores.{IsValued, IsValued-added}
use Rattle.qm_weight.proofs.terms_weight.explained.explain_by_clauses.Goals as goal
use Rattle.qm_weight.proofs.terms_weight.explained.explain_by_clauses.Goals.{in-Some+in_ok-add_clause, in_default}

pub loop-clause-preserved : goal.loop-clause-preserved
loop-clause-preserved c = elim c.match-adding_name.branch [
  | in-Some+in_ok-add_clause w ↦
      let added = w.in_ok-add_clause.ensures.added in
      subst (IsValued _) (sym w.explanation-is) (IsValued-added _ _ added.0 _ added.1 c.loop-clause.invariant)
  | in_default w ↦ subst (IsValued _) (sym w.explanation-is) c.loop-clause.invariant
]

pub returns-in_err-add_clause-clause-refused : goal.returns-in_err-add_clause-clause-refused
returns-in_err-add_clause-clause-refused c =
    let w = c.args.weight.now in
    let i = c.loop-clause.clause-index in
    let item = c.clause-item.result in
    let items = c.deref-clause-items.ensures.value in
    let e = c.in_err-add_clause.field-0.0 in
    let is : c.from_residual-in_err-add_clause.result ≡ Err e = search rules in
    let refused = refusal-detail (clause_tree_in w item) c.args.boost c.args.reader.now.segment c.args.doc c.explain_in-explained.result e
    c.explain_in-explained.ensures.refused c.in_err-add_clause.ensures.refused in
    let why = refusal-clause clause_occur (clause_tree w.rule.scoring_enabled w.norms) w.clauses.items i item c.args.boost e
    (c.clause-item.is ∙ ap (λ xs. get_or xs i item) items) (subst (λ xs. i < length xs) items c.loop-clause-test.true) refused in
    subst (λ r. IfErr r (IsClauseRefusal (clauses_in w) c.args.boost)) (sym is) why
