-- The cursors so far are those of the clauses so far.
use Rattle.std.proofs.Common.{rules, ◌≡◌, ◌++◌, ◌∷◌, ◌<◌, [], Err, Global, IfErr, Vec, ap, get_or, length, subst, sym, ◌∙◌}
use Rattle.std.proofs.lemmas.List.{append-nil}
use Rattle.qm_weight.specs.ClauseScorers.{IsClauseRefusal}
use Rattle.qm_weight.specs.TermUnions.{clause_tree_in, clauses_in, there}
use Rattle.qm_weight.specs.Weights.{clause_occur, clause_tree}
use Rattle.qm_weight.proofs.ClauseSteps.{refusal-clause}
use Rattle.qm_weight.proofs.TermUnions.{cursors-step}
use Rattle.qm_weight.proofs.terms_weight.term_union.cursors_of_terms.Goals as goal
use Rattle.qm_weight.proofs.terms_weight.term_union.cursors_of_terms.Goals.{in-Some+in_ok-push, in_default}

pub returns-in_err-cursor-clause-refused : goal.returns-in_err-cursor-clause-refused
returns-in_err-cursor-clause-refused g c =
    let w = c.args.weight.now in
    let i = c.loop-clause.clause-index in
    let item = c.clause-item.result in
    let items = c.deref-clause-items.ensures.value in
    let e = c.in_err-cursor.field-0.0 in
    let is : c.from_residual-in_err-cursor.result ≡ Err e = search rules in
    let why = refusal-clause clause_occur (clause_tree w.rule.scoring_enabled w.norms) w.clauses.items i item c.args.boost e
    (c.clause-item.is ∙ ap (λ xs. get_or xs i item) items) (subst (λ xs. i < length xs) items c.loop-clause-test.true) c.in_err-cursor.ensures.refused in
    subst (λ r. IfErr r (IsClauseRefusal (clauses_in w) c.args.boost)) (sym is) why

pub loop-clause-preserved : goal.loop-clause-preserved
loop-clause-preserved g c =
    let w = c.args.weight.now in
    let i = c.loop-clause.clause-index in
    let item = c.clause-item.result in
    let items = c.deref-clause-items.ensures.value in
    let at = c.clause-item.is ∙ ap (λ xs. get_or xs i item) items in
    let within = subst (λ xs. i < length xs) items c.loop-clause-test.true in
    let before = c.loop-clause.cursors.items in
    let found = c.in_ok-cursor.field-0 in
    let added : c.match-branch-3.cursors.items ≡ before ++ there (found ∷ []) = elim c.match-branch-3.branch [
      | in-Some+in_ok-push b ↦
          ap (λ (v : Vec g.row.T.Denot Global). v.items) b.cursors-is ∙ b.in_ok-push.ensures.items ∙ ap (λ f. before ++ there (f ∷ [])) (sym b.in-Some.is)
      | in_default b ↦
          ap (λ (v : Vec g.row.T.Denot Global). v.items) b.cursors-is ∙ sym (append-nil before)
          ∙ ap (λ f. before ++ there (f ∷ [])) (sym b.in_default.is)
    ] in
    cursors-step g.T.DocSet (clause_tree_in w) c.args.boost c.args.reader.now.segment w.clauses.items i item before
    c.match-branch-3.cursors.items found at within c.loop-clause.invariant c.in_ok-cursor.ensures.cursor added
