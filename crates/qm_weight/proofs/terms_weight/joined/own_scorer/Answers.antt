-- What the scorers of the clauses make is a scorer of the weight.
use Rattle.std.proofs.Common.{rules, ◌≡◌, ◌<◌, ◌≤◌, ◌∙◌, Err, IfErr, ap, get_or, length, subst, sym}
use Rattle.std.proofs.lemmas.List.{take_all}
use Rattle.qm_schema.specs.declared.occur.Occur.TheVariants.{Should, Must, MustNot}
use Rattle.qm_scorer.specs.contracts.any_scorer.AnyScorerDocSet.TheImpl.{ghosts}
use Rattle.qm_weight.specs.ClauseScorers.{AreClauseScorers, IsJoinRefusal, JoinsClauses}
use Rattle.qm_weight.specs.Scorers.{IsRefusalOf, IsScorerOf}
use Rattle.qm_weight.specs.TermUnions.{clauses_in}
use Rattle.qm_weight.specs.Weights.{clause_occur, clause_tree, combiner_of, term_clauses, terms_tree}
use Rattle.qm_weight.proofs.ClauseSteps.{clause_scorers-step, placed-of, refusal-boolean, refusal-clause}
use Rattle.qm_weight.proofs.Leaves.{if_err, if_ok}
use Rattle.qm_weight.proofs.terms_weight.joined.own_scorer.Goals as goal
use Rattle.qm_weight.proofs.terms_weight.joined.own_scorer.Goals.{After-loop-clause}
use Rattle.qm_weight.proofs.terms_weight.joined.own_scorer.Given.{Over}

pub loop-clause-init : goal.loop-clause-init
loop-clause-init g c = c.none-scorers.ensures c.args.boost c.args.reader.now.segment

pub returns-in_err-leaf-clause-refused : goal.returns-in_err-leaf-clause-refused
returns-in_err-leaf-clause-refused g c =
    let w = c.args.weight.now in
    let i = c.loop-clause.clause-index in
    let item = c.clause-item.result in
    let items = c.deref-clause-items.ensures.value in
    let e = c.in_err-leaf.field-0.0 in
    let is : c.from_residual.result ≡ Err e = search rules in
    let why = refusal-clause clause_occur (clause_tree w.rule.scoring_enabled w.norms) w.clauses.items i item c.args.boost e
    (c.clause-item.is ∙ ap (λ xs. get_or xs i item) items) (subst (λ xs. i < length xs) items c.loop-clause-test.true) c.in_err-leaf.ensures.refused in
    subst (λ r. IfErr r (IsRefusalOf (terms_tree w) c.args.boost)) (sym is)
    (refusal-boolean w.rule.scoring_enabled w.rule.minimum_number_should_match (combiner_of w.rule.score_combiner) (clauses_in w) c.args.boost e why)

pub loop-clause-preserved : goal.loop-clause-preserved
loop-clause-preserved g c =
    let D = ghosts g.row.L g.L.Scorer g.L.Scorer-dict g.L.DocSet g.L.DocSet-dict g.L.Destruct-dict in
    let w = c.args.weight.now in
    let i = c.loop-clause.clause-index in
    let item = c.clause-item.result in
    let items = c.deref-clause-items.ensures.value in
    let added = c.in_ok-add_leaf.ensures.added in
    clause_scorers-step D clause_occur (clause_tree w.rule.scoring_enabled w.norms) c.args.boost c.args.reader.now.segment w.clauses.items i item
    c.loop-clause.scorers c.add_leaf.new.scorers added.0 (c.clause-item.is ∙ ap (λ xs. get_or xs i item) items)
    (subst (λ xs. i < length xs) items c.loop-clause-test.true) c.loop-clause.invariant added.1 added.2

rows : (g : Over) (c : After-loop-clause g) → AreClauseScorers (ghosts g.row.L g.L.Scorer g.L.Scorer-dict g.L.DocSet g.L.DocSet-dict g.L.Destruct-dict)
    (clauses_in c.args.weight.now) c.args.boost c.args.reader.now.segment c.loop-clause.scorers
rows g c =
    let D = ghosts g.row.L g.L.Scorer g.L.Scorer-dict g.L.DocSet g.L.DocSet-dict g.L.Destruct-dict in
    let w = c.args.weight.now in
    let i = c.loop-clause.clause-index in
    let whole = subst (λ xs. length xs ≤ i) c.deref-clause-items.ensures.value c.loop-clause-test.false in
    subst (λ cs. AreClauseScorers D (term_clauses w.rule.scoring_enabled w.norms cs) c.args.boost c.args.reader.now.segment c.loop-clause.scorers)
    (take_all i w.clauses.items whole) c.loop-clause.invariant

pub join_clauses-requires-clause-must : goal.join_clauses-requires-clause-must
join_clauses-requires-clause-must g c =
    placed-of _ c.args.boost c.args.reader.now.segment _ c.loop-clause.scorers.must.items
    (rows g (goal.at.join_clauses-requires-clause-must g c).After-loop-clause Must)

pub join_clauses-requires-clause-should : goal.join_clauses-requires-clause-should
join_clauses-requires-clause-should g c =
    placed-of _ c.args.boost c.args.reader.now.segment _ c.loop-clause.scorers.should.items
    (rows g (goal.at.join_clauses-requires-clause-should g c).After-loop-clause Should)

pub join_clauses-requires-clause-must_not : goal.join_clauses-requires-clause-must_not
join_clauses-requires-clause-must_not g c =
    placed-of _ c.args.boost c.args.reader.now.segment _ c.loop-clause.scorers.must_not.items
    (rows g (goal.at.join_clauses-requires-clause-must_not g c).After-loop-clause MustNot)

pub returns-clause-scorer : goal.returns-clause-scorer
returns-clause-scorer g c =
    let D = ghosts g.row.L g.L.Scorer g.L.Scorer-dict g.L.DocSet g.L.DocSet-dict g.L.Destruct-dict in
    let w = c.args.weight.now in
    let segment = c.args.reader.now.segment in
    if_ok (JoinsClauses D w.rule segment c.loop-clause.scorers) (IsScorerOf D (terms_tree w) c.args.boost segment)
    (λ s made. made (clauses_in w) c.args.boost (rows g (goal.at.returns-clause-scorer g c).After-loop-clause)) _ c.join_clauses.ensures.scorer

pub returns-clause-refused : goal.returns-clause-refused
returns-clause-refused g c =
    let D = ghosts g.row.L g.L.Scorer g.L.Scorer-dict g.L.DocSet g.L.DocSet-dict g.L.Destruct-dict in
    let w = c.args.weight.now in
    let segment = c.args.reader.now.segment in
    if_err (IsJoinRefusal D w.rule segment c.loop-clause.scorers) (IsRefusalOf (terms_tree w) c.args.boost)
    (λ e made. made (clauses_in w) c.args.boost (rows g (goal.at.returns-clause-refused g c).After-loop-clause)) _ c.join_clauses.ensures.refused
