-- The run of each node is that of its tree, by the run of what stands inside.
use Rattle.std.proofs.Common.{rules, ◌≡◌, ◌*◌, IfErr, arith, subst, w64}
use Rattle.std.proofs.lemmas.Int.{to_z-of_z}
use Rattle.qm_term.specs.Runs.{InRange}
use Rattle.qm_weight.specs.ClauseScorers.{IsDecidedBy}
use Rattle.qm_weight.specs.Scorers.{IsListOf, IsRefusalOf}
use Rattle.qm_weight.specs.Weights.{boolean_tree, boost_tree, terms_tree, tree_of}
use Rattle.qm_weight.specs.contracts.any_weight.prune_any.F-FnMut as fnmut
use Rattle.qm_weight.specs.declared.any_weight.AnyWeight as w
use Rattle.qm_weight.specs.declared.boolean_weight.BooleanWeight as bq
use Rattle.qm_weight.specs.declared.boost_weight.BoostWeight as kq
use Rattle.qm_weight.proofs.ClauseSteps.{row_clauses-items}
use Rattle.qm_weight.proofs.Nodes.{list-boost}
use Rattle.qm_weight.proofs.OneClauses.{list-one_weight}
use Rattle.qm_weight.proofs.RunSteps.{MayPrune-at, MayPruneTree-from, PrunesTree-from}
use Rattle.qm_weight.proofs.+prune.Goals as goal

pub any_weight::prune_any-prune_terms-requires-clause-allowed :
    goal.any_weight::prune_any-prune_terms-requires-clause-allowed
any_weight::prune_any-prune_terms-requires-clause-allowed g t c =
    let words = fnmut.words g.row.F g.F.FnMut in
    let segment = c.args.reader.now.segment in
    let same : terms_tree c.in-Terms.leaf ≡ tree_of c.args.weight.now = search (rules, w.the_lemmas) in
    MayPruneTree-from words.step words.pre (terms_tree c.in-Terms.leaf) (tree_of c.args.weight.now) c.args.boost c.args.boost segment c.args.threshold
    c.args.callback.now c.ranges.threshold (λ es listed. subst (λ tree. IsListOf tree c.args.boost segment es) same listed) c.requires.allowed

pub any_weight::prune_any-returns-in-Terms-clause-calls :
    goal.any_weight::prune_any-returns-in-Terms-clause-calls
any_weight::prune_any-returns-in-Terms-clause-calls g t c =
    let words = fnmut.words g.row.F g.F.FnMut in
    let segment = c.args.reader.now.segment in
    let same : terms_tree c.in-Terms.leaf ≡ tree_of c.args.weight.now = search (rules, w.the_lemmas) in
    PrunesTree-from words.step (terms_tree c.in-Terms.leaf) (tree_of c.args.weight.now) c.args.boost c.args.boost segment c.args.threshold _ _
    c.prune_terms.result c.ranges.threshold (λ es listed. subst (λ tree. IsListOf tree c.args.boost segment es) same listed) c.prune_terms.ensures.calls

pub any_weight::prune_any-prune_boost-requires : goal.any_weight::prune_any-prune_boost-requires
any_weight::prune_any-prune_boost-requires g t c κs within =
    let same : boost_tree c.in-Boost.node ≡ tree_of c.args.weight.now = search (rules, w.the_lemmas) in (
      search (rules, w.the_lemmas),
      (
        search rules,
        (
          c.requires.boost,
          rw (same, to_z-of_z w64 c.args.threshold c.ranges.threshold) c.requires.allowed,
        ),
      ),
    )

pub any_weight::prune_any-prune_boolean-requires :
    goal.any_weight::prune_any-prune_boolean-requires
any_weight::prune_any-prune_boolean-requires g t c κs within =
    let same : boolean_tree c.in-Boolean.node ≡ tree_of c.args.weight.now = search (rules, w.the_lemmas, row_clauses-items) in (
      search (rules, w.the_lemmas),
      (
        search rules,
        (
          c.requires.boost,
          rw (same, to_z-of_z w64 c.args.threshold c.ranges.threshold) c.requires.allowed,
        ),
      ),
    )

pub any_weight::prune_any-prune_scorer-requires : goal.any_weight::prune_any-prune_scorer-requires
any_weight::prune_any-prune_scorer-requires g t c =
    let words = fnmut.words g.row.F g.F.FnMut in
    record {
      placed = c.in_ok-scorer-in_default.ensures.scorer.placed;
      allowed = MayPrune-at (InRange words.step) words.pre c.args.threshold _ c.args.callback.now _ (to_z-of_z w64 c.args.threshold c.ranges.threshold)
          (c.requires.allowed _ c.in_ok-scorer-in_default.ensures.scorer.list);
    }

pub any_weight::prune_any-returns-in-Boolean-clause-calls :
    goal.any_weight::prune_any-returns-in-Boolean-clause-calls
any_weight::prune_any-returns-in-Boolean-clause-calls g t c =
    let words = fnmut.words g.row.F g.F.FnMut in
    let segment = c.args.reader.now.segment in
    let same : boolean_tree c.in-Boolean.node ≡ tree_of c.args.weight.now = search (rules, w.the_lemmas, row_clauses-items) in
    PrunesTree-from words.step (boolean_tree c.in-Boolean.node) (tree_of c.args.weight.now) c.args.boost c.args.boost segment c.args.threshold _ _
    c.prune_boolean.result c.ranges.threshold (λ es listed. subst (λ tree. IsListOf tree c.args.boost segment es) same listed) c.prune_boolean.ensures.calls

pub any_weight::prune_any-returns-in-Boolean-clause-refused :
    goal.any_weight::prune_any-returns-in-Boolean-clause-refused
any_weight::prune_any-returns-in-Boolean-clause-refused g t c =
    let same : boolean_tree c.in-Boolean.node ≡ tree_of c.args.weight.now = search (rules, w.the_lemmas, row_clauses-items) in
    subst (λ tree. IfErr c.prune_boolean.result (IsRefusalOf tree c.args.boost)) same c.prune_boolean.ensures.refused

pub boolean_weight::prune_boolean-prune_any-requires :
    goal.boolean_weight::prune_boolean-prune_any-requires
boolean_weight::prune_boolean-prune_any-requires g t c κs within =
    let words = fnmut.words g.row.F g.F.FnMut in
    let segment = c.args.reader.now.segment in
    let decided : IsDecidedBy c.args.weight.now.rule c.index-occur-0.result.0 = search rules in
    let inside : c.deref.result.now ≡ c.index-inside-0.result.1.value = search rules in (
      search (rules, bq.the_lemmas, w.the_lemmas),
      (
        search rules,
        (
          c.requires.boost,
          MayPruneTree-from words.step words.pre (tree_of c.deref.result.now)
              (boolean_tree c.args.weight.now) c.args.boost c.args.boost segment c.args.threshold c.args.callback.now
              c.ranges.threshold (λ es listed. list-one_weight c.args.weight.now c.as_slice.result.now c.index-occur-0.result c.index-inside-0.result
              c.args.boost segment es c.as_slice.ensures.value (omega (arith, c.in-len1.len_at_least)) (omega (arith, c.in-len1.len_below))
              c.index-occur-0.is c.index-inside-0.is decided (subst (λ x. IsListOf (tree_of x) c.args.boost segment es) inside listed)) c.requires.allowed,
        ),
      ),
    )

pub boolean_weight::prune_boolean-returns-clause-calls :
    goal.boolean_weight::prune_boolean-returns-clause-calls
boolean_weight::prune_boolean-returns-clause-calls g t c =
    let words = fnmut.words g.row.F g.F.FnMut in
    let segment = c.args.reader.now.segment in
    let decided : IsDecidedBy c.args.weight.now.rule c.index-occur-0.result.0 = search rules in
    let inside : c.deref.result.now ≡ c.index-inside-0.result.1.value = search rules in
    PrunesTree-from words.step (tree_of c.deref.result.now) (boolean_tree c.args.weight.now) c.args.boost c.args.boost segment c.args.threshold _ _
    c.prune_any.result c.ranges.threshold (λ es listed. list-one_weight c.args.weight.now c.as_slice.result.now c.index-occur-0.result
    c.index-inside-0.result c.args.boost segment es c.as_slice.ensures.value (omega (arith, c.in-len1.len_at_least)) (omega (arith, c.in-len1.len_below))
    c.index-occur-0.is c.index-inside-0.is decided (subst (λ x. IsListOf (tree_of x) c.args.boost segment es) inside listed)) c.prune_any.ensures.calls

pub boolean_weight::prune_boolean-prune_clauses-requires-clause-allowed :
    goal.boolean_weight::prune_boolean-prune_clauses-requires-clause-allowed
boolean_weight::prune_boolean-prune_clauses-requires-clause-allowed g t c =
    let words = fnmut.words g.row.F g.F.FnMut in
    MayPruneTree-from words.step words.pre (boolean_tree c.args.weight.now) (boolean_tree c.args.weight.now) c.args.boost c.args.boost c.args.reader.now.segment
    c.args.threshold c.args.callback.now c.ranges.threshold (λ es listed. listed) c.requires.allowed

pub boolean_weight::prune_boolean-returns-2-clause-calls :
    goal.boolean_weight::prune_boolean-returns-2-clause-calls
boolean_weight::prune_boolean-returns-2-clause-calls g t c =
    let words = fnmut.words g.row.F g.F.FnMut in
    PrunesTree-from words.step (boolean_tree c.args.weight.now) (boolean_tree c.args.weight.now) c.args.boost c.args.boost c.args.reader.now.segment
    c.args.threshold _ _ c.prune_clauses.result c.ranges.threshold (λ es listed. listed) c.prune_clauses.ensures.calls

pub boost_weight::prune_boost-prune_any-requires :
    goal.boost_weight::prune_boost-prune_any-requires
boost_weight::prune_boost-prune_any-requires g t c κs within =
    let words = fnmut.words g.row.F g.F.FnMut in
    let wt = c.args.weight.now in
    let segment = c.args.reader.now.segment in
    let product : c.in-Some.product ≡ c.args.boost * wt.boost = search rules in (
      search (rules, kq.the_lemmas, w.the_lemmas),
      (
        search rules,
        (
          omega (arith, c.in-Some.ensures.0),
          MayPruneTree-from words.step words.pre (tree_of c.deref.result.now)
              (boost_tree wt) c.in-Some.product c.args.boost segment c.args.threshold c.args.callback.now c.ranges.threshold
              (λ es listed. list-boost wt.boost (tree_of wt.weight.value) c.args.boost segment es
              (subst (λ n. IsListOf (tree_of wt.weight.value) n segment es) product
              (subst (λ x. IsListOf (tree_of x) c.in-Some.product segment es) c.deref.ensures listed))) c.requires.allowed,
        ),
      ),
    )

pub boost_weight::prune_boost-returns-clause-calls :
    goal.boost_weight::prune_boost-returns-clause-calls
boost_weight::prune_boost-returns-clause-calls g t c =
    let words = fnmut.words g.row.F g.F.FnMut in
    let wt = c.args.weight.now in
    let segment = c.args.reader.now.segment in
    let product : c.in-Some.product ≡ c.args.boost * wt.boost = search rules in
    PrunesTree-from words.step (tree_of c.deref.result.now) (boost_tree wt) c.in-Some.product c.args.boost segment c.args.threshold _ _
    c.prune_any.result c.ranges.threshold (λ es listed. list-boost wt.boost (tree_of wt.weight.value) c.args.boost segment es
    (subst (λ n. IsListOf (tree_of wt.weight.value) n segment es) product
    (subst (λ x. IsListOf (tree_of x) c.in-Some.product segment es) c.deref.ensures listed))) c.prune_any.ensures.calls
