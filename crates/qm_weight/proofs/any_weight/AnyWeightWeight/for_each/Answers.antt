-- The run of a Boolean is that of its tree.
use Rattle.std.proofs.Common.{rules, ◌≡◌, sym, subst, OnOk, IfErr}
use Rattle.qm_weight.specs.Scorers.{IsRefusalOf}
use Rattle.qm_weight.specs.TreeRuns.{CallsTree, MayCallTree}
use Rattle.qm_weight.specs.Weights.{boolean_tree, tree_of}
use Rattle.qm_weight.specs.declared.any_weight.AnyWeight as w
use Rattle.qm_weight.proofs.ClauseSteps.{row_clauses-items}
use Rattle.qm_weight.proofs.any_weight.AnyWeightWeight.for_each.Goals as goal

pub for_each-requires-in-Boolean : goal.for_each-requires-in-Boolean
for_each-requires-in-Boolean g c =
    let same : boolean_tree c.in-Boolean.node ≡ tree_of c.args.self.now = search (rules, w.the_lemmas, row_clauses-items) in
    record {
      allowed = subst (λ tree. MayCallTree (goal.F-step g) (goal.F-pre g) tree c.args.reader.now.segment c.args.callback.now) (sym same) c.requires.allowed;
    }

pub returns-in-Boolean-clause-calls : goal.returns-in-Boolean-clause-calls
returns-in-Boolean-clause-calls g c =
    let same : boolean_tree c.in-Boolean.node ≡ tree_of c.args.self.now = search (rules, w.the_lemmas, row_clauses-items) in
    subst (λ tree. OnOk c.for_each-in-Boolean.result (CallsTree (goal.F-step g) tree c.args.reader.now.segment c.args.callback.now
    c.for_each-in-Boolean.new.callback)) same c.for_each-in-Boolean.ensures.calls

pub returns-in-Boolean-clause-refused : goal.returns-in-Boolean-clause-refused
returns-in-Boolean-clause-refused g c =
    let same : boolean_tree c.in-Boolean.node ≡ tree_of c.args.self.now = search (rules, w.the_lemmas, row_clauses-items) in
    subst (λ tree. IfErr c.for_each-in-Boolean.result (IsRefusalOf tree 1)) same c.for_each-in-Boolean.ensures.refused
