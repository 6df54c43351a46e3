-- No score is looked at, so each document has the score 1.
use Rattle.std.proofs.Common.{rules, map, arith}
use Rattle.std.proofs.lemmas.Result.{IfOk-weaker}
use Rattle.qm_docset.specs.GatherFacts.{AreEntries-gather}
use Rattle.qm_scorer.specs.Tree.{tree_entries}
use Rattle.qm_scorer.proofs.group_builders.any_of.Goals as goal

pub first_match-requires-clause-bounded : goal.first_match-requires-clause-bounded
first_match-requires-clause-bounded g c = record {
  fits = omega arith;
  entries = AreEntries-gather 1 (λ _. 1) 1 (map (tree_entries g.S.DocSet) c.args.members.items) (search rules);
}

pub returns : goal.returns
returns g c = IfOk-weaker c.first_match.result _ _ (λ node made. (made.valid, made.entries)) c.first_match.ensures
