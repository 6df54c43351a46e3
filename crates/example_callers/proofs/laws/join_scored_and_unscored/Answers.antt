-- Both match what the query without scores matches.
use Rattle.std.proofs.Common.{sym, ◌∙◌}
use Rattle.qm_weight.specs.ScoringFacts.{matching-one_query}
use Rattle.example_callers.proofs.laws.join_scored_and_unscored.Goals as goal

pub returns : goal.returns
returns g c = λ same.
    let alike = matching-one_query (g.V.Weight.tree c.args.first.now) (g.W.Weight.tree c.args.second.now) c.args.reader.now.segment same in
    c.in_ok-found.ensures ∙ alike ∙ sym c.in_ok-join_matches.ensures
