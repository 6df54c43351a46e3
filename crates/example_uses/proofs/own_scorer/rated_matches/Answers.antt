-- A rating changes scores alone, so what is found is what the weight matches.
use Rattle.std.proofs.Common.{◌∙◌, map, ap}
use Rattle.qm_combine.specs.RescoredFacts.{documents-rescored}
use Rattle.qm_docset.specs.Entry.{documents}
use Rattle.qm_weight.specs.CallerFacts.{documents-pairs}
use Rattle.example_uses.proofs.own_scorer.rated_matches.Goals as goal

pub returns : goal.returns
returns g c = record {
  documents = ap (map (λ pair. pair.0)) c.in_ok-scores_left.ensures
      ∙ documents-pairs _
      ∙ ap documents c.in_ok-both.ensures.lists.entries
      ∙ documents-rescored _ _
      ∙ c.in_ok-found.ensures.scorer.list.documents;
}
