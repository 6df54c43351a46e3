-- What the scorer has left is what the query matches, and with scoring on what it scores there.
use Rattle.std.proofs.Common.{◌≡◌, List, [], ◌∷◌, map, refl, ap, ◌∙◌}
use Rattle.qm_docset.specs.Entry.{Entry, documents}
use Rattle.qm_weight.specs.Callers.{pairs}
use Rattle.example_callers.proofs.query_callers.matches.Goals as goal

firsts : (es : List Entry) → map (λ pair. pair.0) (pairs es) ≡ documents es
firsts [] = refl
firsts (e ∷ es) = ap (λ ds. e.document ∷ ds) (firsts es)

pub returns : goal.returns
returns g c =
    let found = c.in_ok-scores_left.ensures in
    let scorer = c.in_ok-scorer.ensures in
    record {
      documents = ap (map (λ pair. pair.0)) found ∙ firsts _ ∙ scorer.scorer.list.documents;
      scores = λ on. found ∙ ap pairs (scorer.scorer.list.scores (scorer.scoring on));
    }
