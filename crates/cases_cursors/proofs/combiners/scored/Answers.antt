-- The first document of one is 0, and has the constant score.
use Rattle.std.proofs.Common.{◌≡◌, ap, arith, nat_abs, to_z, w64, refl, ◌∙◌}
use Rattle.std.proofs.lemmas.Int.{ints}
use Rattle.qm_docset.specs.Entry.{head_document, head_score}
use Rattle.qm_combine.specs.AllDocuments.{all_from}
use Rattle.qm_combine.specs.Rescored.{rescored}
use Rattle.qm_combine.specs.RescoredFacts.{head_document-rescored}
use Rattle.cases_cursors.proofs.combiners.scored.Goals as goal

pub returns-clause-here : goal.returns-clause-here
unfolding all_from
returns-clause-here c = ap head_document c.new-2.ensures.cursor.entries ∙ head_document-rescored _ _ ∙ ap head_document c.new.ensures.lists.entries ∙ refl

pub returns-clause-score : goal.returns-clause-score
unfolding all_from rescored
returns-clause-score c =
    let constant : nat_abs (to_z w64 c.args.score) ≡ c.args.score = omega (arith, ints) in
    ap head_score c.new-2.ensures.cursor.entries
    ∙ ap (λ es. head_score (rescored (λ _. nat_abs (to_z w64 c.args.score)) es)) c.new.ensures.lists.entries ∙ constant
