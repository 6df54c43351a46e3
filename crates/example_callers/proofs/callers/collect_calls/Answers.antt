-- What was found, and what is still to come, is all that there is, unless memory was refused.
use Rattle.std.proofs.Common.{◌≡◌, ◌++◌, false, append_assoc, ap, ◌∙◌, refl, rules, pos, [], ◌∷◌}
use Rattle.qm_term.specs.RunsFacts.{CallsEach-keeps, MayCallEach-always}
use Rattle.qm_weight.specs.Callers.{pairs}
use Rattle.example_callers.proofs.callers.collect_calls.Goals as goal

pub for_each_scorer-requires-clause-allowed : goal.for_each_scorer-requires-clause-allowed
for_each_scorer-requires-clause-allowed g c =
    search (rules, MayCallEach-always)

pub returns-else-collected : goal.returns-else-collected
returns-else-collected g c =
    let es = g.S.DocSet.entries c.args.scorer.now in
    let collected =
    CallsEach-keeps _ (λ first f xs. (f.0.now.refused ≡ false → f.0.now.found.items ++ pairs xs ≡ pairs es) × (f.0.ghost_name ≡ first.0.ghost_name)) _
    (λ f h x xs kept made.
    let before : h.0.now.refused ≡ false → f.0.now.refused ≡ false = search rules in
    let found : h.0.now.refused ≡ false → h.0.now.found.items ≡ f.0.now.found.items ++ (x.document, pos x.score) ∷ [] = search rules in
    let same : h.0.ghost_name ≡ f.0.ghost_name = search rules in (
      λ ok. ap (λ v. v ++ pairs xs) (found ok)
          ∙ append_assoc f.0.now.found.items ((x.document, pos x.score) ∷ []) (pairs xs) ∙ kept.0 (before ok),
      same ∙ kept.1,
    ))
    es _ (λ _. ap (λ v. v ++ pairs es) c.new.ensures.items, refl) c.for_each_scorer.ensures.calls in
    search rules
