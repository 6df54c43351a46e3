-- What is kept is the best of the documents that the run has passed, whether it called for them or not.
use Rattle.std.proofs.Common.{◌≡◌, ◌<ℤ◌, ℕ, ℤ, pos, true, if◌then◌else◌, List, [], ◌∷◌, Option, None, Some, slice_get, take, ap, sym, subst}
use Rattle.std.proofs.Common.{◌∙◌, refl, rules, arith}
use Rattle.std.proofs.lemmas.Int.{ints}
use Rattle.std.specs.Int.Signed.{lt_z}
use Rattle.qm_term.specs.RunsFacts.{MayPrune-always, Plain-enters}
use Rattle.qm_weight.specs.Best.{best, kept_with, placed, score_to_pass}
use Rattle.qm_weight.specs.BestFacts.{KeepsBest, KeepsBest-none, KeepsBest-entered, KeepsBest-passed, by_score-pairs, score_to_pass-take}
use Rattle.qm_weight.specs.Callers.{pairs}
use Rattle.example_uses.proofs.pruned_collector.best_document.Goals as goal

-- what is kept, as a row of one or none
abbrev kept : Option (ℕ × ℤ) → List (ℕ × ℤ)
kept None = []
kept (Some p) = p ∷ []

first_kept : (found : Option (ℕ × ℤ)) → found ≡ slice_get (kept found) 0
first_kept None = refl
first_kept (Some p) = refl

-- one that passes the score of what is kept takes its place
entered : (p : ℕ × ℤ) (found : Option (ℕ × ℤ)) → score_to_pass 1 (kept found) <ℤ p.1 → p ∷ [] ≡ kept_with 1 p (kept found)
entered p None above = refl
entered p (Some q) above =
    let less : lt_z q.1 p.1 ≡ true = grind (arith, ints) in
    sym (ap (λ b. take 1 (if b then p ∷ q ∷ [] else q ∷ placed p [])) less)

pub for_each_pruning-requires : goal.for_each_pruning-requires
for_each_pruning-requires g c = record { allowed = λ es is. search (rules, MayPrune-always) }

pub returns : goal.returns
returns g c =
    let run = c.in_ok-for_each_pruning.ensures.calls in
    let es = run.0 in
    let kept_all = Plain-enters _ (λ first bar f ranked. KeepsBest 1 bar (kept f.0.now) ranked × (f.0.ghost_name ≡ first.0.ghost_name))
    (λ ranked e. placed (e.document, pos e.score) ranked) _
    (λ bar after f h ranked e now above made.
    let is : h.0.now ≡ Some (e.document, pos e.score) = search rules in
    let answer : after ≡ pos e.score = search rules in
    let same : h.0.ghost_name ≡ f.0.ghost_name = search rules in
    let passes : score_to_pass 1 (kept f.0.now) <ℤ pos e.score =
    subst (λ bar. bar <ℤ pos e.score) (now.0.threshold ∙ sym (ap (score_to_pass 1) now.0.kept ∙ score_to_pass-take 1 ranked)) above in (
      KeepsBest-entered 1 bar after (e.document, pos e.score) (kept f.0.now) (kept h.0.now) ranked now.0
          (ap kept is ∙ entered (e.document, pos e.score) f.0.now passes) (answer ∙ sym (ap (λ o. score_to_pass 1 (kept o)) is)),
      same ∙ now.1,
    ))
    (λ bar f ranked e now low. (KeepsBest-passed 1 bar (e.document, pos e.score) (kept f.0.now) ranked now.0 (omega (arith, ints)) low, now.1))
    es run.2 _ run.3 _ [] (KeepsBest-none 1 _ [] refl refl, refl) run.4 in
    let callback = c.for_each_pruning.new.callback in
    let best_kept : kept callback.0.now ≡ best 1 (pairs es) = kept_all.0.kept ∙ ap (take 1) (by_score-pairs es) in
    let is_best : callback.0.now ≡ slice_get (best 1 (pairs es)) 0 = first_kept callback.0.now ∙ ap (λ row. slice_get row 0) best_kept in
    λ on. search (rules, ap (λ l. slice_get (best 1 (pairs l)) 0) (run.1.scores on))
