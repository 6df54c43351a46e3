-- What is kept is the best of the pairs that the run has passed, whether it called for them or not.
use Rattle.std.proofs.Common.{◌≡◌, false, pos, [], take, w64, ap, ◌∙◌, refl, rules, arith}
use Rattle.std.proofs.lemmas.Int.{ints, to_z-of_z}
use Rattle.qm_term.specs.RunsFacts.{MayPrune-always, Plain-enters}
use Rattle.qm_weight.specs.Best.{best, kept_with, placed, score_to_pass}
use Rattle.qm_weight.specs.BestFacts.{KeepsBest, KeepsBest-none, KeepsBest-entered, KeepsBest-passed, by_score-pairs}
use Rattle.qm_weight.specs.Callers.{pairs}
use Rattle.example_callers.proofs.weight_callers.best_matches.Goals as goal

pub for_each_pruning-requires : goal.for_each_pruning-requires
for_each_pruning-requires g c = record { allowed = λ es is. search (rules, MayPrune-always) }

pub returns-else-best : goal.returns-else-best
returns-else-best g c =
    let run = c.in_ok-for_each_pruning.ensures.calls in
    let es = run.0 in
    let limit = c.args.limit in
    let threshold = to_z-of_z w64 c.score_to_pass-threshold.result (record { sfits = c.score_to_pass-threshold.type_inv })
    ∙ c.score_to_pass-threshold.ensures in
    let kept_all = Plain-enters _ (λ first bar f ranked. (f.0.now.refused ≡ false → KeepsBest limit bar f.0.now.kept.items ranked) ×
    (f.0.now.limit ≡ limit) × (f.0.ghost_name ≡ first.0.ghost_name))
    (λ ranked e. placed (e.document, pos e.score) ranked) _
    (λ bar after f h ranked e now above made.
    let before : h.0.now.refused ≡ false → f.0.now.refused ≡ false = search rules in
    let room : h.0.now.limit ≡ f.0.now.limit = search rules in
    let kept : h.0.now.refused ≡ false → h.0.now.kept.items ≡ kept_with f.0.now.limit (e.document, pos e.score) f.0.now.kept.items = search rules in
    let answer : after ≡ score_to_pass h.0.now.limit h.0.now.kept.items = search rules in
    let same : h.0.ghost_name ≡ f.0.ghost_name = search rules in (
      λ ok. KeepsBest-entered limit bar after (e.document, pos e.score) f.0.now.kept.items h.0.now.kept.items ranked (now.0 (before ok)) (kept ok
          ∙ ap (λ n. kept_with n (e.document, pos e.score) f.0.now.kept.items) now.1) (answer ∙ ap (λ n. score_to_pass n h.0.now.kept.items) (room ∙ now.1)),
      room ∙ now.1,
      same ∙ now.2,
    ))
    (λ bar f ranked e now low.
    (λ ok. KeepsBest-passed limit bar (e.document, pos e.score) f.0.now.kept.items ranked (now.0 ok) (omega (arith, ints)) low, now.1, now.2))
    es run.2 _ run.3 _ [] (λ _. KeepsBest-none limit _ c.new.result.items c.new.ensures.items threshold, refl, refl) run.4 in
    let callback = c.for_each_pruning.new.callback in
    let best_kept : callback.0.now.refused ≡ false → callback.0.now.kept.items ≡ best limit (pairs es) = λ ok. (kept_all.0 ok).kept
    ∙ ap (take limit) (by_score-pairs es) in
    λ on. search (rules, ap (λ l. best limit (pairs l)) (run.1.scores on))
