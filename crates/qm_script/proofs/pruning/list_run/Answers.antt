-- What was listed, and what the run will still call for, is all that it calls for; the last score that it called for is the
-- threshold that it leaves.
use Rattle.std.proofs.Common.{◌≡◌, ◌++◌, ◌∷◌, [], ◌+◌, ℕ, ℤ, List, Option, Some, true, ap, append-nil, append_assoc, map, of_z, pos, refl, rules, subst, sym, to_z, w64, ◌∙◌}
use mir.Val.{SFits}
use mir.ValLaws.{to_z-of_z}
use Rattle.std.proofs.lemmas.Int.{by_lt_z}
use Rattle.qm_term.specs.RunsFacts.{MayPrune-always, Plain-keeps}
use Rattle.qm_script.specs.AllSegments.{listed}
use Rattle.qm_script.specs.Pruned.{entry_item, rising, threshold_after}
use Rattle.qm_script.specs.Text.{numbered}
use Rattle.qm_script.specs.Written.{ListsSoFar}
use Rattle.qm_weight.specs.Weights.{tree_of}
use Rattle.qm_script.proofs.PrunedParts.{after-called, entries-listed, rising-called, rising-passed}
use Rattle.qm_script.proofs.pruning.list_run.Goals as goal

pub for_each_pruning-requires : goal.for_each_pruning-requires
for_each_pruning-requires c = record { allowed = λ es is. search (rules, MayPrune-always) }

pub returns-clause-run : goal.returns-clause-run
returns-clause-run c =
    let run = c.in_ok-for_each_pruning.ensures.calls in
    let es = run.0 in
    let old = c.args.listing.now in
    let n = old.first in
    let s = c.args.segment.now.segment in
    let tree = tree_of c.args.weight.now in
    let begun = to_z w64 (of_z w64 c.args.threshold) in
    let all = rising begun (numbered n (map entry_item es)) in
    let same = to_z-of_z w64 c.args.threshold c.ranges.threshold in
    let kept = Plain-keeps _ (λ first bar f left. ((done : List (ℕ × Option ℤ)) × ((items : List (ℕ × Option ℤ)) → ListsSoFar items old →
    ListsSoFar (items ++ done) f.0.now) × (done ++ rising bar (numbered n (map entry_item left)) ≡ all) × (threshold_after begun done ≡ bar))
    × (f.0.now.first ≡ n) × (f.1.now ≡ bar) × SFits w64 f.1.now × (f.0.ghost_name ≡ first.0.ghost_name) × (f.1.ghost_name ≡ first.1.ghost_name)) _
    (λ bar after f h e left now turn. by_lt_z bar (pos e.score)
    (λ above.
    let made = turn.called above in
    let so_far = now.0 in
    let item : ℕ × Option ℤ = (n + e.document, Some (pos e.score)) in
    let first : h.0.now.first ≡ f.0.now.first = search rules in
    let answer : after ≡ pos e.score = search rules in
    let stored : h.1.now ≡ pos e.score = search rules in
    let same : h.0.ghost_name ≡ f.0.ghost_name = search rules in
    let same_left : h.1.ghost_name ≡ f.1.ghost_name = search rules in (
      (
        so_far.0 ++ item ∷ [],
        λ items is.
            let more : ListsSoFar ((items ++ so_far.0) ++ (f.0.now.first + e.document, Some (pos e.score)) ∷ []) h.0.now =
            search (rules, so_far.1 items is) in
            subst (λ l. ListsSoFar l h.0.now) (ap (λ k. (items ++ so_far.0) ++ (k + e.document, Some (pos e.score)) ∷ []) now.1
            ∙ append_assoc items so_far.0 (item ∷ [])) more,
        ap (λ t. (so_far.0 ++ item ∷ []) ++ rising t (numbered n (map entry_item left))) answer
            ∙ rising-called bar (pos e.score) (n + e.document) so_far.0 (numbered n (map entry_item left)) above ∙ so_far.2,
        after-called begun (pos e.score) (n + e.document) so_far.0 ∙ sym answer,
      ),
      first ∙ now.1,
      stored ∙ sym answer,
      subst (λ z. SFits w64 z) (answer ∙ sym stored) made.0,
      same ∙ now.4,
      same_left ∙ now.5,
    ))
    (λ low.
    let kept = turn.same_callback low in
    let so_far = now.0 in
    let bars = turn.same_threshold low in (
      (
        so_far.0,
        λ items is. subst (λ k. ListsSoFar (items ++ so_far.0) k.0.now) (sym kept) (so_far.1 items is),
        ap (λ t. so_far.0 ++ rising t (numbered n (map entry_item left))) bars
            ∙ ap (λ l. so_far.0 ++ l) (rising-passed bar (pos e.score) (n + e.document) (numbered n (map entry_item left)) low) ∙ so_far.2,
        so_far.3 ∙ sym bars,
      ),
      ap (λ k. k.0.now.first) kept ∙ now.1,
      ap (λ k. k.1.now) kept ∙ now.2 ∙ sym bars,
      subst (λ k. SFits w64 k.1.now) (sym kept) now.3,
      ap (λ k. k.0.ghost_name) kept ∙ now.4,
      ap (λ k. k.1.ghost_name) kept ∙ now.5,
    )))
    es run.2 _ run.3 _ (
      ([], λ items is. subst (λ t. ListsSoFar t old) (sym (append-nil items)) is, refl, refl),
      refl,
      refl,
      subst (λ z. SFits w64 z) (sym same) c.ranges.threshold,
      refl,
      refl,
    ) run.4 in
    let callback = c.for_each_pruning.new.callback in
    let done = kept.0 in
    let found : done.0 ≡ rising c.args.threshold (listed true tree n s) =
    sym (append-nil done.0) ∙ done.2 ∙ ap (λ t. rising t (numbered n (map entry_item es))) same
    ∙ ap (λ l. rising c.args.threshold (numbered n (map entry_item l))) (run.1.scores c.requires.scoring)
    ∙ ap (rising c.args.threshold) (entries-listed tree n s) in
    let called : (items : List (ℕ × Option ℤ)) → ListsSoFar items old → ListsSoFar (items ++ rising c.args.threshold (listed true tree n s)) callback.0.now =
    λ items is. subst (λ l. ListsSoFar (items ++ l) callback.0.now) found (done.1 items is) in
    let left : to_z w64 (of_z w64 callback.1.now) ≡ threshold_after c.args.threshold (rising c.args.threshold (listed true tree n s)) =
    to_z-of_z w64 callback.1.now kept.3 ∙ kept.2 ∙ sym done.3 ∙ ap (λ t. threshold_after t done.0) same ∙ ap (threshold_after c.args.threshold) found in
    let names = kept.4 in
    let names_left = kept.5 in
    record { called = λ items is. search (rules, called items is); left_is = search (rules, left) }
