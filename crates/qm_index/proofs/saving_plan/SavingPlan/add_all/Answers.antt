use Rattle.std.proofs.Common.{◌≡◌, ◌+◌, ◌<◌, ◌++◌, ◌∷◌, [], IsOk, ap, arith, get_or, length, rules, subst, sym, take, vec_len, ◌∙◌}
use Rattle.std.specs.Prelude.{IfSome}
use Rattle.std.proofs.Math.ListN.{get_or-map}
use Rattle.std.proofs.lemmas.List.{length-map, take_more}
use Rattle.qm_postings.specs.Reading.{Reader}
use Rattle.qm_index.specs.Parts.{segments_of}
use Rattle.qm_index.specs.SavedIndex.{AreHeld, HaveNothingNew, IsAddedTo, WasHeld}
use Rattle.qm_index.proofs.SavingSteps.{fewer-added, held-more, nothing-new-at, nothing-new-more, were-at}
use Rattle.qm_index.proofs.saving_plan.SavingPlan.add_all.Goals as goal

pub loop-place-preserved : goal.loop-place-preserved
loop-place-preserved c =
    let self = c.loop-place.self in
    let after = c.add_changes.new.self in
    let readers = c.args.segments.now in
    let ss = segments_of readers in
    let place = c.loop-place.place in
    let reader = c.index-segments-place.result in
    let kept = c.in_ok-kept.kept in
    let inside : place < length readers = search rules in
    let own : get_or ss place reader.segment ≡ reader.segment = get_or-map (λ (r : Reader). r.segment) readers place reader ∙ ap (λ (r : Reader). r.segment) (sym c.index-segments-place.is) in
    let next : take (place + 1) ss ≡ take place ss ++ reader.segment ∷ [] =
    take_more ss place reader.segment (omega (arith, inside, length-map readers (λ (r : Reader). r.segment))) ∙ ap (λ s. take place ss ++ s ∷ []) own in
    let ok : IsOk c.push.result = search rules in
    let pushed : c.push.new.self.items ≡ after.segments.items ++ kept ∷ [] = rw ok at c.push.ensures.items in
    let all : c.push.new.self.items ≡ self.segments.items ++ kept ∷ [] = pushed ∙ ap (λ v. v.items ++ kept ∷ []) c.add_changes.ensures.segments in
    let longer : vec_len c.push.new.self ≡ vec_len after.segments + 1 = rw ok at c.push.ensures.len in
    let few : place < length ss = omega (arith, inside, length-map readers (λ (r : Reader). r.segment)) in
    record {
      all = subst (HaveNothingNew c.push.new.self.items) (sym next)
          (subst (λ ks. HaveNothingNew ks (take place ss ++ reader.segment ∷ [])) (sym all)
          (nothing-new-more self.segments.items (take place ss) kept reader.segment c.loop-place.invariant.all c.in_ok-kept.ensures.counted));
      idle = λ have.
          let k = nothing-new-at c.args.before.now ss place reader.segment have few own in
          let before = subst (λ b. IfSome b (λ k. k.deleted ≡ length reader.segment.deleted → after.next ≡ self.next))
          (c.saved_at.ensures ∙ k.1) c.add_changes.ensures.idle in
          before k.2 ∙ c.loop-place.invariant.idle have;
      count = omega (arith, longer, ap (λ v. vec_len v) c.add_changes.ensures.segments, c.loop-place.invariant.count);
      first = c.add_changes.ensures.first ∙ c.loop-place.invariant.first;
      in_order = c.in_ok-kept.ensures.in_order;
      held = λ old c' were added.
          let before = subst (λ n. IsAddedTo n self.files.items old c') c.add_changes.ensures.first
          (fewer-added after.first self.files.items after.files.items old c' c.in_ok-kept.ensures.more added) in
          let was = were-at old c.args.before.now ss place reader.segment were (omega (arith, inside, length-map readers (λ (r : Reader). r.segment))) own in
          let prior = c.loop-place.invariant.held old c' were before in
          subst (AreHeld c' c.push.new.self.items) (sym next)
          (subst (λ ks. AreHeld c' ks (take place ss ++ reader.segment ∷ [])) (sym all)
          (held-more c' self.segments.items (take place ss) kept reader.segment prior (c.in_ok-kept.ensures.holds old c' (subst (λ b. IfSome b (λ k. WasHeld old k reader.segment)) (sym c.saved_at.ensures) was) added)));
    }
