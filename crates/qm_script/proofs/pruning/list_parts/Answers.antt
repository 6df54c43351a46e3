use Rattle.std.proofs.Common.{◌≡◌, ◌∙◌, ◌+◌, ◌++◌, ap, map, drop, true, of_z, to_z, w64, append_assoc, subst, rules, arith}
use mir.ValLaws.{to_z-of_z}
use Rattle.std.proofs.lemmas.Grind.{common_steps}
use Rattle.qm_script.specs.AllSegments.{listed}
use Rattle.qm_script.specs.Parts.{document_count}
use Rattle.qm_script.specs.Pruned.{parts_pruned, rising, threshold_after}
use Rattle.qm_script.specs.Written.{ListsSoFar}
use Rattle.qm_weight.specs.Weights.{tree_of}
use Rattle.qm_script.proofs.OverParts.{count-on}
use Rattle.qm_script.proofs.PrunedParts.{part-next}
use Rattle.qm_script.proofs.pruning.list_parts.Goals as goal

pub loop-part-preserved : goal.loop-part-preserved
loop-part-preserved c =
    let tree = tree_of c.args.weight.now in
    let threshold = to_z w64 c.loop-part.left-bits in
    let readers = c.args.parts.now in
    let i = c.loop-part.part-index in
    let item = c.part-item.result in
    let first = c.loop-part.next in
    let so_far = c.loop-part.invariant.listed in
    let here = rising threshold (listed true tree first item.segment) in
    let told = c.in_ok-left.ensures in
    let begun = c.begin_segment.ensures.first in
    let number = c.from-next.ensures ∙ c.max_doc.ensures.number in
    let same : to_z w64 (of_z w64 c.in_ok-left.left) ≡ c.in_ok-left.left =
    first_of (search rules, search (rules, to_z-of_z w64), grind (arith, common_steps)) in
    record {
      room = count-on true tree readers i item c.loop-part-test.true c.part-item.is first c.from-next.result
          (c.args.first + document_count (map (λ r. r.segment) readers)) number c.loop-part.invariant.room;
      listed = (
        so_far.0 ++ here,
        λ items is. subst (λ l. ListsSoFar l c.list_run.new.listing)
            (ap (λ n. (items ++ so_far.0) ++ rising threshold (listed true tree n item.segment)) begun ∙ append_assoc items so_far.0 here)
            (told.run.called (items ++ so_far.0) (c.begin_segment.ensures.kept (items ++ so_far.0) (so_far.1 items is))),
        ap (λ t. (so_far.0 ++ here) ++ parts_pruned t tree (first + c.from-next.result) (map (λ r. r.segment) (drop (i + 1) readers))) (same ∙ told.run.left_is ∙ ap (λ n. threshold_after threshold (rising threshold (listed true tree n item.segment))) begun)
            ∙ part-next threshold tree readers i item c.loop-part-test.true c.part-item.is so_far.0
            (parts_pruned (to_z w64 (of_z w64 c.args.threshold)) tree c.args.first (map (λ r. r.segment) readers)) first c.from-next.result number so_far.2,
      );
    }
