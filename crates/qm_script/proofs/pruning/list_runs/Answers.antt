use Rattle.std.proofs.Common.{◌∙◌, map, ◌++◌, subst, true, of_z, to_z, w64}
use Rattle.qm_script.specs.AllSegments.{listed}
use Rattle.qm_script.specs.Pruned.{all_pruned, rising}
use Rattle.qm_script.specs.Written.{ListsSoFar}
use Rattle.qm_weight.specs.Weights.{tree_of}
use Rattle.qm_script.proofs.OverParts.{count-next}
use Rattle.qm_script.proofs.PrunedParts.{pruned-next}
use Rattle.qm_script.proofs.pruning.list_runs.Goals as goal

pub loop-segment-preserved : goal.loop-segment-preserved
loop-segment-preserved c =
    let tree = tree_of c.args.weight.now in
    let threshold = to_z w64 (of_z w64 c.args.threshold) in
    let readers = c.args.segments.now in
    let i = c.loop-segment.segment-index in
    let item = c.segment-item.result in
    let first = c.loop-segment.first in
    let so_far = c.loop-segment.invariant.listed in
    let found = rising threshold (listed true tree first item.segment) in
    let number = c.from-first.ensures ∙ c.max_doc.ensures.number in
    record {
      room = count-next true tree readers i item c.loop-segment-test.true c.segment-item.is first c.from-first.result number c.loop-segment.invariant.room;
      listed = (
        so_far.0 ++ found,
        subst (λ n. ListsSoFar (so_far.0 ++ rising threshold (listed true tree n item.segment)) c.list_run.new.listing) c.begin_segment.ensures.first
            (c.in_ok-list_run.ensures.run.called so_far.0 (c.begin_segment.ensures.kept so_far.0 so_far.1)),
        pruned-next threshold tree readers i item c.loop-segment-test.true
            c.segment-item.is so_far.0 (all_pruned threshold tree (map (λ r. r.segment) readers)) first c.from-first.result number so_far.2,
      );
    }
