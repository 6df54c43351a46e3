use Rattle.std.proofs.Common.{◌∙◌, map, subst, ◌++◌}
use Rattle.qm_script.specs.AllSegments.{all_listed, listed}
use Rattle.qm_script.specs.Written.{ListsSoFar}
use Rattle.qm_weight.specs.Weights.{tree_of}
use Rattle.qm_script.proofs.OverParts.{count-next, listed-next}
use Rattle.qm_script.proofs.matching.list_all.Goals as goal

pub loop-segment-preserved : goal.loop-segment-preserved
loop-segment-preserved c =
    let tree = tree_of c.args.weight.now in
    let readers = c.args.segments.now in
    let i = c.loop-segment.segment-index in
    let item = c.segment-item.result in
    let first = c.loop-segment.first in
    let so_far = c.loop-segment.invariant.listed in
    let found = listed c.args.is_scored tree first item.segment in
    let number = c.from-first.ensures ∙ c.max_doc.ensures.number in
    record {
      room = count-next c.args.is_scored tree readers i item c.loop-segment-test.true
          c.segment-item.is first c.from-first.result number c.loop-segment.invariant.room;
      listed = (
        so_far.0 ++ found,
        subst (λ n. ListsSoFar (so_far.0 ++ listed c.args.is_scored tree n item.segment) c.list_segment.new.listing) c.begin_segment.ensures.first
            (c.in_ok-list_segment.ensures.listed so_far.0 (c.begin_segment.ensures.kept so_far.0 so_far.1)),
        listed-next c.args.is_scored tree readers i item c.loop-segment-test.true
            c.segment-item.is so_far.0 (all_listed c.args.is_scored tree (map (λ r. r.segment) readers)) first c.from-first.result number so_far.2,
      );
    }
