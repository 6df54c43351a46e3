use Rattle.std.proofs.Common.{[], arith, subst, sym}
use Rattle.std.specs.Prelude.{All}
use Rattle.std.proofs.lemmas.List.{take_all, take_more}
use Rattle.std.proofs.lemmas.List.Elements.{All-append, All-cons, All-nil}
use Rattle.qm_store.specs.Manifest.{IsKeptSegment, segment_bytes}
use Rattle.qm_store.proofs.ItemSteps.{written-next}
use Rattle.qm_store.proofs.written_manifest.push_segments.Goals as goal

pub loop-segment-preserved : goal.loop-segment-preserved
loop-segment-preserved c =
    let at = c.loop-segment in
    record {
      whole = written-next segment_bytes at.out.items _ _ c.args.segments.now at.segment-index _ (omega arith) c.in_ok-push_segment.ensures.added at.invariant.whole;
      segments =
          subst (All IsKeptSegment) (sym (take_more c.args.segments.now at.segment-index _ (omega arith)))
          (All-append IsKeptSegment _ _ at.invariant.segments (All-cons IsKeptSegment _ [] c.in_ok-push_segment.ensures.kept (All-nil IsKeptSegment)));
    }

pub returns-clause-segments : goal.returns-clause-segments
returns-clause-segments c =
    let at = c.loop-segment in
    subst (All IsKeptSegment) (take_all at.segment-index c.args.segments.now (omega arith)) at.invariant.segments
