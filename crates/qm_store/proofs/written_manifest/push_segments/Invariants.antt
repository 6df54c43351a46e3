use Rattle.std.proofs.Common.{◌≡◌, ◌++◌, drop, take}
use Rattle.std.specs.Prelude.{All}
use Rattle.std.specs.List.{flat_map}
use Rattle.qm_store.specs.Manifest.{IsKeptSegment, segment_bytes}
use Rattle.qm_store.proofs.written_manifest.push_segments.Given as goal

abbrev pub invariant-loop-segment : goal.invariant-loop-segment
invariant-loop-segment l = record {
  whole : l.out.items ++ flat_map segment_bytes (drop l.segment-index l.segments) ≡ l.initial.out.items ++ flat_map segment_bytes l.segments;
  segments : All IsKeptSegment (take l.segment-index l.segments);
}
