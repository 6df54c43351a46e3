-- The files of the segments before this place are there.
use Rattle.std.proofs.Common.{take}
use Rattle.qm_index.specs.Parts.{segments_of}
use Rattle.birchagain_bytes.specs.Bytes.{ArePacked}
use Rattle.birchagain_bytes.proofs.index_files.pack_segments.Given as goal

abbrev pub invariant-loop-place : goal.invariant-loop-place
invariant-loop-place l = ArePacked l.known l.kept.items (take l.place (segments_of l.segments)) l.fn.out.items l.out.items
