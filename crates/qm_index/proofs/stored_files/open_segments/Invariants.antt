-- The segments so far are those that the folder holds, and nothing of it has changed.
use Rattle.std.proofs.Common.{◌≡◌, [], All, List, take, vec_len}
use Rattle.qm_folder.specs.Calls.{KeepsBut}
use Rattle.qm_postings.specs.Segment.{Segment}
use Rattle.qm_index.specs.Numbers.{AreOf}
use Rattle.qm_index.specs.Parts.{segments_of}
use Rattle.qm_index.specs.SavedIndex.{AreHeld}
use Rattle.qm_index.proofs.stored_files.open_segments.Given as goal

abbrev pub invariant-loop-place : goal.invariant-loop-place
invariant-loop-place g l = record {
  opened : g.F.Folder.is_told → (ss : List Segment) → All (λ s. s.schema ≡ l.schema) ss → AreHeld (g.F.Folder.disk l.fn.folder).seen l.kept ss →
      segments_of l.segments.items ≡ take l.place ss;
  alike : AreOf l.schema l.segments.items;
  count : vec_len l.segments ≡ l.place;
  kept : g.F.Folder.is_told → KeepsBut [] (g.F.Folder.disk l.fn.folder) (g.F.Folder.disk l.folder);
}
