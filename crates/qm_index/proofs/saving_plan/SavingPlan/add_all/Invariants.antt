-- Of the segments so far each is held with the new files.
use Rattle.std.proofs.Common.{◌≡◌, take, vec_len}
use Rattle.qm_folder.specs.Disk.{Contents}
use Rattle.qm_folder.specs.Names.{file_names}
use Rattle.qm_index.specs.FileNames.{AreNumbered}
use Rattle.qm_index.specs.Parts.{segments_of}
use Rattle.qm_index.specs.SavedIndex.{AreHeld, HaveNothingNew, IsAddedTo, WereHeld}
use Rattle.qm_index.proofs.saving_plan.SavingPlan.add_all.Given as goal

abbrev pub invariant-loop-place : goal.invariant-loop-place
invariant-loop-place l = record {
  first : l.self.first ≡ l.fn.self.first;
  count : vec_len l.self.segments ≡ l.place;
  in_order : AreNumbered l.self.first (file_names l.self.files.items) l.self.next;
  held : (old c : Contents) → WereHeld old l.before (segments_of l.segments) → IsAddedTo l.self.first l.self.files.items old c →
      AreHeld c l.self.segments.items (take l.place (segments_of l.segments));
  all : HaveNothingNew l.self.segments.items (take l.place (segments_of l.segments));
  idle : HaveNothingNew l.before (segments_of l.segments) → l.self.next ≡ l.fn.self.next;
}
