-- The last number is that of no file so far, or above it.
use Rattle.std.proofs.Common.{◌+◌, ◌≤◌, All, take}
use Rattle.qm_index.specs.SavedFiles.{IsNumberedBelow}
use Rattle.qm_index.proofs.stored_files.next_number.Given as goal

abbrev pub invariant-loop-place : goal.invariant-loop-place
invariant-loop-place l = record {
  above : All (IsNumberedBelow (l.last + 1)) (take l.place l.kept);
  small : All (IsNumberedBelow 18446744073709551615) l.kept → l.last + 1 ≤ 18446744073709551615;
}
