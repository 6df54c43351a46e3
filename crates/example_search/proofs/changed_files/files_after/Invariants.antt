use Rattle.std.proofs.Common.{◌≡◌, ◌++◌, drop, map}
use Rattle.std.specs.List.{filter}
use Rattle.qm_folder.specs.Afresh.{as_found, as_kept, files_after, files_left}
use Rattle.qm_folder.specs.Changes.{places_left, stays}
use Rattle.example_search.proofs.ListedPlaces.{elements_at}
use Rattle.example_search.proofs.changed_files.files_after.Given as goal

abbrev pub invariant-loop-place : goal.invariant-loop-place
invariant-loop-place l = record {
  places : drop l.next l.changed.gone.items ≡ places_left (stays l.fn.found) l.place (drop l.place l.kept);
  left : map as_kept l.files.items ++ map as_kept (filter (stays l.fn.found) (drop l.place l.kept)) ≡ map as_kept (files_left l.kept l.fn.found);
}

abbrev pub invariant-loop-place-2 : goal.invariant-loop-place-2
invariant-loop-place-2 l = map as_kept l.files.items ++ map as_found (elements_at (drop l.place-index l.place-items) l.found) ≡ files_after l.fn.kept l.found
