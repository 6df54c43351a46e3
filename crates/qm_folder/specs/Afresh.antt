-- What an index of files has behind its changes: what one has that is made afresh of all files.
use Rattle.std.specs.Prelude.{not, List, ◌++◌, All, IsTrue, map}
use Rattle.std.specs.List.{IsDistinct, filter}
use Rattle.std.specs.List.Sorted.{IsPermutation}
use Rattle.std.specs.Str.{bytes_eq}
use Rattle.qm_folder.specs.Names.{Name}
use Rattle.qm_folder.specs.Changes.{found_path, is_kept, kept_path, stays}
use Rattle.qm_folder.specs.declared.file_stamp.FileStamp.{FileStamp}
use Rattle.qm_folder.specs.declared.found_file.FoundFile.{FoundFile}
use Rattle.qm_folder.specs.declared.kept_file.KeptFile.{KeptFile}

-- A file of an index.
pub record ReadFile : Type 0 where
  -- the bytes of its path
  pub path : Name
  -- the stamp under which it was read
  pub stamp : FileStamp

-- a kept file, as it was read
abbrev pub as_kept : KeptFile → ReadFile
as_kept k = record { path = kept_path k; stamp = k.stamp }

-- a found file, as it is read now
abbrev pub as_found : FoundFile → ReadFile
as_found f = record { path = found_path f; stamp = f.stamp }

-- the kept files that stay
unfoldable pub files_left : List KeptFile → List FoundFile → List KeptFile
files_left kept found = filter (stays found) kept

-- the found files that are read now
unfoldable pub files_read : List KeptFile → List FoundFile → List FoundFile
files_read kept found = filter (λ f. not (is_kept kept found f)) found

-- the files of the new index: those that stay, and those that are read now
abbrev pub files_after : List KeptFile → List FoundFile → List ReadFile
files_after kept found = map as_kept (files_left kept found) ++ map as_found (files_read kept found)

-- The new index has what one has that is made afresh.
pub record IsAfresh (kept : List KeptFile) (found : List FoundFile) : Type 0 where
  -- its files are those that are found, in another order, each under the stamp that it has now
  pub files : IsPermutation (map as_found found) (files_after kept found)
  -- no path stands twice in it, so each file either stays or is read now
  pub once : IsDistinct bytes_eq (map (λ it. it.path) (files_after kept found))
  -- and only one that was settled stays
  pub settled : All (λ k. IsTrue k.settled) (files_left kept found)
