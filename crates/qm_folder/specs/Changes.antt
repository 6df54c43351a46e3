-- What has changed between the files that an index has kept and those that are found.
use Rattle.std.specs.Prelude.{ℕ, ◌+◌, ◌==◌, ◌&&◌, Bool, if◌then◌else◌, List, [], ◌∷◌}
use Rattle.std.specs.List.{list_any}
use Rattle.std.specs.Str.{bytes_eq}
use Rattle.qm_folder.specs.Names.{Name}
use Rattle.qm_folder.specs.declared.file_stamp.FileStamp.{FileStamp}
use Rattle.qm_folder.specs.declared.found_file.FoundFile.{FoundFile}
use Rattle.qm_folder.specs.declared.kept_file.KeptFile.{KeptFile}

-- the path of a kept file
abbrev pub kept_path : KeptFile → Name
kept_path k = k.path.items

-- the path of a found file
abbrev pub found_path : FoundFile → Name
found_path f = f.path.items

-- whether two stamps are the same
abbrev pub same_stamp : FileStamp → FileStamp → Bool
same_stamp s t = (s.size == t.size) && (s.bytes_changed == t.bytes_changed) && (s.changed == t.changed) && (s.inode == t.inode)

-- whether a found file has the path of a kept one, and the stamp under which that was read
abbrev pub is_as_read : KeptFile → FoundFile → Bool
is_as_read k f = bytes_eq (kept_path k) (found_path f) && same_stamp k.stamp f.stamp

-- whether a kept file stays: it is settled, and its path is found with the stamp under which it was read
unfoldable pub stays : List FoundFile → KeptFile → Bool
stays found k = k.settled && list_any (is_as_read k) found

-- whether a kept file that stays has the path of a found one
unfoldable pub is_kept : List KeptFile → List FoundFile → FoundFile → Bool
is_kept kept found f = list_any (λ k. stays found k && bytes_eq (kept_path k) (found_path f)) kept

-- the places, from a number on, of the elements that don't pass a test
abbrev pub places_left : {X : Type 0} → (X → Bool) → ℕ → List X → List ℕ
places_left p n [] = []
places_left p n (x ∷ xs) = if p x then places_left p (n + 1) xs else n ∷ places_left p (n + 1) xs

-- the places of the kept files that don't stay
unfoldable pub gone : List KeptFile → List FoundFile → List ℕ
gone kept found = places_left (stays found) 0 kept

-- the places of the found files that no kept file stays for
unfoldable pub to_read : List KeptFile → List FoundFile → List ℕ
to_read kept found = places_left (is_kept kept found) 0 found
