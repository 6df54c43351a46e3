-- A folder in memory: the calls that it has had, the last first, and what they make of it.
use Rattle.std.specs.Prelude.{◌≡◌, ◌⊎◌, ℕ, ◌+◌, ◌≤◌, ◌&&◌, ◌||◌, not, Bool, true, false, if◌then◌else◌, List, [], ◌∷◌, length, Option, None, Some, is_some, Result, Ok, Err, MatchResult, String, Vec}
use Rattle.std.specs.Str.{bytes_eq}
use Rattle.std.specs.String.{string_bytes}
use Rattle.std.proofs.Math.Nat.{lt_irrefl}
use mathlib.Core.Logic.{inl, inr}
use Rattle.std.specs.declared.alloc.Global.{Global}
use Rattle.std.specs.declared.alloc.AllocError.{AllocError}
use Rattle.qm_folder.specs.Names.{Name, is_among}
use Rattle.qm_folder.specs.Disk.{Content, Contents, Disk}
use Rattle.qm_folder.specs.declared.folder_error.FolderError.{FolderError}
use Rattle.qm_folder.specs.declared.folder_error.FolderError.TheVariants.{Memory, Failed as FolderFailed}
use Rattle.qm_folder.specs.declared.memory_call.MemoryCall.{MemoryCall}
use Rattle.qm_folder.specs.declared.memory_call.MemoryCall.TheVariants.{Wrote, Tore, Synced, SyncedNames, Renamed, Removed, Looked, Failed}

-- what stands under a name
abbrev pub seen_after : List MemoryCall → Contents
seen_after [] n = None
seen_after (Wrote name bytes ∷ past) n = if bytes_eq n (string_bytes name) then Some bytes.items else seen_after past n
seen_after (Tore name bytes ∷ past) n = if bytes_eq n (string_bytes name) then Some bytes.items else seen_after past n
seen_after (Synced name ∷ past) n = seen_after past n
seen_after (SyncedNames ∷ past) n = seen_after past n
seen_after (Renamed source target ∷ past) n = if bytes_eq n (string_bytes target) then seen_after past (string_bytes source) else (if bytes_eq n (string_bytes source) then None else seen_after past n)
seen_after (Removed name ∷ past) n = if bytes_eq n (string_bytes name) then None else seen_after past n
seen_after (Looked ∷ past) n = seen_after past n
seen_after (Failed ∷ past) n = seen_after past n

-- whether what stands under a name is on the disk, but perhaps not under that name
abbrev pub is_written : List MemoryCall → Name → Bool
is_written [] n = true
is_written (Wrote name bytes ∷ past) n = if bytes_eq n (string_bytes name) then false else is_written past n
is_written (Tore name bytes ∷ past) n = if bytes_eq n (string_bytes name) then false else is_written past n
is_written (Synced name ∷ past) n = bytes_eq n (string_bytes name) || is_written past n
is_written (SyncedNames ∷ past) n = is_written past n
is_written (Renamed source target ∷ past) n = if bytes_eq n (string_bytes target) then is_written past (string_bytes source) else (bytes_eq n (string_bytes source) || is_written past n)
is_written (Removed name ∷ past) n = bytes_eq n (string_bytes name) || is_written past n
is_written (Looked ∷ past) n = is_written past n
is_written (Failed ∷ past) n = is_written past n

-- whether two contents are the same
abbrev pub same_content : Content → Content → Bool
same_content None None = true
same_content None (Some b) = false
same_content (Some a) None = false
same_content (Some a) (Some b) = bytes_eq a b

-- Whether a crash may leave this under a name: anything of what was written, until the names are synced after the file;
-- after a rename or a removal what it might have left before, or what there is then.
abbrev pub could_leave : List MemoryCall → Name → Content → Bool
could_leave [] n c = same_content c None
could_leave (Wrote name bytes ∷ past) n c = bytes_eq n (string_bytes name) || could_leave past n c
could_leave (Tore name bytes ∷ past) n c = bytes_eq n (string_bytes name) || could_leave past n c
could_leave (Synced name ∷ past) n c = could_leave past n c
could_leave (SyncedNames ∷ past) n c = (not (is_written past n) || same_content c (seen_after past n)) && could_leave past n c
could_leave (Renamed source target ∷ past) n c =
    (if bytes_eq n (string_bytes target) then could_leave past (string_bytes source) c else (bytes_eq n (string_bytes source) && same_content c None))
    || could_leave past n c
could_leave (Removed name ∷ past) n c = (bytes_eq n (string_bytes name) && same_content c None) || could_leave past n c
could_leave (Looked ∷ past) n c = could_leave past n c
could_leave (Failed ∷ past) n c = could_leave past n c

-- a crash after these calls may leave this of each name
abbrev pub CouldLeaveAll : List MemoryCall → Contents → Type 0
CouldLeaveAll calls c = (n : Name) → could_leave calls n (c n) ≡ true

-- a crash might have left this after the first so many calls, or after one of those since
abbrev pub LeftSince : List MemoryCall → ℕ → Contents → Type 0
LeftSince [] t c = CouldLeaveAll [] c
LeftSince (call ∷ past) t c = CouldLeaveAll (call ∷ past) c ⊎ ((t ≤ length past) × LeftSince past t c)

-- whether a call has failed
abbrev pub has_failed : MemoryCall → Bool
has_failed (Tore name bytes) = true
has_failed Failed = true
has_failed _ = false

-- how many of some calls have failed
abbrev pub failures : List MemoryCall → ℕ
failures [] = 0
failures (call ∷ past) = if has_failed call then failures past + 1 else failures past

-- the folder after these calls
abbrev pub disk_after : List MemoryCall → Disk
disk_after calls = record {
  seen = seen_after calls;
  may_leave = λ n c. could_leave calls n c ≡ true;
  written = λ n. is_written calls n ≡ true;
  moment = length calls;
  left_since = LeftSince calls;
  faults = failures calls;
}

-- this moment is one of those since an earlier one
pub counts_now : (calls : List MemoryCall) (t : ℕ) (c : Contents) → CouldLeaveAll calls c → LeftSince calls t c
counts_now [] t c now = now
counts_now (call ∷ past) t c now = inl now

-- since this moment there is no other
pub only_now : (calls : List MemoryCall) (c : Contents) → LeftSince calls (length calls) c → CouldLeaveAll calls c
only_now [] c left = left
only_now (call ∷ past) c (inl now) = now
only_now (call ∷ past) c (inr earlier) = absurd (lt_irrefl (length past) earlier.0)

-- ---- how a call is kept

-- the call is a write of these bytes under this name
abbrev pub IsWrite : Name → List ℕ → MemoryCall → Type 0
IsWrite name bytes call = (n : String Global) × (b : Vec ℕ Global) × (call ≡ Wrote n b) × (string_bytes n ≡ name) × (b.items ≡ bytes)

-- the call syncs the file of this name
abbrev pub IsSync : Name → MemoryCall → Type 0
IsSync name call = (n : String Global) × (call ≡ Synced n) × (string_bytes n ≡ name)

-- the call gives the file of one name another
abbrev pub IsRename : Name → Name → MemoryCall → Type 0
IsRename source target call = (s : String Global) × (t : String Global) × (call ≡ Renamed s t) × (string_bytes s ≡ source) × (string_bytes t ≡ target)

-- the call removes the file of this name
abbrev pub IsRemoval : Name → MemoryCall → Type 0
IsRemoval name call = (n : String Global) × (call ≡ Removed n) × (string_bytes n ≡ name)

-- what a call becomes that fails: of a write some bytes are there
abbrev pub Fails : MemoryCall → MemoryCall → Type 0
Fails (Wrote name bytes) failed = (b : Vec ℕ Global) × (failed ≡ Tore name b)
Fails _ failed = failed ≡ Failed

-- a call that was refused for want of memory is not kept, and one that has failed is kept as such
abbrev pub Refuses : MemoryCall → List MemoryCall → List MemoryCall → FolderError → Type 0
Refuses call old new error = ((error ≡ Memory) × (new ≡ old)) ⊎ ((error ≡ FolderFailed) × ((failed : MemoryCall) × Fails call failed × (new ≡ failed ∷ old)))

-- a call that there was memory for is kept, or refused
abbrev pub Takes : Result MemoryCall AllocError → List MemoryCall → List MemoryCall → Result (Unit {0}) FolderError → Type 0
Takes (Err e) old new result = (new ≡ old) × (result ≡ Err Memory)
Takes (Ok call) old new result = MatchResult result (λ _. new ≡ call ∷ old) (Refuses call old new)

-- ---- the names under which files stand

-- the name under which a call puts a file
abbrev pub name_given : MemoryCall → Option Name
name_given (Wrote name bytes) = Some (string_bytes name)
name_given (Tore name bytes) = Some (string_bytes name)
name_given (Renamed source target) = Some (string_bytes target)
name_given _ = None

-- a name is added where a file stands under it
abbrev pub IsAdded : Name → List MemoryCall → List Name → List Name → Type 0
IsAdded name calls old new = (n : Name) → is_among new n ≡ (is_among old n || (bytes_eq n name && is_some (seen_after calls n)))
