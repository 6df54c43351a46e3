-- What the calls of a folder do to it, and to what a crash may leave.
use Rattle.std.specs.Prelude.{◌<◌, ◌≡◌, ◌⊎◌, ℕ, ◌≤◌, false, List, [], ◌∷◌, None, Some, Result, IsErrOf}
use Rattle.qm_folder.specs.Names.{Name, is_among}
use Rattle.qm_folder.specs.Disk.{Disk, Content, Contents, CouldLeave}
use Rattle.qm_folder.specs.declared.folder_error.FolderError.{FolderError}
use Rattle.qm_folder.specs.declared.folder_error.FolderError.TheVariants.{Failed}

-- Nothing has changed but under these names: elsewhere the same is seen, what was written is so, and a crash leaves nothing
-- that it might not have left before.
pub record KeepsBut (names : List Name) (old new : Disk) : Type 0 where
  pub seen : (n : Name) → is_among names n ≡ false → new.seen n ≡ old.seen n
  pub leaves : (n : Name) (c : Content) → is_among names n ≡ false → new.may_leave n c → old.may_leave n c
  pub written : (n : Name) → is_among names n ≡ false → old.written n → new.written n

-- a file with these bytes stands under the name
abbrev pub Stands : Name → List ℕ → Disk → Type 0
Stands n bytes d = d.seen n ≡ Some bytes

-- of what is written, a crash leaves what is seen
abbrev pub LeavesWritten : Disk → Disk → Type 0
LeavesWritten old new = (n : Name) (c : Content) → old.written n → new.may_leave n c → c ≡ new.seen n

-- the file of a name has moved to another
pub record IsRenamed (source target : Name) (old new : Disk) : Type 0 where
  pub there : new.seen target ≡ old.seen source
  pub away : new.seen source ≡ None
  pub moved : old.written source → new.written target
  pub gone : new.written source

-- A file is about to move to another name, or has moved: under each of the two a crash leaves what it might have left
-- before or after.
pub record MayRename (source target : Name) (old new : Disk) : Type 0 where
  pub others : KeepsBut (source ∷ target ∷ []) old new
  pub target_seen : (new.seen target ≡ old.seen target) ⊎ (new.seen target ≡ old.seen source)
  pub source_seen : (new.seen source ≡ old.seen source) ⊎ (new.seen source ≡ None)
  pub target_left : (c : Content) → new.may_leave target c → old.may_leave target c ⊎ old.may_leave source c
  pub source_left : (c : Content) → new.may_leave source c → old.may_leave source c ⊎ (c ≡ None)

-- nothing stands under the name, and nothing of it is to be written
pub record IsRemoved (name : Name) (new : Disk) : Type 0 where
  pub away : new.seen name ≡ None
  pub gone : new.written name

-- a file is about to be removed, or it is
pub record MayRemove (name : Name) (old new : Disk) : Type 0 where
  pub others : KeepsBut (name ∷ []) old new
  pub seen : (new.seen name ≡ old.seen name) ⊎ (new.seen name ≡ None)
  pub left : (c : Content) → new.may_leave name c → old.may_leave name c ⊎ (c ≡ None)

-- Time goes on: a crash since t might have left what it might have left before, or what it may leave now.
pub record Elapses (old new : Disk) : Type 0 where
  pub later : old.moment ≤ new.moment
  pub nothing_else : (t : ℕ) (c : Contents) → t ≤ old.moment → new.left_since t c → old.left_since t c ⊎ CouldLeave new c
  pub keeps : (t : ℕ) (c : Contents) → t ≤ old.moment → old.left_since t c → new.left_since t c

-- `Failed` is told only where the folder has failed since
pub record HasCause {T : Type 0} (old new : Disk) (result : Result T FolderError) : Type 0 where
  pub later : old.faults ≤ new.faults
  pub failed : IsErrOf result Failed → old.faults < new.faults
