-- A folder of named files at a moment, and what a crash may leave of it.
use Rattle.std.specs.Prelude.{◌≡◌, ◌⊎◌, ℕ, ◌≤◌, List, Option}
use Rattle.qm_folder.specs.Names.{Name}

-- what stands under a name: the bytes of a file, or nothing
abbrev pub Content : Type 0
Content = Option (List ℕ)

-- what stands under each name
abbrev pub Contents : Type 0
Contents = Name → Content

-- A folder at a moment.
pub record Disk : Type 1 where
  -- what is read of each name
  pub seen : Contents
  -- what a crash at this moment may leave of each name, whatever it leaves of the others
  pub may_leave : Name → Content → Type 0
  -- what stands under the name is on the disk, but perhaps not yet under this name
  pub written : Name → Type 0
  -- a number that doesn't fall
  pub moment : ℕ
  -- what a crash at some moment from that one on might have left
  pub left_since : ℕ → Contents → Type 0
  -- how often the folder has failed
  pub faults : ℕ

-- a crash at this moment may leave this of each name
abbrev pub CouldLeave : Disk → Contents → Type 0
CouldLeave d c = (n : Name) → d.may_leave n (c n)

-- a crash leaves what is seen, and nothing else
abbrev pub IsSettled : Disk → Type 0
IsSettled d = (n : Name) (c : Content) → d.may_leave n c → c ≡ d.seen n

-- A crash at any moment since the old one leaves what has P.
pub record LeavesOnly (old new : Disk) (P : Contents → Type 0) : Type 0 where
  pub later : old.moment ≤ new.moment
  pub each : (c : Contents) → new.left_since old.moment c → P c
  -- for a run that began earlier
  pub before : (t : ℕ) (c : Contents) → t ≤ old.moment → new.left_since t c → old.left_since t c ⊎ P c
