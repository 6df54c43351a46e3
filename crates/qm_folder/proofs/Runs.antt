-- Runs of calls that change what stands under some names alone.
use Rattle.std.proofs.Common.{◌≡◌, inl, inr, ℕ, ◌+◌, ◌<◌, ◌≤◌, true, false, List, [], ◌∷◌, length, get_or, map, refl, sym, ◌∙◌, ap, subst, arith}
use Rattle.std.proofs.lemmas.Bool.{cases_Bool, cases_lt}
use Rattle.std.proofs.lemmas.List.{get_or_default}
use Rattle.qm_folder.specs.Names.{Name, is_among}
use Rattle.qm_folder.specs.Disk.{Disk, Contents, CouldLeave, IsSettled, LeavesOnly}
use Rattle.qm_folder.specs.Calls.{Elapses, KeepsBut, LeavesWritten}
use Rattle.qm_folder.specs.Steps.{IsLeftBut}
use Rattle.qm_folder.proofs.Moments.{joined, one_call, weakened}
use Rattle.qm_folder.proofs.NameLists.{name_at, differs_from, not_alone}

-- nothing changes but under these names, at any moment
pub record Run (names : List Name) (old new : Disk) : Type 0 where
  pub kept : KeepsBut names old new
  pub left : LeavesOnly old new (IsLeftBut names old)

-- what leaves some names out leaves fewer out
abbrev pub Covers : List Name → List Name → Type 0
Covers more fewer = (n : Name) → is_among more n ≡ false → is_among fewer n ≡ false

-- since this moment there is no other
abbrev pub IsNow : Disk → Type 0
IsNow d = (c : Contents) → d.left_since d.moment c → CouldLeave d c

-- a run under a name that is this one
pub under : (n m : Name) (old new : Disk) → n ≡ m → KeepsBut (n ∷ []) old new → LeavesOnly old new (IsLeftBut (n ∷ []) old) → Run (m ∷ []) old new
under n m old new same kept left = subst (λ (x : Name). Run (x ∷ []) old new) same (record { kept = kept; left = left })

pub call : (names : List Name) (old new : Disk) → IsNow old → KeepsBut names old new → Elapses old new → Run names old new
call names old new now kept time = record {
  kept = kept;
  left = one_call old new (IsLeftBut names old) (λ c left n other. now c left n) time (λ c left n other. kept.leaves n (c n) other (left n));
}

-- before any call
pub still : (names : List Name) (d : Disk) → IsNow d → Run names d d
still names d now = record {
  kept = record { seen = λ n other. refl; leaves = λ n c other left. left; written = λ n other is. is };
  left = record { later = omega arith; each = λ c left n other. now c left n; before = λ t c le left. inl left };
}

pub keeps_joined : (xs ys zs : List Name) (old mid new : Disk) → KeepsBut xs old mid → KeepsBut ys mid new → Covers zs xs → Covers zs ys → KeepsBut zs old new
keeps_joined xs ys zs old mid new first second covers_first covers_second = record {
  seen = λ n other. second.seen n (covers_second n other) ∙ first.seen n (covers_first n other);
  leaves = λ n c other left. first.leaves n c (covers_first n other) (second.leaves n c (covers_second n other) left);
  written = λ n other is. second.written n (covers_second n other) (first.written n (covers_first n other) is);
}

pub then_run : (xs ys zs : List Name) (old mid new : Disk) → Run xs old mid → Run ys mid new → Covers zs xs → Covers zs ys → Run zs old new
then_run xs ys zs old mid new first second covers_first covers_second = record {
  kept = keeps_joined xs ys zs old mid new first.kept second.kept covers_first covers_second;
  left =
      joined old mid new (IsLeftBut zs old) (IsLeftBut ys mid)
      (weakened old mid (IsLeftBut xs old) (IsLeftBut zs old) first.left (λ c left n other. left n (covers_first n other)))
      second.left
      (λ c left n other. first.kept.leaves n (c n) (covers_first n other) (left n (covers_second n other)));
}

-- A folder in which nothing waited for the disk, and then what has changed was written: once the names are synced, nothing
-- waits for the disk.
pub settles : (names : List Name) (old mid new : Disk) → IsSettled old → KeepsBut names old mid → ((n : Name) → is_among names n ≡ true → mid.written n) → KeepsBut [] mid new → LeavesWritten mid new → IsSettled new
settles names old mid new settled kept written quiet durable = λ n c left. elim (cases_Bool (is_among names n)) [
  | inl changed ↦ durable n c (written n changed) left
  | inr other ↦ settled n c (kept.leaves n c other (quiet.leaves n c refl left)) ∙ sym (quiet.seen n refl ∙ kept.seen n other)
]

-- one element of a list after another: the first so many are done
pub record HasDone {X : Type 0} (name : X → Name) (Q : X → Disk → Type 0) (xs : List X) (count : ℕ) (old new : Disk) : Type 0 where
  pub run : Run (map name xs) old new
  pub done : (k : ℕ) (d : X) → k < count → Q (get_or xs k d) new
  pub faults : old.faults ≤ new.faults

pub none_done : {X : Type 0} (name : X → Name) (Q : X → Disk → Type 0) (xs : List X) (d : Disk) → IsNow d → HasDone name Q xs 0 d d
none_done name Q xs d now = record { run = still (map name xs) d now; done = λ k e lt. absurd (omega arith); faults = omega arith }

-- the next, whether it is done or not
pub next_run : {X : Type 0} (name : X → Name) (Q : X → Disk → Type 0) (xs : List X) (i : ℕ) (x : X) (old mid new : Disk) → HasDone name Q xs i old mid → i < length xs → x ≡ get_or xs i x → Run (name x ∷ []) mid new → Run (map name xs) old new
next_run {X} name Q xs i x old mid new so_far in_range is step =
    then_run (map name xs) (name x ∷ []) (map name xs) old mid new so_far.run step
    (λ n other. other) (λ n other. not_alone n (name x) (differs_from (map name xs) n (name x) among other))
  where
    among : is_among (map name xs) (name x) ≡ true
    among = subst (λ (y : X). is_among (map name xs) (name y) ≡ true) (sym is) (name_at name xs i x in_range)

-- the next is done
pub next_done : {X : Type 0} (name : X → Name) (Q : X → Disk → Type 0) (xs : List X) (i : ℕ) (x : X) (old mid new : Disk) → HasDone name Q xs i old mid → i < length xs → x ≡ get_or xs i x → Run (name x ∷ []) mid new → mid.faults ≤ new.faults
    → Q x new → ((k : ℕ) (d : X) → k < i → Q (get_or xs k d) mid → Q (get_or xs k d) new) → HasDone name Q xs (i + 1) old new
next_done {X} name Q xs i x old mid new so_far in_range is step faults here stays = record {
  run = next_run name Q xs i x old mid new so_far in_range is step;
  done = λ k d lt. elim (cases_lt k i) [
    | inl earlier ↦ stays k d earlier (so_far.done k d earlier)
    | inr last ↦ subst (λ (y : X). Q y new) (is ∙ get_or_default xs i x d in_range ∙ at_last k d (omega arith)) here
  ];
  faults = omega (arith, so_far.faults, faults);
}
  where
    at_last : (k : ℕ) (d : X) → i ≡ k → get_or xs i d ≡ get_or xs k d
    at_last k d last = ap (λ (j : ℕ). get_or xs j d) last
