-- One file after another is written, or removed.
use Rattle.std.proofs.Common.{◌≡◌, inl, inr, ℕ, ◌+◌, ◌<◌, ◌≤◌, false, List, [], ◌∷◌, length, get_or, map, String, sym, ◌∙◌, subst}
use Rattle.std.proofs.lemmas.Bool.{cases_Bool}
use Rattle.std.specs.Str.{bytes_eq}
use Rattle.std.specs.String.{string_bytes}
use Rattle.std.specs.declared.alloc.Global.{Global}
use Rattle.qm_folder.specs.Names.{AreDistinct, Name, file_name, file_names}
use Rattle.qm_folder.specs.Disk.{Disk, LeavesOnly}
use Rattle.qm_folder.specs.Calls.{Elapses, IsRemoved, KeepsBut, MayRemove}
use Rattle.qm_folder.specs.Steps.{IsLeftBut, IsWritten}
use Rattle.qm_folder.specs.declared.new_file.NewFile.{NewFile}
use Rattle.qm_folder.proofs.NameLists.{distinct_at, not_alone, same_name}
use Rattle.qm_folder.proofs.Runs.{HasDone, IsNow, Run, call, next_done, next_run, under}

abbrev pub IsThere : NewFile → Disk → Type 0
IsThere f d = IsWritten (file_name f) f.bytes.items d

abbrev pub IsAway : String Global → Disk → Type 0
IsAway n d = IsRemoved (string_bytes n) d

-- of what has been written another name's file stays so
written_stays : (name other : Name) (bytes : List ℕ) (old new : Disk) → KeepsBut (name ∷ []) old new → bytes_eq other name ≡ false → IsWritten other bytes old → IsWritten other bytes new
written_stays name other bytes old new kept differs was = record {
  stands = kept.seen other (not_alone other name differs) ∙ was.stands;
  written = kept.written other (not_alone other name differs) was.written;
}

-- what has been removed stays so, when that name or another is removed
removed_stays : (name other : Name) (old new : Disk) → KeepsBut (name ∷ []) old new → IsRemoved name new → IsRemoved other old → IsRemoved other new
removed_stays name other old new kept here was = elim (cases_Bool (bytes_eq other name)) [
  | inl same ↦ subst (λ (n : Name). IsRemoved n new) (sym (same_name other name same)) here
  | inr differs ↦ record {
    away = kept.seen other (not_alone other name differs) ∙ was.away;
    gone = kept.written other (not_alone other name differs) was.gone;
  }
]

module _ (files : List NewFile) (i : ℕ) (f : NewFile) (name bytes : List ℕ) (old mid new : Disk) (so_far : HasDone file_name IsThere files i old mid) (in_range : i < length files) (is : f ≡ get_or files i f) (name_is : name ≡ file_name f)
    (kept : KeepsBut (name ∷ []) mid new) (left : LeavesOnly mid new (IsLeftBut (name ∷ []) mid)) where
  this_file : Run (file_name f ∷ []) mid new
  this_file = under name (file_name f) mid new name_is kept left

  pub file_run : Run (file_names files) old new
  file_run = next_run file_name IsThere files i f old mid new so_far in_range is this_file

  pub file_done : AreDistinct (file_names files) → bytes ≡ f.bytes.items → IsWritten name bytes new → mid.faults ≤ new.faults → HasDone file_name IsThere files (i + 1) old new
  file_done distinct bytes_are written faults = next_done file_name IsThere files i f old mid new so_far in_range is this_file faults here stays
    where
      here : IsThere f new
      here = subst (λ (b : List ℕ). IsWritten (file_name f) b new) bytes_are (subst (λ (n : Name). IsWritten n bytes new) name_is written)

      apart : (k : ℕ) (d : NewFile) → k < i → bytes_eq (file_name (get_or files k d)) (file_name f) ≡ false
      apart k d lt = subst (λ (g : NewFile). bytes_eq (file_name (get_or files k d)) (file_name g) ≡ false) (sym is) (distinct_at file_name files k i d f distinct lt in_range)

      stays : (k : ℕ) (d : NewFile) → k < i → IsThere (get_or files k d) mid → IsThere (get_or files k d) new
      stays k d lt was = written_stays (file_name f) (file_name (get_or files k d)) (get_or files k d).bytes.items mid new this_file.kept (apart k d lt) was

module _ (gone : List (String Global)) (i : ℕ) (n : String Global) (name : List ℕ) (old mid new : Disk) (so_far : HasDone string_bytes IsAway gone i old mid) (in_range : i < length gone) (is : n ≡ get_or gone i n) (name_is : name ≡ string_bytes n)
    (now : IsNow mid) (removes : MayRemove name mid new) (time : Elapses mid new) where
  this_name : Run (string_bytes n ∷ []) mid new
  this_name = subst (λ (m : Name). Run (m ∷ []) mid new) name_is (call (name ∷ []) mid new now removes.others time)

  pub name_run : Run (map string_bytes gone) old new
  name_run = next_run string_bytes IsAway gone i n old mid new so_far in_range is this_name

  pub name_done : IsRemoved name new → mid.faults ≤ new.faults → HasDone string_bytes IsAway gone (i + 1) old new
  name_done removed faults = next_done string_bytes IsAway gone i n old mid new so_far in_range is this_name faults here stays
    where
      here : IsAway n new
      here = subst (λ (m : Name). IsRemoved m new) name_is removed

      stays : (k : ℕ) (d : String Global) → k < i → IsAway (get_or gone k d) mid → IsAway (get_or gone k d) new
      stays k d lt was = removed_stays (string_bytes n) (string_bytes (get_or gone k d)) mid new this_name.kept here was
