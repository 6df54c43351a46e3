-- What an update leaves, part after part.
use Rattle.std.proofs.Common.{◌≡◌, ◌⊎◌, inl, inr, ⊎_elim, ℕ, ◌<◌, true, false, List, [], ◌∷◌, ◌++◌, length, get_or, None, Some, refl, sym, ◌∙◌, subst}
use Rattle.std.proofs.lemmas.Bool.{cases_Bool, or_cases}
use Rattle.std.specs.Str.{bytes_eq}
use Rattle.qm_folder.specs.Names.{Name, file_name, file_names, is_among}
use Rattle.qm_folder.specs.Disk.{Disk, Contents, IsSettled, LeavesOnly}
use Rattle.qm_folder.specs.Calls.{IsRemoved, KeepsBut, LeavesWritten, MayRename}
use Rattle.qm_folder.specs.Steps.{AreRemoved, AreWhole, AreWritten, IsCleared, IsCommitted, IsLeftBut, IsLeftByCommit, IsPrepared, IsWritten}
use Rattle.qm_folder.specs.Clean.{IsClean}
use Rattle.qm_folder.specs.Update.{Change, IsAfter, IsBefore, IsBeforeOrAfter, IsSameBut, IsUpdated}
use Rattle.qm_folder.specs.declared.new_file.NewFile.{NewFile}
use Rattle.qm_folder.specs.declared.updating.TheConstants.{MANIFEST, STAGED}
use Rattle.qm_folder.proofs.Moments.{joined, weakened}
use Rattle.qm_folder.proofs.NameLists.{neither, none_of_both, not_alone, among_all, among_both, among_each, name_at, same_name}
use Rattle.qm_folder.proofs.Runs.{Run, keeps_joined, settles, then_run}

-- ---- the new files and the new manifest are brought to the disk

staged_first : (names : List Name) (n : Name) → is_among (STAGED.now ∷ names) n ≡ false → (bytes_eq n STAGED.now ≡ false) × (is_among names n ≡ false)
staged_first names n other = neither (bytes_eq n STAGED.now) (is_among names n) other

pub files_alone : (names : List Name) (old new : Disk) → Run names old new → Run (STAGED.now ∷ names) old new
files_alone names old new run = record {
  kept = record {
    seen = λ n other. run.kept.seen n (staged_first names n other).1;
    leaves = λ n c other left. run.kept.leaves n c (staged_first names n other).1 left;
    written = λ n other is. run.kept.written n (staged_first names n other).1 is;
  };
  left = weakened old new (IsLeftBut names old) (IsLeftBut (STAGED.now ∷ names) old) run.left (λ c left n other. left n (staged_first names n other).1);
}

pub files_and_staged : (names : List Name) (old mid new : Disk) → Run names old mid → Run (STAGED.now ∷ []) mid new → Run (STAGED.now ∷ names) old new
files_and_staged names old mid new first second =
    then_run names (STAGED.now ∷ []) (STAGED.now ∷ names) old mid new first second
    (λ n other. (staged_first names n other).1) (λ n other. not_alone n STAGED.now (staged_first names n other).0)

pub files_staged_synced : (names : List Name) (old mid later new : Disk) → Run names old mid → Run (STAGED.now ∷ []) mid later → Run [] later new → Run (STAGED.now ∷ names) old new
files_staged_synced names old mid later new first second third =
    then_run (STAGED.now ∷ names) [] (STAGED.now ∷ names) old later new (files_and_staged names old mid later first second) third (λ n other. other) (λ n other. refl)

pub prepared : (files : List NewFile) (manifest : List ℕ) (old files_there staged new : Disk) → IsSettled old → is_among (file_names files) STAGED.now ≡ false
    → KeepsBut (file_names files) old files_there → AreWritten files files_there → KeepsBut (STAGED.now ∷ []) files_there staged → IsWritten STAGED.now manifest staged
    → KeepsBut [] staged new → LeavesWritten staged new → IsPrepared files manifest new
prepared files manifest old there staged new settled apart kept written kept_staged manifest_written quiet durable = record {
  settled = settles (STAGED.now ∷ file_names files) old staged new settled kept_both all_written quiet durable;
  staged = record { stands = quiet.seen STAGED.now refl ∙ manifest_written.stands; written = quiet.written STAGED.now refl manifest_written.written };
  whole = λ k d lt. let f = get_or files k d in quiet.seen (file_name f) refl ∙ kept_staged.seen (file_name f) (apart_at k d lt) ∙ (written k d lt).stands;
}
  where
    kept_both : KeepsBut (STAGED.now ∷ file_names files) old staged
    kept_both =
        keeps_joined (file_names files) (STAGED.now ∷ []) (STAGED.now ∷ file_names files) old there staged kept kept_staged
        (λ n other. (staged_first (file_names files) n other).1) (λ n other. not_alone n STAGED.now (staged_first (file_names files) n other).0)

    apart_from : (n : Name) → is_among (file_names files) n ≡ true → is_among (STAGED.now ∷ []) n ≡ false
    apart_from n among = elim (cases_Bool (bytes_eq n STAGED.now)) [
      | inl same ↦ absurd (cc (subst (λ (m : Name). is_among (file_names files) m ≡ true) (same_name n STAGED.now same) among, apart))
      | inr other ↦ not_alone n STAGED.now other
    ]

    apart_at : (k : ℕ) (d : NewFile) → k < length files → is_among (STAGED.now ∷ []) (file_name (get_or files k d)) ≡ false
    apart_at k d lt = apart_from (file_name (get_or files k d)) (name_at file_name files k d lt)

    all_written : (n : Name) → is_among (STAGED.now ∷ file_names files) n ≡ true → staged.written n
    all_written n among = elim (or_cases (bytes_eq n STAGED.now) (is_among (file_names files) n) among) [
      | inl same ↦ subst staged.written (sym (same_name n STAGED.now same)) manifest_written.written
      | inr is_new ↦ among_each file_name (λ m. staged.written m) files (λ k d lt. kept_staged.written (file_name (get_or files k d)) (apart_at k d lt) (written k d lt).written) n is_new
    ]

-- ---- files are removed

pub cleared : (gone : List Name) (old mid new : Disk) → IsSettled old → KeepsBut gone old mid → AreRemoved gone mid → KeepsBut [] mid new → LeavesWritten mid new → IsCleared gone new
cleared gone old mid new settled kept removed quiet durable = record {
  settled = settles gone old mid new settled kept (λ n among. removed_is_written n (is_itself n among)) quiet durable;
  away = λ k d lt. quiet.seen (get_or gone k d) refl ∙ (removed k d lt).away;
}
  where
    removed_is_written : (n : Name) → IsRemoved n mid → mid.written n
    removed_is_written n it = it.gone

    is_itself : (n : Name) → is_among gone n ≡ true → IsRemoved n mid
    is_itself n among = among_all (λ m. IsRemoved m mid) gone removed n among

-- ---- what stands there, then, is the index of before or that of after

module _ (it : Change) (old : Disk) (clean : IsClean (file_names it.files) it.gone) where
  abbrev new_names : List Name
  new_names = file_names it.files

  -- of a new file's name the manifest's two and those that are gone are others
  is_new : (k : ℕ) (d : NewFile) → k < length it.files → is_among new_names (file_name (get_or it.files k d)) ≡ true
  is_new k d lt = name_at file_name it.files k d lt

  not_the_manifests : (n : Name) → is_among new_names n ≡ true → is_among (STAGED.now ∷ MANIFEST.now ∷ []) n ≡ false
  not_the_manifests n among =
      none_of_both (bytes_eq n STAGED.now) (is_among (MANIFEST.now ∷ []) n)
      (differs n STAGED.now among clean.no_staged)
      (not_alone n MANIFEST.now (differs n MANIFEST.now among clean.no_manifest))
    where
      differs : (n m : Name) → is_among new_names n ≡ true → is_among new_names m ≡ false → bytes_eq n m ≡ false
      differs n m among none = elim (cases_Bool (bytes_eq n m)) [
        | inl same ↦ absurd (cc (subst (λ (x : Name). is_among new_names x ≡ true) (same_name n m same) among, none))
        | inr other ↦ other
      ]

  pub before_left : IsSettled old → (c : Contents) → IsLeftBut (STAGED.now ∷ new_names) old c → IsBefore it old c
  before_left settled c left n other = settled n (c n) (left n other)

  -- in the middle: prepared, and the manifest is the old one or the new one
  module _ (mid : Contents) (before : IsBefore it old mid) (whole : AreWhole it.files mid) (staged : mid STAGED.now ≡ Some it.manifest) where
    pub taken : (c : Contents) → IsSameBut (STAGED.now ∷ MANIFEST.now ∷ []) mid c → c MANIFEST.now ≡ mid STAGED.now → IsAfter it old c
    taken c others is = record {
      manifest = is ∙ staged;
      files = λ k d lt. let n = file_name (get_or it.files k d) in others n (not_the_manifests n (is_new k d lt)) ∙ whole k d lt;
      others = λ n other.
          let first = neither (bytes_eq n STAGED.now) (is_among (MANIFEST.now ∷ new_names ++ it.gone) n) other in
          let second = neither (bytes_eq n MANIFEST.now) (is_among (new_names ++ it.gone) n) first.1 in
          let third = among_both new_names it.gone n second.1 in
          others n (none_of_both (bytes_eq n STAGED.now) (is_among (MANIFEST.now ∷ []) n) first.0 (not_alone n MANIFEST.now second.0))
          ∙ before n (none_of_both (bytes_eq n STAGED.now) (is_among new_names n) first.0 third.0);
    }

    pub not_taken : (c : Contents) → IsSameBut (STAGED.now ∷ MANIFEST.now ∷ []) mid c → c MANIFEST.now ≡ mid MANIFEST.now → IsBefore it old c
    not_taken c others is n other = elim (cases_Bool (bytes_eq n MANIFEST.now)) [
      | inl same ↦ subst (λ (m : Name). c m ≡ old.seen m) (sym (same_name n MANIFEST.now same)) (is ∙ before MANIFEST.now (none_of_both false (is_among new_names MANIFEST.now) refl clean.no_manifest))
      | inr differs ↦
          let parts = neither (bytes_eq n STAGED.now) (is_among new_names n) other in
          others n (none_of_both (bytes_eq n STAGED.now) (is_among (MANIFEST.now ∷ []) n) parts.0 (not_alone n MANIFEST.now differs)) ∙ before n other
    ]

    pub either : (c : Contents) → IsSameBut (STAGED.now ∷ MANIFEST.now ∷ []) mid c → (c MANIFEST.now ≡ mid MANIFEST.now) ⊎ (c MANIFEST.now ≡ mid STAGED.now) → IsBeforeOrAfter it old c
    either c others is = ⊎_elim (λ same. inl (not_taken c others same)) (λ moved. inr (taken c others moved)) is

  -- what is gone changes nothing
  pub stays_after : (mid c : Contents) → IsAfter it old mid → IsSameBut it.gone mid c → IsAfter it old c
  stays_after mid c after same = record {
    manifest = same MANIFEST.now clean.manifest_stays ∙ after.manifest;
    files = λ k d lt. let n = file_name (get_or it.files k d) in same n (clean.new_stay n (is_new k d lt)) ∙ after.files k d lt;
    others = λ n other.
        let first = neither (bytes_eq n STAGED.now) (is_among (MANIFEST.now ∷ new_names ++ it.gone) n) other in
        let second = neither (bytes_eq n MANIFEST.now) (is_among (new_names ++ it.gone) n) first.1 in
        same n (among_both new_names it.gone n second.1).1 ∙ after.others n other;
  }

  abbrev Between : Contents → Type 0
  Between c = IsBeforeOrAfter it old c

  pub first_part : (mid : Disk) → IsSettled old → LeavesOnly old mid (IsLeftBut (STAGED.now ∷ new_names) old) → LeavesOnly old mid Between
  first_part mid settled run = weakened old mid (IsLeftBut (STAGED.now ∷ new_names) old) Between run (λ c left. inl (before_left settled c left))

  module _ (mid later : Disk) (ready : IsPrepared it.files it.manifest mid) (kept : KeepsBut (STAGED.now ∷ new_names) old mid) where
    pub second_part : LeavesOnly old mid Between → LeavesOnly mid later (IsLeftByCommit mid) → LeavesOnly old later Between
    second_part first second =
        joined old mid later Between (IsLeftByCommit mid) first second
        (λ c left. either mid.seen kept.seen ready.whole ready.staged.stands c (λ n other. ready.settled n (c n) (left.others n other))
        (⊎_elim (λ was. inl (ready.settled MANIFEST.now (c MANIFEST.now) was)) (λ is. inr (ready.settled STAGED.now (c MANIFEST.now) is)) left.manifest))

    pub seen_then : MayRename STAGED.now MANIFEST.now mid later → Between later.seen
    seen_then moves = either mid.seen kept.seen ready.whole ready.staged.stands later.seen moves.others.seen moves.target_seen

    pub after_commit : MayRename STAGED.now MANIFEST.now mid later → IsCommitted mid later → IsAfter it old later.seen
    after_commit moves done = taken mid.seen kept.seen ready.whole ready.staged.stands later.seen moves.others.seen done.there

  module _ (later new : Disk) (after : IsAfter it old later.seen) (done : IsSettled later) where
    pub third_part : LeavesOnly old later Between → LeavesOnly later new (IsLeftBut it.gone later) → LeavesOnly old new Between
    third_part first third =
        joined old later new Between (IsLeftBut it.gone later) first third (λ c left. inr (stays_after later.seen c after (λ n other. done n (c n) (left n other))))

    pub after_all : KeepsBut it.gone later new → IsAfter it old new.seen
    after_all kept = stays_after later.seen new.seen after kept.seen

    pub updated : KeepsBut it.gone later new → later.seen STAGED.now ≡ None → IsCleared it.gone new → IsUpdated it old new
    updated kept away cleared = record {
      settled = cleared.settled;
      after = after_all kept;
      away = λ n among. among_all (λ m. new.seen m ≡ None) it.gone cleared.away n among;
      staged = kept.seen STAGED.now clean.staged_stays ∙ away;
    }
