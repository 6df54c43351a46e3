-- An update writes the files of a save and leaves those of lower numbers.
use Rattle.std.proofs.Common.{◌≡◌, ℕ, ◌^◌, ◌≤◌, false, List, [], ◌∷◌, ◌++◌, append-nil, refl, sym, ap, subst, ◌∙◌, arith, inl, inr}
use Rattle.std.specs.Str.{bytes_eq}
use Rattle.qm_folder.specs.Clean.{IsClean}
use Rattle.qm_folder.specs.Disk.{Contents, CouldLeave, Disk, IsSettled, LeavesOnly}
use Rattle.qm_folder.specs.Names.{Name, file_names, is_among, names_of}
use Rattle.qm_folder.specs.Update.{Change, IsAfter, IsBefore, IsBeforeOrAfter, change}
use Rattle.qm_folder.specs.declared.new_file.NewFile.{NewFile}
use Rattle.qm_folder.specs.declared.updating.TheConstants.{MANIFEST, STAGED}
use Rattle.std.specs.Prelude.{String}
use Rattle.std.specs.declared.alloc.Global.{Global}
use Rattle.qm_folder.proofs.Moments.{weakened}
use Rattle.qm_folder.proofs.NameLists.{none_of_both, other_name}
use Rattle.qm_index.specs.FileNames.{AreNumbered, IsNameBelow}
use Rattle.qm_index.specs.Writing.{IsUnwritten, IsWritten, IsWrittenOrNot}
use Rattle.qm_index.proofs.FileNames.{not-among, not-manifest, not-staged, numbered-clean, numbered-order}

-- of a save: it removes nothing
abbrev pub change_of : List NewFile → List ℕ → Change
change_of files manifest = record { files = files; manifest = manifest; gone = [] }

module _ (first next : ℕ) (files : List NewFile) (manifest : List ℕ) (few : next ≤ 2 ^ 64) (are : AreNumbered first (file_names files) next) where
  pub clean : IsClean (file_names files) []
  clean = numbered-clean first (file_names files) [] next few are (λ k d below. absurd (omega (arith, below)))

  -- a name of a lower number is not new
  not-new : (n : Name) → IsNameBelow first n → is_among (file_names files) n ≡ false
  not-new n is =
      let order = numbered-order first (file_names files) next are in
      not-among first (file_names files) next is.number n few are (omega (arith, is.below, order, few)) is.of (inl is.below)

  not-staged-name : (n : Name) → IsNameBelow first n → bytes_eq n STAGED.now ≡ false
  not-staged-name n is =
      let order = numbered-order first (file_names files) next are in
      other_name n STAGED.now (not-staged is.number n (omega (arith, is.below, order, few)) is.of)

  not-manifest-name : (n : Name) → IsNameBelow first n → bytes_eq n MANIFEST.now ≡ false
  not-manifest-name n is =
      let order = numbered-order first (file_names files) next are in
      other_name n MANIFEST.now (not-manifest is.number n (omega (arith, is.below, order, few)) is.of)

  pub is-written : (old : Disk) (c : Contents) → IsAfter (change_of files manifest) old c → IsWritten first files manifest old.seen c
  is-written old c after = record {
    manifest = after.manifest;
    files = record {
      whole = after.files;
      others = λ n is. after.others n
          (none_of_both (bytes_eq n STAGED.now) (is_among (MANIFEST.now ∷ file_names files ++ []) n) (not-staged-name n is)
          (none_of_both (bytes_eq n MANIFEST.now) (is_among (file_names files ++ []) n) (not-manifest-name n is)
          (ap (λ ns. is_among ns n) (append-nil (file_names files)) ∙ not-new n is)));
    };
  }

  pub is-unwritten : (old : Disk) (c : Contents) → IsBefore (change_of files manifest) old c → IsUnwritten first old.seen c
  is-unwritten old c before = record {
    manifest = before MANIFEST.now (none_of_both (bytes_eq MANIFEST.now STAGED.now) (is_among (file_names files) MANIFEST.now) refl clean.no_manifest);
    files = λ n is. before n (none_of_both (bytes_eq n STAGED.now) (is_among (file_names files) n) (not-staged-name n is) (not-new n is));
  }

  pub written-or-not : (old : Disk) (c : Contents) → IsBeforeOrAfter (change_of files manifest) old c → IsWrittenOrNot first files manifest old.seen c
  written-or-not old c (inl before) = inr (is-unwritten old c before)
  written-or-not old c (inr after) = inl (is-written old c after)

  -- ---- as an update is called: with files and names that are these

  module _ (fs : List NewFile) (gone : List (String Global)) (same : fs ≡ files) (none : gone ≡ []) where
    pub clean-of : IsClean (file_names fs) (names_of gone)
    clean-of = subst (λ l. IsClean (file_names l) (names_of gone)) (sym same) (subst (λ g. IsClean (file_names files) (names_of g)) (sym none) clean)

    change-is : change fs manifest gone ≡ change_of files manifest
    change-is = λ i. change (same i) manifest (none i)

    pub written-of : (old : Disk) (c : Contents) → IsAfter (change fs manifest gone) old c → IsWritten first files manifest old.seen c
    written-of old c after = is-written old c (subst (λ it. IsAfter it old c) change-is after)

    pub seen-of : (old : Disk) (c : Contents) → IsBeforeOrAfter (change fs manifest gone) old c → IsWrittenOrNot first files manifest old.seen c
    seen-of old c either = written-or-not old c (subst (λ it. IsBeforeOrAfter it old c) change-is either)

    pub left-of : (old new : Disk) → LeavesOnly old new (IsBeforeOrAfter (change fs manifest gone) old) →
        LeavesOnly old new (IsWrittenOrNot first files manifest old.seen)
    left-of old new left = weakened old new (IsBeforeOrAfter (change fs manifest gone) old) (IsWrittenOrNot first files manifest old.seen) left (seen-of old)

-- a crash leaves what is seen, where nothing waits for the disk and nothing is done
pub nothing-done : (d : Disk) (P : Contents → Type 0) → IsSettled d → ((c : Contents) → d.left_since d.moment c → CouldLeave d c) →
    ((c : Contents) → ((n : Name) → c n ≡ d.seen n) → P c) → LeavesOnly d d P
nothing-done d P settled now same = record {
  later = omega arith;
  each = λ c left. same c (λ n. settled n (c n) (now c left n));
  before = λ t c earlier left. inl left;
}
