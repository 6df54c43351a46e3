-- What a save leaves of a folder.
use Rattle.std.proofs.Common.{◌≡◌, ℕ, ◌≤◌, List, All, Some, ap, ◌∙◌, inl, inr}
use Rattle.qm_folder.specs.Disk.{Contents}
use Rattle.qm_folder.specs.declared.new_file.NewFile.{NewFile}
use Rattle.qm_store.specs.Manifest.{IsManifest, manifest_spelled}
use Rattle.qm_store.specs.declared.kept_segment.KeptSegment.{KeptSegment}
use Rattle.qm_index.specs.Indexed.{indexed}
use Rattle.qm_index.specs.SavedFiles.{IsNumberedBelow}
use Rattle.qm_index.specs.SavedIndex.{HoldAll}
use Rattle.qm_index.specs.Saving.{HoldsIndex, IsKeptIn, IsSavedOrAsBefore, manifest_with}
use Rattle.qm_index.specs.Writing.{IsWritten, IsWrittenOrNot}
use Rattle.qm_index.specs.declared.index.Index.{Index}
use Rattle.qm_folder.specs.Names.{Name}
use Rattle.qm_index.specs.FileNames.{IsNameBelow}
use Rattle.qm_index.proofs.SavingSteps.{name-below}

module _ (i : Index) (first : ℕ) (files : List NewFile) (kept : List KeptSegment) (bytes : List ℕ) (later : i.saved.next ≤ first)
    (holds : HoldAll first files i.saved.segments.items kept (indexed i).ended) (is : bytes ≡ manifest_spelled (manifest_with i kept))
    (fits : IsManifest (manifest_with i kept)) (numbered : All (IsNumberedBelow 18446744073709551615) kept) where
  pub holds-index : (old c : Contents) → IsKeptIn i old → IsWritten first files bytes old c → HoldsIndex i c
  holds-index old c was written = record {
    kept = kept;
    fits = fits;
    manifest = written.manifest ∙ ap Some is;
    segments = holds old c was written.files;
    numbered = numbered;
  }

  pub saved-or-before : (old c : Contents) → IsKeptIn i old → IsWrittenOrNot first files bytes old c → IsSavedOrAsBefore i old c
  saved-or-before old c was (inl written) = inl (holds-index old c was written)
  saved-or-before old c was (inr un) = inr (record { manifest = un.manifest; files = λ n below. un.files n (name-below i.saved.next first n later below) })

-- either way the files of lower numbers are what they were
pub others-same : (first : ℕ) (files : List NewFile) (bytes : List ℕ) (old c : Contents) → IsWrittenOrNot first files bytes old c →
    (n : Name) → IsNameBelow first n → c n ≡ old n
others-same first files bytes old c (inl written) = written.files.others
others-same first files bytes old c (inr un) = un.files
