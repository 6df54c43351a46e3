-- An index as bytes.
use Rattle.std.specs.Prelude.{◌≡◌, ◌≢◌, ◌⊎◌, ◌==◌, ◌||◌, ℕ, Bool, false, true, List, [], ◌∷◌, ◌++◌, All, Some, length, map}
use Rattle.std.specs.List.Sorted.{IsNonDecreasing}
use Rattle.qm_folder.specs.Disk.{Contents}
use Rattle.qm_folder.specs.Names.{AreDistinct}
use Rattle.qm_folder.specs.declared.updating.TheConstants.{MANIFEST}
use Rattle.qm_index.specs.FileNames.{IsNameOf, segment_name}
use Rattle.qm_index.specs.Indexed.{indexed}
use Rattle.qm_index.specs.SavedFiles.{IsNumberedBelow}
use Rattle.qm_index.specs.SavedIndex.{AreHeld, IsFileOf, IsHeld, TellsDeleted}
use Rattle.qm_index.specs.Saving.{HoldsIndex, manifest_with}
use Rattle.qm_index.specs.declared.index.Index.{Index}
use Rattle.qm_postings.specs.Segment.{Segment, empty_segment}
use Rattle.qm_store.specs.Manifest.{IsManifest, ManifestFacts, manifest_spelled}
use Rattle.qm_store.specs.declared.kept_segment.KeptSegment.{KeptSegment}
use Rattle.birchagain_bytes.specs.Packed.{AreThere, File, IsFile, IsThere, file_bytes, files_bytes, packed, there_of}

-- whether a number is one of these
abbrev pub is_known : List ℕ → ℕ → Bool
is_known [] number = false
is_known (n ∷ ns) number = (n == number) || is_known ns number

-- Under the known ones of its numbers a folder has what there is of a segment.
pub record IsKnownHeld (known : List ℕ) (c : Contents) (k : KeptSegment) (s : Segment) : Type 0 where
  pub file : is_known known k.key ≡ true → IsFileOf k.key s (c (segment_name k.key))
  pub deleted : is_known known k.deletions ≡ true → TellsDeleted c k.key k.deletions s

-- it has of each of some
abbrev pub AreKnownHeld : List ℕ → Contents → List KeptSegment → List Segment → Type 0
AreKnownHeld known c (k ∷ ks) (s ∷ ss) = IsKnownHeld known c k s × AreKnownHeld known c ks ss
AreKnownHeld known c ks ss = Unit {0}

-- ---- files that are left out

-- A file has the name of a number, and no bytes where that is a known one.
pub record IsNumbered (known : List ℕ) (f : File) : Type 0 where
  pub number : ℕ
  pub named : IsNameOf number f.name
  pub left_out : is_known known number ≡ true → there_of f ≡ []

-- a file is such a one, or the manifest
abbrev pub IsUnlessKnown : List ℕ → File → Type 0
IsUnlessKnown known f = IsNumbered known f ⊎ (f.name ≡ MANIFEST.now)

-- Some bytes are a manifest and files of numbers, those of known numbers without bytes.
pub record AreLeftOut (known bytes : List ℕ) : Type 0 where
  pub files : List File
  pub spelled : bytes ≡ packed files
  pub fit : All IsFile files
  pub each : All (IsUnlessKnown known) files

-- ---- files that are added

-- The file of a segment is added, which a folder has that has what was added, or has it already.
pub record IsSegmentAdded (known : List ℕ) (key : ℕ) (s : Segment) (before after : List ℕ) : Type 0 where
  pub file : File
  pub added : after ≡ before ++ file_bytes file
  pub fit : IsFile file
  pub holds : (c : Contents) → IsThere c file → (is_known known key ≡ true → IsFileOf key s (c (segment_name key)))
      → IsFileOf key s (c (segment_name key))
  pub unless_known : IsNonDecreasing known → IsUnlessKnown known file

-- The same of the file of a number that tells what is deleted of it.
pub record AreDeletionsAdded (known : List ℕ) (key number : ℕ) (s : Segment) (before after : List ℕ) : Type 0 where
  pub file : File
  pub added : after ≡ before ++ file_bytes file
  pub fit : IsFile file
  pub holds : (c : Contents) → IsThere c file → (is_known known number ≡ true → TellsDeleted c key number s) → TellsDeleted c key number s
  pub unless_known : IsNonDecreasing known → IsUnlessKnown known file

-- The files of a segment are added, by which a folder holds it as a manifest says.
pub record IsPacked (known : List ℕ) (k : KeptSegment) (s : Segment) (before after : List ℕ) : Type 0 where
  pub files : List File
  pub added : after ≡ before ++ files_bytes files
  pub fit : All IsFile files
  pub numbered : IsNumberedBelow 18446744073709551615 k
  pub holds : (c : Contents) → AreThere c files → IsKnownHeld known c k s → IsHeld c k s
  pub unless_known : IsNonDecreasing known → All (IsUnlessKnown known) files

-- Those of some segments are.
pub record ArePacked (known : List ℕ) (ks : List KeptSegment) (ss : List Segment) (before after : List ℕ) : Type 0 where
  pub files : List File
  pub added : after ≡ before ++ files_bytes files
  pub fit : All IsFile files
  pub numbered : All (IsNumberedBelow 18446744073709551615) ks
  pub as_many : length ks ≡ length ss
  pub holds : (c : Contents) → AreThere c files → AreKnownHeld known c ks ss → AreHeld c ks ss
  pub unless_known : IsNonDecreasing known → All (IsUnlessKnown known) files

-- The manifest of an index whose segments have these files is added.
pub record IsManifestAdded (i : Index) (kept : List KeptSegment) (before after : List ℕ) : Type 0 where
  pub file : File
  pub added : after ≡ before ++ file_bytes file
  pub fit : IsFile file
  pub named : file.name ≡ MANIFEST.now
  pub fits : IsManifest (manifest_with i kept)
  pub there : (c : Contents) → IsThere c file → c MANIFEST.now ≡ Some (manifest_spelled (manifest_with i kept))

-- ---- an index

-- Under its name a folder has the manifest that says this.
pub record TellsManifest (c : Contents) (m : ManifestFacts) : Type 0 where
  pub fits : IsManifest m
  pub spelled : c MANIFEST.now ≡ Some (manifest_spelled m)

-- Some bytes are those of an index, but for files of known numbers: a folder that has the others, and of the known ones what
-- there is, holds the index.
pub record IsIndexPacked (known : List ℕ) (i : Index) (bytes : List ℕ) : Type 0 where
  pub files : List File
  pub spelled : bytes ≡ packed files
  pub fit : All IsFile files
  pub kept : List KeptSegment
  pub manifest : (c : Contents) → AreThere c files → c MANIFEST.now ≡ Some (manifest_spelled (manifest_with i kept))
  pub fits : IsManifest (manifest_with i kept)
  pub holds : (c : Contents) → AreThere c files → AreKnownHeld known c kept (indexed i).ended → HoldsIndex i c

-- The same, of an index of this library whose open segment has no document; no two files have one name.
pub record AreBytesOf (known : List ℕ) (i : Index) (bytes : List ℕ) : Type 0 where
  pub packed : IsIndexPacked known i bytes
  pub distinct : AreDistinct (map (λ f. f.name) packed.files)
  pub none_open : (indexed i).current ≡ empty_segment (indexed i).current.schema 128

-- Some bytes are those of an index of which postings are cut into blocks of another length than 128.
pub record AreOfOtherBlocks (i : Index) (bytes : List ℕ) : Type 0 where
  pub packed : IsIndexPacked [] i bytes
  pub distinct : AreDistinct (map (λ f. f.name) packed.files)
  pub other : (indexed i).current.block_len ≢ 128
