-- An index as the files of a folder.
use Rattle.std.specs.Prelude.{◌≡◌, ◌⊎◌, ℕ, ◌<◌, ◌≤◌, List, [], ◌∷◌, ◌++◌, All, IfSome, Option, Some, length}
use Rattle.qm_folder.specs.Disk.{Content, Contents}
use Rattle.qm_folder.specs.Names.{Name, file_name}
use Rattle.qm_folder.specs.Steps.{AreWhole}
use Rattle.qm_folder.specs.declared.new_file.NewFile.{NewFile}
use Rattle.qm_postings.specs.Reading.{Reader}
use Rattle.qm_postings.specs.Segment.{Segment, deleted_documents, without}
use Rattle.qm_schema.specs.Schema.{FieldFacts}
use Rattle.qm_store.specs.Deletions.{AreNumbers, stored_deletions}
use Rattle.qm_store.specs.Stored.{IsStored, stored}
use Rattle.qm_store.specs.declared.kept_segment.KeptSegment.{KeptSegment}
use Rattle.qm_index.specs.FileNames.{IsNameBelow, deletions_name, segment_name}

-- ---- a segment

-- a file is that of a segment, whatever of it is deleted
pub record IsFileOf (key : ℕ) (s : Segment) (content : Content) : Type 0 where
  pub reader : Reader
  pub storable : IsStored key reader
  pub of : without [] reader.segment ≡ without [] s
  pub bytes : content ≡ Some (stored key reader)

-- the bytes that tell what is deleted of the segment of a key
abbrev pub deletions_stored : ℕ → Segment → List ℕ
deletions_stored key s = stored_deletions key (length s.documents) s.deleted

-- the file of a number tells what is deleted of the segment of a key
pub record IsDeletionsFile (c : Contents) (key number : ℕ) (s : Segment) : Type 0 where
  pub some : 0 < number
  pub numbers : AreNumbers (length s.documents) s.deleted
  pub few : length s.documents ≤ 4294967295
  pub bytes : c (deletions_name number) ≡ Some (deletions_stored key s)

-- nothing is deleted, and there is no number
pub record HasNoDeletions (number : ℕ) (s : Segment) : Type 0 where
  pub none : s.deleted ≡ []
  pub no_file : number ≡ 0

-- a folder tells what is deleted of the segment of a key, by the number of a file
abbrev pub TellsDeleted : Contents → ℕ → ℕ → Segment → Type 0
TellsDeleted c key number s = HasNoDeletions number s ⊎ IsDeletionsFile c key number s

-- A folder has a segment, and tells what is deleted of it.
pub record IsHeld (c : Contents) (k : KeptSegment) (s : Segment) : Type 0 where
  pub file : IsFileOf k.key s (c (segment_name k.key))
  pub deleted : TellsDeleted c k.key k.deletions s
  pub counted : k.deleted ≡ length s.deleted
  -- each once
  pub ascending : s.deleted ≡ deleted_documents s

-- A folder has a segment, and tells what is deleted of it, unless more was deleted since.
pub record WasHeld (c : Contents) (k : KeptSegment) (s : Segment) : Type 0 where
  pub file : IsFileOf k.key s (c (segment_name k.key))
  pub deleted : k.deleted ≡ length s.deleted → TellsDeleted c k.key k.deletions s
  pub fewer : k.deleted ≤ length s.deleted
  -- each once, so that one deletion more makes one number more
  pub ascending : s.deleted ≡ deleted_documents s

-- ---- several

-- segments of this schema
abbrev pub HaveSchema : List FieldFacts → List Segment → Type 0
HaveSchema schema ss = All (λ s. s.schema ≡ schema) ss

-- each of some segments is held
abbrev pub AreHeld : Contents → List KeptSegment → List Segment → Type 0
AreHeld c [] [] = Unit {0}
AreHeld c [] (s ∷ ss) = ⊥
AreHeld c (k ∷ ks) [] = ⊥
AreHeld c (k ∷ ks) (s ∷ ss) = IsHeld c k s × AreHeld c ks ss

-- the first of some segments were held
abbrev pub WereHeld : Contents → List KeptSegment → List Segment → Type 0
WereHeld c [] ss = Unit {0}
WereHeld c (k ∷ ks) [] = ⊥
WereHeld c (k ∷ ks) (s ∷ ss) = WasHeld c k s × WereHeld c ks ss

-- nothing is new of some segments since these were saved of them: of each as much is deleted
abbrev pub HaveNothingNew : List KeptSegment → List Segment → Type 0
HaveNothingNew [] [] = Unit {0}
HaveNothingNew [] (s ∷ ss) = ⊥
HaveNothingNew (k ∷ ks) [] = ⊥
HaveNothingNew (k ∷ ks) (s ∷ ss) = (k.deleted ≡ length s.deleted) × HaveNothingNew ks ss

-- ---- what is new

-- one file more, of this name and with these bytes
pub record IsAdded (name : Name) (bytes : List ℕ) (before after : List NewFile) : Type 0 where
  pub file : NewFile
  pub behind : after ≡ before ++ file ∷ []
  pub named : file_name file ≡ name
  pub whole : file.bytes.items ≡ bytes

-- some files more
abbrev pub HasMore : List NewFile → List NewFile → Type 0
HasMore before after = (more : List NewFile) × (after ≡ before ++ more)

-- New files stand whole, and those that have lower numbers are what they were.
pub record IsAddedTo (first : ℕ) (files : List NewFile) (old c : Contents) : Type 0 where
  pub whole : AreWhole files c
  pub others : (n : Name) → IsNameBelow first n → c n ≡ old n

-- with the new files a segment has one, if it had one where it had been saved before
abbrev pub HasFile : ℕ → List NewFile → Option KeptSegment → ℕ → Segment → Type 0
HasFile first files before key s =
    (old c : Contents) → IfSome before (λ b. WasHeld old b s) → IsAddedTo first files old c → IsFileOf key s (c (segment_name key))

-- with the new files a segment is held, if it was where it had been saved before
abbrev pub Holds : ℕ → List NewFile → Option KeptSegment → KeptSegment → Segment → Type 0
Holds first files before k s = (old c : Contents) → IfSome before (λ b. WasHeld old b s) → IsAddedTo first files old c → IsHeld c k s

-- with the new files each of some segments is, if the first of them were that had been saved
abbrev pub HoldAll : ℕ → List NewFile → List KeptSegment → List KeptSegment → List Segment → Type 0
HoldAll first files before ks ss = (old c : Contents) → WereHeld old before ss → IsAddedTo first files old c → AreHeld c ks ss
