-- What is read of a folder that holds segments.
use Rattle.std.proofs.Common.{◌≡◌, ℕ, zero, suc, ◌^◌, ◌<◌, List, [], ◌∷◌, Some, Ok, length, get_or, refl, sym, ap, subst, ◌∙◌, arith, inl, inr}
use Rattle.std.proofs.lemmas.Option.{same_Some}
use Rattle.qm_folder.specs.Calls.{KeepsBut}
use Rattle.qm_folder.specs.Disk.{Contents, Disk}
use Rattle.qm_folder.specs.Names.{Name}
use Rattle.qm_postings.specs.Reading.{Reader}
use Rattle.qm_postings.specs.Segment.{Segment, without}
use Rattle.qm_store.specs.Deletions.{deleting_only, deletions_read, stored_deletions}
use Rattle.qm_store.specs.declared.kept_segment.KeptSegment.{KeptSegment}
use Rattle.qm_store.proofs.DeletionsRead.{deletions-read}
use Rattle.qm_store.proofs.SameOk.{same-ok}
use Rattle.qm_index.specs.FileNames.{deletions_name, segment_name}
use Rattle.qm_index.specs.SavedIndex.{AreHeld, IsDeletionsFile, IsFileOf, IsHeld, TellsDeleted}

-- ---- deletions

-- a segment of which the same is deleted as of another, with the same documents
as-deleted : (numbers : List ℕ) (old new : Reader) (s : Segment) → new ≡ deleting_only numbers old → old.segment ≡ without [] s → numbers ≡ s.deleted → new.segment ≡ s
as-deleted numbers old new s only is same =
    ap (λ (r : Reader). r.segment) only ∙ ap (without numbers) is ∙ ap (λ ns. without ns s) same

-- the file tells what is deleted
pub told-read : (c : Contents) (key number : ℕ) (s : Segment) (name : Name) (bytes read : List ℕ) (old : Reader) → key < 2 ^ 64 →
    IsDeletionsFile c key number s → name ≡ deletions_name number → c name ≡ Some bytes → read ≡ bytes → old.segment ≡ without [] s →
    deletions_read key (length old.segment.documents) read ≡ Ok s.deleted
told-read c key number s name bytes read old fits file named there reads is =
    let same : bytes ≡ stored_deletions key (length s.documents) s.deleted = same_Some bytes (stored_deletions key (length s.documents) s.deleted) (sym there ∙ ap c named ∙ file.bytes) in
    (λ i. deletions_read key (length (is i).documents) ((reads ∙ same) i)) ∙ deletions-read key (length s.documents) s.deleted fits file.few file.numbers

pub told-deleted : (c : Contents) (key number : ℕ) (s : Segment) (name : Name) (bytes read : List ℕ) (old new : Reader) → key < 2 ^ 64 →
    IsDeletionsFile c key number s → name ≡ deletions_name number → c name ≡ Some bytes → read ≡ bytes → old.segment ≡ without [] s →
    deletions_read key (length old.segment.documents) read ≡ Ok new.segment.deleted → new ≡ deleting_only new.segment.deleted old → new.segment ≡ s
told-deleted c key number s name bytes read old new fits file named there reads is told only =
    as-deleted new.segment.deleted old new s only is
    (same-ok new.segment.deleted s.deleted (sym told ∙ told-read c key number s name bytes read old fits file named there reads is))

-- ---- several

pub held-at : (c : Contents) (ks : List KeptSegment) (ss : List Segment) (n : ℕ) (k : KeptSegment) (s : Segment) → AreHeld c ks ss → n < length ks →
    IsHeld c (get_or ks n k) (get_or ss n s)
held-at c [] ss n k s are below = absurd (omega (arith, below))
held-at c (x ∷ ks) [] n k s are below = absurd are
held-at c (x ∷ ks) (y ∷ ss) zero k s are below = are.0
held-at c (x ∷ ks) (y ∷ ss) (suc n) k s are below = held-at c ks ss n k s are.1 (omega (arith, below))

pub held-length : (c : Contents) (ks : List KeptSegment) (ss : List Segment) → AreHeld c ks ss → length ss ≡ length ks
held-length c [] [] are = refl
held-length c [] (s ∷ ss) are = absurd are
held-length c (k ∷ ks) [] are = absurd are
held-length c (k ∷ ks) (s ∷ ss) are = ap suc (held-length c ks ss are.1)

-- the same is held where the same is seen
pub held-seen : (k : KeptSegment) (s : Segment) (old new : Disk) → KeepsBut [] old new → IsHeld old.seen k s → IsHeld new.seen k s
held-seen k s old new keeps is = record {
  file = subst (IsFileOf k.key s) (sym (keeps.seen (segment_name k.key) refl)) is.file;
  deleted = told is.deleted;
  counted = is.counted;
  ascending = is.ascending;
}
  where
    told : TellsDeleted old.seen k.key k.deletions s → TellsDeleted new.seen k.key k.deletions s
    told (inl none) = inl none
    told (inr file) = inr (record { some = file.some; numbers = file.numbers; few = file.few; bytes = keeps.seen (deletions_name k.deletions) refl ∙ file.bytes })

-- nothing has changed, and then nothing again
pub keeps-on : (old mid new : Disk) → KeepsBut [] old mid → KeepsBut [] mid new → KeepsBut [] old new
keeps-on old mid new first second = record {
  seen = λ n none. second.seen n none ∙ first.seen n none;
  leaves = λ n c none left. first.leaves n c none (second.leaves n c none left);
  written = λ n none is. second.written n none (first.written n none is);
}
