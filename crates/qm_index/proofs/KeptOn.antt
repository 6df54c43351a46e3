-- What was saved of an index stays kept while it goes on: when documents come, segments end, and documents are deleted.
use Rattle.std.proofs.Common.{◌≡◌, ◌≢◌, ◌⊎◌, ◌==◌, ◌||◌, ℕ, zero, suc, ◌+◌, ◌<◌, Bool, true, false, List, [], ◌∷◌, ◌++◌, Some, append-nil, arith, inl, inr, length, refl, set, slice_get, sym, ap, subst, ◌∙◌}
use Rattle.std.proofs.lemmas.Bool.{cases_Bool, cases_eq, eq-eqb, ne_eqb}
use Rattle.qm_docset.proofs.MembersLemmas.{length-members_between_insert, members_between-same}
use Rattle.qm_folder.specs.Disk.{Contents}
use Rattle.qm_postings.specs.Reading.{Reader, deleting}
use Rattle.qm_postings.specs.Segment.{Segment, deleted_documents, is_deleted, with_deleted, without}
use Rattle.qm_postings.proofs.DeletedDocuments.{deleted_documents-own}
use Rattle.qm_store.specs.declared.kept_segment.KeptSegment.{KeptSegment}
use Rattle.qm_index.specs.Indexed.{IsUnsaved, indexed}
use Rattle.qm_index.specs.Parts.{segments_of}
use Rattle.qm_index.specs.SavedIndex.{WasHeld, WereHeld}
use Rattle.qm_index.specs.Saving.{IsKeptIn}
use Rattle.qm_index.specs.declared.index.Index.{Index}

-- an index of which nothing was saved is kept anywhere
pub unsaved-kept : (i : Index) (c : Contents) → IsUnsaved i → IsKeptIn i c
unsaved-kept i c none = subst (λ ks. WereHeld c ks (indexed i).ended) (sym none) tt

-- more segments behind those that were held
pub more-were : (c : Contents) (ks : List KeptSegment) (ss more : List Segment) → WereHeld c ks ss → WereHeld c ks (ss ++ more)
more-were c [] ss more were = tt
more-were c (k ∷ ks) [] more were = absurd were
more-were c (k ∷ ks) (s ∷ ss) more were = (were.0, more-were c ks ss more were.1)

-- so an index that has what was saved of another, with the same ended segments and perhaps more behind them, is kept
pub kept-on : (before after : Index) (c : Contents) (more : List Segment) → after.saved ≡ before.saved →
    (indexed after).ended ≡ (indexed before).ended ++ more → IsKeptIn before c → IsKeptIn after c
kept-on before after c more saved ended kept =
    subst (λ ks. WereHeld c ks (indexed after).ended) (ap (λ v. v.segments.items) (sym saved))
    (subst (WereHeld c before.saved.segments.items) (sym ended) (more-were c before.saved.segments.items (indexed before).ended more kept))

-- the same with the same ended segments
pub kept-still : (before after : Index) (c : Contents) → after.saved ≡ before.saved → (indexed after).ended ≡ (indexed before).ended →
    IsKeptIn before c → IsKeptIn after c
kept-still before after c saved ended = kept-on before after c [] saved (ended ∙ sym (append-nil (indexed before).ended))

-- ---- a document is deleted

module _ (s : Segment) (d : ℕ) where
  abbrev more : ℕ → Bool
  more x = x == d || is_deleted s x

  -- one that was deleted already
  deleted-again : is_deleted s d ≡ true → s.deleted ≡ deleted_documents s → with_deleted s d ≡ s
  deleted-again is own =
      ap (λ ds. without ds s) (members_between-same more (is_deleted s) 0 (length s.documents) (λ x above below. same x (cases_eq x d)) ∙ sym own)
    where
      same : (x : ℕ) → (x ≡ d) ⊎ (x ≢ d) → more x ≡ is_deleted s x
      same x (inl e) = ap (λ b. b || is_deleted s x) (eq-eqb x d e) ∙ sym (ap (is_deleted s) e ∙ is)
      same x (inr other) = ap (λ b. b || is_deleted s x) (ne_eqb x d other)

  -- or one more
  deleted-too : is_deleted s d ≡ false → d < length s.documents → s.deleted ≡ deleted_documents s → length (with_deleted s d).deleted ≡ length s.deleted + 1
  deleted-too lacks there own =
      length-members_between_insert (is_deleted s) more d 0 (length s.documents) (omega arith) there lacks (λ x. refl) ∙ ap (λ ds. length ds + 1) (sym own)

  was-deleted : (c : Contents) (k : KeptSegment) → d < length s.documents → WasHeld c k s → WasHeld c k (with_deleted s d)
  was-deleted c k there was = elim (cases_Bool (is_deleted s d)) [
    | inl is ↦ subst (WasHeld c k) (sym (deleted-again is was.ascending)) was
    | inr lacks ↦ let longer = deleted-too lacks there was.ascending in record {
      file = record { reader = was.file.reader; storable = was.file.storable; of = was.file.of; bytes = was.file.bytes };
      deleted = λ same. absurd (omega (arith, same, longer, was.fewer));
      fewer = omega (arith, longer, was.fewer);
      ascending = deleted_documents-own more (with_deleted s d) refl;
    }
  ]

pub were-deleted : (c : Contents) (ks : List KeptSegment) (rs : List Reader) (k d : ℕ) (r : Reader) → slice_get rs k ≡ Some r →
    d < length r.segment.documents → WereHeld c ks (segments_of rs) → WereHeld c ks (segments_of (set rs k (deleting r d)))
were-deleted c [] rs k d r there inside were = tt
were-deleted c (b ∷ ks) [] k d r there inside were = absurd were
were-deleted c (b ∷ ks) (q ∷ rs) zero d r there inside were =
    let same : q ≡ r = cc in (was-deleted r.segment d c b inside (subst (λ (x : Reader). WasHeld c b x.segment) same were.0), were.1)
were-deleted c (b ∷ ks) (q ∷ rs) (suc k) d r there inside were = (were.0, were-deleted c ks rs k d r there inside were.1)
