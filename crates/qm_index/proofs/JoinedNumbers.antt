-- Two segments joined have the documents of both, with the same numbers over all segments, and the same ones are deleted.
use Rattle.std.proofs.Common.{◌≡◌, ℕ, ◌+◌, ◌-◌, Bool, true, false, List, [], ◌∷◌, ◌++◌, add_assoc, append_assoc, append-nil, ap, length, map, refl, sym, subst, take, ◌∙◌}
use Rattle.std.proofs.lemmas.List.{map-append}
use Rattle.std.proofs.lemmas.List.Concat.{flat_map-append}
use Rattle.qm_merge.specs.Merging.{joined}
use Rattle.qm_postings.specs.Segment.{Segment}
use Rattle.qm_index.specs.Indexed.{Indexed}
use Rattle.qm_index.specs.Joining.{HaveSameDocuments, JoinsLast, LastOne, LastTwo, deleted_from, documents_of, with_ended, with_last, without_last}
use Rattle.qm_index.proofs.LastSegments.{front-of}

module _ (first second : Segment) where
  shifted : (k n : ℕ) (xs : List ℕ) → map (λ d. k + d) (map (λ d. n + d) xs) ≡ map (λ d. k + n + d) xs
  shifted k n [] = refl
  shifted k n (x ∷ xs) = (λ i. sym (add_assoc k n x) i ∷ shifted k n xs i)

  deleted-joined : (k : ℕ) (others : List Segment) →
      deleted_from k (others ++ joined first second ∷ []) ≡ deleted_from k (others ++ first ∷ second ∷ [])
  deleted-joined k [] =
      let n = length first.documents in
      append-nil (map (λ d. k + d) (first.deleted ++ map (λ d. n + d) second.deleted))
      ∙ map-append (λ d. k + d) first.deleted (map (λ d. n + d) second.deleted)
      ∙ ap (λ l. map (λ d. k + d) first.deleted ++ l) (shifted k n second.deleted ∙ sym (append-nil (map (λ d. k + n + d) second.deleted)))
  deleted-joined k (o ∷ os) = ap (λ l. map (λ d. k + d) o.deleted ++ l) (deleted-joined (k + length o.documents) os)

  pub same-documents : (others : List Segment) → HaveSameDocuments (others ++ first ∷ second ∷ []) (others ++ joined first second ∷ [])
  same-documents others = record {
    documents = flat_map-append (λ (s : Segment). s.documents) others (joined first second ∷ [])
        ∙ ap (λ l. documents_of others ++ l) (append-nil (first.documents ++ second.documents)
        ∙ ap (λ l. first.documents ++ l) (sym (append-nil second.documents)))
        ∙ sym (flat_map-append (λ (s : Segment). s.documents) others (first ∷ second ∷ []));
    deleted = deleted-joined 0 others;
  }

-- and so have those that have the same as others, if these have the same as still others
pub same-on : (a b d : List Segment) → HaveSameDocuments a b → HaveSameDocuments b d → HaveSameDocuments a d
same-on a b d first second = record { documents = second.documents ∙ first.documents; deleted = second.deleted ∙ first.deleted }

-- ---- what is left without the last, and a segment behind it

front-last : (ss xs : List Segment) (x : Segment) → ss ≡ xs ++ x ∷ [] → take (length ss - 1) ss ≡ xs
front-last ss xs x is = ap (λ l. take (length l - 1) l) is ∙ front-of xs x

module _ (s : Indexed) where
  pub joined-last : (it : LastTwo s.ended) (segment : Segment) → with_last (without_last s) segment ≡ with_ended s (it.others ++ segment ∷ [])
  joined-last it segment =
      let front = front-last s.ended (it.others ++ it.first ∷ []) it.second (it.all ∙ sym (append_assoc it.others (it.first ∷ []) (it.second ∷ []))) in
      ap (λ l. with_ended s (l ++ segment ∷ [])) (front-last (without_last s).ended it.others it.first front)

  pub replaced-last : (it : LastOne s.ended) (segment : Segment) → with_last s segment ≡ with_ended s (it.others ++ segment ∷ [])
  replaced-last it segment = ap (λ l. with_ended s (l ++ segment ∷ [])) (front-last s.ended it.others it.last it.all)

  -- what two joined leave has the same documents, and so has what nothing was done to
  pub joins-same : (were_two : Bool) (t : Indexed) → JoinsLast s were_two t → HaveSameDocuments s.ended t.ended
  joins-same true t (it, is) =
      subst (HaveSameDocuments s.ended) (ap (λ (x : Indexed). x.ended) (sym is))
      (subst (λ ss. HaveSameDocuments ss (it.others ++ joined it.first it.second ∷ [])) (sym it.all) (same-documents it.first it.second it.others))
  joins-same false t (few, is) = record { documents = ap (λ (x : Indexed). documents_of x.ended) is; deleted = ap (λ (x : Indexed). deleted_from 0 x.ended) is }
