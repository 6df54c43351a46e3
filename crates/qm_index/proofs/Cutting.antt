-- Documents that are cut into segments, as the parts of an open segment are.
use Rattle.std.proofs.Common.{◌≡◌, ℕ, zero, suc, ◌+◌, ◌<◌, ◌≤◌, List, [], ◌∷◌, ◌++◌, length, map, take, drop, set, get_or, Some}
use Rattle.std.proofs.Common.{false, refl, sym, ap, ◌∙◌, arith, slice_get, subst}
use Rattle.std.proofs.lemmas.List.Sums.{sum_by-cons}
use Rattle.std.proofs.lemmas.List.{drop-append-le, drop-drop, drop-map, get_or-drop, get_or-take, length-drop, length-map, length-take-le, take-append-le}
use Rattle.std.proofs.lemmas.List.{take-map}
use Rattle.qm_docset.specs.Members.{members_between}
use Rattle.qm_docset.proofs.MembersLemmas.{members_between-same}
use Rattle.qm_postings.specs.Reading.{Reader, deleting}
use Rattle.qm_postings.specs.Segment.{Document, Segment, is_deleted, with_deleted}
use Rattle.qm_postings.proofs.DeletedDocuments.{among_members}
use Rattle.qm_schema.specs.Schema.{FieldFacts}
use Rattle.qm_index.specs.Numbers.{document_count}
use Rattle.qm_index.specs.OpenDocuments.{is_marked, kept_of, mark, marked, segment_of}
use Rattle.qm_index.specs.Parts.{ArePartsFrom, cut, part_of, segments_of}
use Rattle.qm_index.specs.declared.open_document.OpenDocument.{OpenDocument}
use Rattle.qm_index.proofs.Marks.{drop-mark-before, drop-mark-past, segment_of-mark, take-mark-before, take-mark-past}

module _ (schema : List FieldFacts) (block_len : ℕ) where
  -- documents behind those that are cut change nothing
  pub cut-push : (rs : List Reader) (ds more : List OpenDocument) → document_count rs ≤ length ds →
      cut schema block_len rs (ds ++ more) ≡ cut schema block_len rs ds
  cut-push [] ds more within = refl
  cut-push (r ∷ rs) ds more within =
      let n = length r.segment.documents in
      let sum = sum_by-cons (λ x. length x.segment.documents) r rs in
      let inside : n ≤ length ds = omega (arith, within, sum) in
      ap (λ taken. segment_of schema block_len taken ∷ cut schema block_len rs (drop n (ds ++ more))) (take-append-le n ds more inside)
      ∙ ap (λ left. segment_of schema block_len (take n ds) ∷ cut schema block_len rs left) (drop-append-le n ds more inside)
      ∙ ap (λ cs. segment_of schema block_len (take n ds) ∷ cs) (cut-push rs (drop n ds) more (omega (arith, within, sum, length-drop n ds)))

  -- one reader more
  pub cut-more : (rs : List Reader) (r : Reader) (ds : List OpenDocument) → cut schema block_len (rs ++ r ∷ []) ds
      ≡ cut schema block_len rs ds ++ segment_of schema block_len (take (length r.segment.documents) (drop (document_count rs) ds)) ∷ []
  cut-more [] r ds = refl
  cut-more (q ∷ rs) r ds =
      let n = length q.segment.documents in
      ap (λ cs. segment_of schema block_len (take n ds) ∷ cs) (cut-more rs r (drop n ds)
      ∙ ap (λ left. cut schema block_len rs (drop n ds) ++ segment_of schema block_len (take (length r.segment.documents) left) ∷ [])
      (drop-drop (document_count rs) n ds))
      ∙ ap (λ k. cut schema block_len (q ∷ rs) ds ++ segment_of schema block_len (take (length r.segment.documents) (drop k ds)) ∷ [])
      (sym (sum_by-cons (λ x. length x.segment.documents) q rs))

  -- one reader less
  pub cut-less : (rs : List Reader) (r : Reader) (ds : List OpenDocument) →
      segments_of (rs ++ r ∷ []) ≡ cut schema block_len (rs ++ r ∷ []) ds → segments_of rs ≡ cut schema block_len rs ds
  cut-less [] r ds are = refl
  cut-less (q ∷ rs) r ds are =
      let n = length q.segment.documents in
      ap (λ s. s ∷ segments_of rs) (ap (λ l. get_or l 0 q.segment) are)
      ∙ ap (λ cs. segment_of schema block_len (take n ds) ∷ cs) (cut-less rs r (drop n ds) (ap (drop 1) are))

  -- a document is marked, and deleted in its part
  pub cut-mark : (rs : List Reader) (k d : ℕ) (r : Reader) (ds : List OpenDocument) → slice_get rs k ≡ Some r → d < length r.segment.documents →
      document_count rs ≤ length ds → segments_of rs ≡ cut schema block_len rs ds →
      segments_of (set rs k (deleting r d)) ≡ cut schema block_len (set rs k (deleting r d)) (mark ds (document_count (take k rs) + d))
  cut-mark [] k d r ds there inside within are = cc
  cut-mark (q ∷ rs) zero d r ds there inside within are =
      let n = length r.segment.documents in
      let sum = sum_by-cons (λ x. length x.segment.documents) q rs in
      let same : q ≡ r = cc in
      let here : r.segment ≡ segment_of schema block_len (take n ds) =
      subst (λ x. x.segment ≡ segment_of schema block_len (take (length x.segment.documents) ds)) same (ap (λ l. get_or l 0 q.segment) are) in
      let long : d < length (take n ds) = omega (
        arith,
        inside,
        within,
        sum,
        ap (λ x. length x.segment.documents) same,
        length-take-le n ds (omega (arith, within, sum, ap (λ x. length x.segment.documents) same)),
      ) in
      let others : segments_of rs ≡ cut schema block_len rs (drop n ds) =
      subst (λ x. segments_of rs ≡ cut schema block_len rs (drop (length x.segment.documents) ds)) same (ap (drop 1) are) in
      ap (λ s. s ∷ segments_of rs) (ap (λ s. with_deleted s d) here ∙ segment_of-mark schema block_len (take n ds) d long
      ∙ ap (segment_of schema block_len) (sym (take-mark-past n ds d inside)))
      ∙ ap (λ cs. segment_of schema block_len (take n (mark ds d)) ∷ cs) (others ∙ ap (cut schema block_len rs) (sym (drop-mark-past n ds d inside)))
      ∙ ap (λ k. cut schema block_len (deleting r d ∷ rs) (mark ds k)) (omega arith)
  cut-mark (q ∷ rs) (suc k) d r ds there inside within are =
      let n = length q.segment.documents in
      let at = document_count (take k rs) + d in
      let far : document_count (take (suc k) (q ∷ rs)) + d ≡ n + at = omega (arith, sum_by-cons (λ x. length x.segment.documents) q (take k rs)) in
      let head : q.segment ≡ segment_of schema block_len (take n ds) = ap (λ l. get_or l 0 q.segment) are in
      let rest = cut-mark rs k d r (drop n ds) there inside
      (omega (arith, within, sum_by-cons (λ x. length x.segment.documents) q rs, length-drop n ds)) (ap (drop 1) are) in
      ap (λ s. s ∷ segments_of (set rs k (deleting r d))) (head ∙ ap (segment_of schema block_len) (sym (take-mark-before n ds (n + at) (omega arith))))
      ∙ ap (λ cs. segment_of schema block_len (take n (mark ds (n + at))) ∷ cs)
      (rest ∙ ap (cut schema block_len (set rs k (deleting r d))) (sym (drop-mark-before n ds at)))
      ∙ ap (λ m. cut schema block_len (q ∷ set rs k (deleting r d)) (mark ds m)) (sym far)

  -- a document that none of them has is marked
  pub cut-mark_past : (rs : List Reader) (ds : List OpenDocument) (d : ℕ) →
      cut schema block_len rs (mark ds (document_count rs + d)) ≡ cut schema block_len rs ds
  cut-mark_past [] ds d = refl
  cut-mark_past (r ∷ rs) ds d =
      let n = length r.segment.documents in
      let at = document_count rs + d in
      let far : document_count (r ∷ rs) + d ≡ n + at = omega (arith, sum_by-cons (λ x. length x.segment.documents) r rs) in
      ap (λ m. cut schema block_len (r ∷ rs) (mark ds m)) far
      ∙ ap (λ taken. segment_of schema block_len taken ∷ cut schema block_len rs (drop n (mark ds (n + at)))) (take-mark-before n ds (n + at) (omega arith))
      ∙ ap (λ left. segment_of schema block_len (take n ds) ∷ cut schema block_len rs left) (drop-mark-before n ds at)
      ∙ ap (λ cs. segment_of schema block_len (take n ds) ∷ cs) (cut-mark_past rs (drop n ds) d)

  -- so many documents from one on are a part of the segment of all
  piece : (ds : List OpenDocument) (first n : ℕ) → first + n ≤ length ds →
      segment_of schema block_len (take n (drop first ds)) ≡ part_of (segment_of schema block_len ds) first n
  piece ds first n inside =
      let taken = take n (drop first ds) in
      let long : length taken ≡ n = length-take-le n (drop first ds) (omega (arith, inside, length-drop first ds)) in
      let made : List Document → List ℕ →
      Segment = λ documents deleted. record { schema = schema; block_len = block_len; documents = documents; deleted = deleted } in
      ap (λ documents. made documents (marked taken))
      (sym (take-map (kept_of schema) n (drop first ds)) ∙ ap (take n) (sym (drop-map (kept_of schema) first ds)))
      ∙ ap (λ k. made (take n (drop first (map (kept_of schema) ds))) (members_between (is_marked taken) 0 k)) long
      ∙ ap (made (take n (drop first (map (kept_of schema) ds))))
      (members_between-same (is_marked taken) (λ d. is_deleted (segment_of schema block_len ds) (first + d)) 0 n (λ d above below. same d below))
    where
      same : (d : ℕ) → d < n → is_marked (take n (drop first ds)) d ≡ is_deleted (segment_of schema block_len ds) (first + d)
      same d below =
          ap (λ bs. get_or bs d false) (sym (take-map (λ x. x.is_deleted) n (drop first ds)) ∙ ap (take n) (sym (drop-map (λ x. x.is_deleted) first ds)))
          ∙ get_or-take n (drop first (map (λ x. x.is_deleted) ds)) d false below ∙ get_or-drop first (map (λ x. x.is_deleted) ds) d false
          ∙ sym (among_members (is_marked ds) (length ds) (first + d) (omega (arith, inside, below)))

  -- what is cut out of documents are parts of the segment of all
  pub cut-parts : (rs : List Reader) (ds : List OpenDocument) (first : ℕ) → segments_of rs ≡ cut schema block_len rs (drop first ds) →
      first + document_count rs ≡ length ds → ArePartsFrom first (segment_of schema block_len ds) (segments_of rs)
  cut-parts [] ds first are all = omega (arith, all, length-map ds (kept_of schema))
  cut-parts (r ∷ rs) ds first are all =
      let n = length r.segment.documents in (
        ap (λ l. get_or l 0 r.segment) are ∙ piece ds first n (omega (arith, all, sum_by-cons (λ x. length x.segment.documents) r rs)),
        cut-parts rs ds (first + n) (ap (drop 1) are ∙ ap (cut schema block_len rs) (drop-drop n first ds))
            (omega (arith, all, sum_by-cons (λ x. length x.segment.documents) r rs)),
      )
