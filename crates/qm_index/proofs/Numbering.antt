-- Documents by their numbers over several segments.
use Rattle.std.proofs.Common.{◌≡◌, ℕ, zero, suc, ◌+◌, ◌-◌, ◌<◌, ◌≤◌, List, [], ◌∷◌, ◌++◌, cond, drop, length, take, set, All, Some}
use Rattle.std.proofs.Common.{refl, sym, ap, subst, ◌∙◌, arith, slice_get, lt-ltb, le-ltb, OnErr, OnOk, Result, Ok, Err, ◌⊎◌, inl, inr}
use Rattle.std.proofs.lemmas.List.Sums.{sum_by-cons}
use Rattle.std.proofs.lemmas.List.Elements.{All-head, All-set, All-tail}
use Rattle.std.proofs.lemmas.List.{drop-set-add, drop-set-lt, length-set, length-take-le, take-set-le}
use Rattle.std.proofs.Math.Seq.{take-set-lt}
use Rattle.std.proofs.lemmas.Option.{slice_get_within}
use Rattle.qm_postings.specs.Reading.{Reader, deleting}
use Rattle.qm_postings.specs.Statistics.{DeletesIn}
use Rattle.qm_postings.specs.declared.address.DocAddress.{DocAddress}
use Rattle.qm_postings.specs.Segment.{Segment, with_deleted}
use Rattle.qm_index.specs.Numbers.{AreOf, IsAddressOf, count_of, deleted_among, document_count, ends_from}
use Rattle.qm_schema.specs.Schema.{FieldFacts}
use Rattle.qm_index.specs.Parts.{segments_of}
use Rattle.qm_index.proofs.SegmentEnds.{ends-set}

-- in the first segment, or behind it
first_of : (s : Segment) (ss : List Segment) (n : ℕ) → n < length s.documents → deleted_among (s ∷ ss) n ≡ with_deleted s n ∷ ss
first_of s ss n below = ap (λ b. cond b (with_deleted s n ∷ ss) (s ∷ deleted_among ss (n - length s.documents))) (lt-ltb n (length s.documents) below)

behind : (s : Segment) (ss : List Segment) (n : ℕ) → deleted_among (s ∷ ss) (length s.documents + n) ≡ s ∷ deleted_among ss n
behind s ss n =
    ap (λ b. cond b (with_deleted s (length s.documents + n) ∷ ss) (s ∷ deleted_among ss (length s.documents + n - length s.documents)))
    (le-ltb (length s.documents + n) (length s.documents) (omega arith))
    ∙ ap (λ k. s ∷ deleted_among ss k) (omega arith)

-- a document of a reader among readers
pub deleted_among-reader : (rs : List Reader) (k d : ℕ) (r : Reader) (others : List Segment) → slice_get rs k ≡ Some r → d < length r.segment.documents →
    deleted_among (segments_of rs ++ others) (document_count (take k rs) + d) ≡ segments_of (set rs k (deleting r d)) ++ others
deleted_among-reader [] k d r others there inside = cc
deleted_among-reader (q ∷ rs) zero d r others there inside =
    let same : q ≡ r = cc in
    ap (deleted_among (segments_of (q ∷ rs) ++ others)) (omega arith)
    ∙ first_of q.segment (segments_of rs ++ others) d (omega (arith, inside, ap (λ x. length x.segment.documents) same))
    ∙ ap (λ x. with_deleted x.segment d ∷ segments_of rs ++ others) same
deleted_among-reader (q ∷ rs) (suc k) d r others there inside =
    let far : document_count (take (suc k) (q ∷ rs)) + d ≡ length q.segment.documents + (document_count (take k rs) + d) =
    omega (arith, sum_by-cons (λ x. length x.segment.documents) q (take k rs)) in
    ap (deleted_among (segments_of (q ∷ rs) ++ others)) far
    ∙ behind q.segment (segments_of rs ++ others) (document_count (take k rs) + d)
    ∙ ap (λ ss. q.segment ∷ ss) (deleted_among-reader rs k d r others there inside)

-- a document behind all readers
pub deleted_among-past : (rs : List Reader) (last : Segment) (n : ℕ) → n < length last.documents →
    deleted_among (segments_of rs ++ last ∷ []) (document_count rs + n) ≡ segments_of rs ++ with_deleted last n ∷ []
deleted_among-past [] last n inside = ap (deleted_among (last ∷ [])) (omega arith) ∙ first_of last [] n inside
deleted_among-past (q ∷ rs) last n inside =
    let far : document_count (q ∷ rs) + n ≡ length q.segment.documents + (document_count rs + n) =
    omega (arith, sum_by-cons (λ x. length x.segment.documents) q rs) in
    ap (deleted_among (segments_of (q ∷ rs) ++ last ∷ [])) far
    ∙ behind q.segment (segments_of rs ++ last ∷ []) (document_count rs + n)
    ∙ ap (λ ss. q.segment ∷ ss) (deleted_among-past rs last n inside)

-- how many documents the segments have
pub count_of-readers : (rs : List Reader) (last : Segment) → count_of (segments_of rs ++ last ∷ []) ≡ document_count rs + length last.documents
count_of-readers [] last = omega (arith, sum_by-cons (λ s. length s.documents) last [])
count_of-readers (q ∷ rs) last =
    omega (
      arith,
      count_of-readers rs last,
      sum_by-cons (λ s. length s.documents) q.segment (segments_of rs ++ last ∷ []),
      sum_by-cons (λ x. length x.segment.documents) q rs,
    )

-- ---- a document that is deleted among the segments that were ended, or among the parts behind them

slice_get-take : {X : Type 0} (n i : ℕ) (xs : List X) → i < n → slice_get (take n xs) i ≡ slice_get xs i
slice_get-take zero i xs below = absurd (omega (arith, below))
slice_get-take (suc n) i [] below = refl
slice_get-take (suc n) zero (x ∷ xs) below = refl
slice_get-take (suc n) (suc i) (x ∷ xs) below = slice_get-take n i xs (omega (arith, below))

slice_get-drop : {X : Type 0} (n i : ℕ) (xs : List X) → slice_get (drop n xs) i ≡ slice_get xs (n + i)
slice_get-drop zero i xs = ap (slice_get xs) (omega arith)
slice_get-drop (suc n) i [] = refl
slice_get-drop (suc n) i (x ∷ xs) = let next : suc n + i ≡ suc (n + i) = omega arith in slice_get-drop n i xs ∙ ap (slice_get (x ∷ xs)) (sym next)

-- Of some readers, one document more of that in its place is deleted, which has the number that was wanted.
pub record DeletesAt (wanted : ℕ) (before left : List Reader) : Type 0 where
  pub place : ℕ
  pub doc : ℕ
  pub reader : Reader
  pub there : slice_get before place ≡ Some reader
  pub inside : doc < length reader.segment.documents
  pub number : wanted ≡ document_count (take place before) + doc
  pub after : left ≡ set before place (deleting reader doc)

module _ (readers after : List Reader) (ended wanted : ℕ) (address : DocAddress) (deletes : DeletesIn readers address after) where
  module _ (within : ended ≤ length readers) (at : IsAddressOf (take ended readers) 0 wanted address) where
    below : at.place < ended
    below = let l = slice_get_within (take ended readers) at.place at.reader at.there in omega (arith, l, length-take-le ended readers within)

    ord : address.segment_ord ≡ at.place
    ord = omega (arith, at.segment)

    found : slice_get (take ended readers) at.place ≡ Some deletes.0
    found = slice_get-take ended at.place readers below ∙ ap (slice_get readers) (sym ord) ∙ deletes.1

    pub ended-deleted : DeletesAt wanted (take ended readers) (take ended after)
    ended-deleted = record {
      place = at.place;
      doc = address.doc_id;
      reader = deletes.0;
      there = found;
      inside = let same : at.reader ≡ deletes.0 = let a = at.there in let b = found in cc in
          omega (arith, at.document, ap (λ r. length r.segment.documents) same);
      number = at.number;
      after = ap (take ended) (deletes.2 ∙ ap (λ i. set readers i (deleting deletes.0 address.doc_id)) ord)
          ∙ take-set-lt ended readers at.place (deleting deletes.0 address.doc_id) below;
    }

    pub ended-others : drop ended after ≡ drop ended readers
    ended-others = ap (drop ended) (deletes.2 ∙ ap (λ i. set readers i (deleting deletes.0 address.doc_id)) ord)
        ∙ drop-set-lt ended readers at.place (deleting deletes.0 address.doc_id) below

  module _ (at : IsAddressOf (drop ended readers) ended wanted address) where
    found_part : slice_get (drop ended readers) at.place ≡ Some deletes.0
    found_part = slice_get-drop ended at.place readers ∙ ap (slice_get readers) (sym at.segment) ∙ deletes.1

    pub part-deleted : DeletesAt wanted (drop ended readers) (drop ended after)
    part-deleted = record {
      place = at.place;
      doc = address.doc_id;
      reader = deletes.0;
      there = found_part;
      inside = let same : at.reader ≡ deletes.0 = let a = at.there in let b = found_part in cc in
          omega (arith, at.document, ap (λ r. length r.segment.documents) same);
      number = at.number;
      after = ap (drop ended) (deletes.2 ∙ ap (λ i. set readers i (deleting deletes.0 address.doc_id)) at.segment)
          ∙ drop-set-add ended readers at.place (deleting deletes.0 address.doc_id);
    }

    pub part-others : take ended after ≡ take ended readers
    part-others = ap (take ended) (deletes.2 ∙ ap (λ i. set readers i (deleting deletes.0 address.doc_id)) at.segment)
        ∙ take-set-le ended readers (ended + at.place) (deleting deletes.0 address.doc_id) (omega arith)

-- with one document more deleted there are as many documents as before
pub document_count-set : (rs : List Reader) (k d : ℕ) (r : Reader) → slice_get rs k ≡ Some r → document_count (set rs k (deleting r d)) ≡ document_count rs
document_count-set [] k d r there = refl
document_count-set (q ∷ rs) zero d r there =
    let same : q ≡ r = cc in
    omega (
      arith,
      ap (λ x. length x.segment.documents) same,
      sum_by-cons (λ x. length x.segment.documents) q rs,
      sum_by-cons (λ x. length x.segment.documents) (deleting r d) rs,
    )
document_count-set (q ∷ rs) (suc k) d r there =
    omega (
      arith,
      document_count-set rs k d r there,
      sum_by-cons (λ x. length x.segment.documents) q rs,
      sum_by-cons (λ x. length x.segment.documents) q (set rs k (deleting r d)),
    )

-- what holds of each of them holds of the one at a place
at-place : (P : Reader → Type 0) (rs : List Reader) (k : ℕ) (r : Reader) → slice_get rs k ≡ Some r → All P rs → P r
at-place P [] k r there all = absurd (cc)
at-place P (q ∷ rs) zero r there all = let same : q ≡ r = cc in subst P same (All-head P q rs all)
at-place P (q ∷ rs) (suc k) r there all = at-place P rs k r there (All-tail P q rs all)

-- Readers of which as many were ended, with as many documents, and whose others are the same.
pub record KeepsParts (ended : ℕ) (before after : List Reader) : Type 0 where
  pub number : length after ≡ length before
  pub count : document_count (take ended after) ≡ document_count (take ended before)
  pub ends : ends_from 0 (take ended after) ≡ ends_from 0 (take ended before)
  pub parts : drop ended after ≡ drop ended before
  pub alike : (schema : List FieldFacts) → AreOf schema (take ended before) → AreOf schema (take ended after)

pub KeepsParts-ended : (readers after : List Reader) (ended wanted : ℕ) (address : DocAddress) → ended ≤ length readers →
    IsAddressOf (take ended readers) 0 wanted address → DeletesIn readers address after → KeepsParts ended readers after
KeepsParts-ended readers after ended wanted address within at deletes =
    let deleted = ended-deleted readers after ended wanted address deletes within at in
    record {
      number = ap length deletes.2 ∙ length-set readers address.segment_ord (deleting deletes.0 address.doc_id);
      count = ap document_count deleted.after ∙ document_count-set (take ended readers) deleted.place deleted.doc deleted.reader deleted.there;
      ends = ap (ends_from 0) deleted.after ∙ ends-set 0 (take ended readers) deleted.place deleted.doc deleted.reader deleted.there;
      parts = ended-others readers after ended wanted address deletes within at;
      alike = λ schema are. subst (AreOf schema) (sym deleted.after)
          (All-set (λ (r : Reader). r.segment.schema ≡ schema) (take ended readers) deleted.place (deleting deleted.reader deleted.doc)
          (at-place (λ (r : Reader). r.segment.schema ≡ schema) (take ended readers) deleted.place deleted.reader deleted.there are) are);
    }

pub KeepsParts-same : (readers after : List Reader) (ended : ℕ) → after ≡ readers → KeepsParts ended readers after
KeepsParts-same readers after ended same =
    record {
      number = ap length same;
      count = ap (λ rs. document_count (take ended rs)) same;
      ends = ap (λ rs. ends_from 0 (take ended rs)) same;
      parts = ap (drop ended) same;
      alike = λ schema are. subst (λ rs. AreOf schema (take ended rs)) (sym same) are;
    }

-- what holds of a call that succeeds, or of one that fails
pub either : {A E P Q : Type 0} (r : Result A E) → OnOk r P → OnErr r Q → P ⊎ Q
either (Ok a) done failed = inl done
either (Err e) done failed = inr failed
