-- The segments before the last, and the parts behind it, are what they were.
use Rattle.std.proofs.Common.{◌≡◌, ◌+◌, ◌-◌, ◌<◌, ◌++◌, ◌∷◌, [], List, All, ap, arith, drop, length, set, subst, suc, sym, take, ◌∙◌}
use Rattle.std.specs.Option.{ForSome}
use Rattle.std.proofs.lemmas.Grind.{take-set_at}
use Rattle.std.proofs.lemmas.List.{drop-set-lt, drop_all, length-set, length-take-le, map-append, set_split, take-take}
use Rattle.std.proofs.lemmas.List.Elements.{All-push, All-take}
use Rattle.std.proofs.lemmas.List.Sums.{sum_by-append, sum_by-cons}
use Rattle.qm_postings.specs.Reading.{Reader}
use Rattle.qm_postings.specs.Segment.{Segment}
use Rattle.qm_schema.specs.Schema.{FieldFacts}
use Rattle.qm_index.specs.Indexed.{Indexed}
use Rattle.qm_index.specs.Numbers.{AreOf, document_count, ends_from}
use Rattle.qm_index.specs.OpenDocuments.{IsBadDraft, segment_of, undeleted}
use Rattle.qm_index.specs.Parts.{cut, segments_of}
use Rattle.qm_index.specs.SavedIndex.{WereHeld}
use Rattle.qm_index.proofs.KeptOn.{more-were}
use Rattle.qm_index.proofs.LastSegments.{front-kept, front-segments}
use Rattle.qm_index.proofs.SegmentEnds.{ends-push, ends-take, length-ends}
use Rattle.qm_index.proofs.index.Index.replace_last_segment.Goals as goal

pub invariant_of-self-2 : goal.invariant_of-self-2
invariant_of-self-2 c =
    let self = c.args.self.now in
    let rs = self.searcher.segments in
    let n = self.ended - 1 in
    let segment = c.args.segment in
    let after = c.replace_segment.new.self.segments in
    let replaced : after ≡ set rs n segment = ap (λ s. s.segments) c.replace_segment.ensures.replaced in
    let schema = ap (λ s. s.schema) c.replace_segment.ensures.replaced in
    let next : self.ended ≡ n + 1 = omega (arith, c.requires.some) in
    let below : n < length rs = omega (arith, self.within, c.requires.some) in
    let front : take self.ended after ≡ take n rs ++ segment ∷ [] = ap (take self.ended) replaced ∙ take-set_at rs n self.ended segment next below in
    let behind : drop self.ended after ≡ drop self.ended rs = ap (drop self.ended) replaced ∙ drop-set-lt self.ended rs n segment (omega (arith, next)) in
    let fewer : take n (take self.ended rs) ≡ take n rs = take-take n self.ended rs (omega arith) in
    let long = length-set rs n segment in
    let now = ap (take self.ended) c.segment_readers.ensures.segments in
    let total = c.count_documents-self.result in
    let count = length-ends 0 (take self.ended rs) in
    let size = length-take-le self.ended rs self.within in
    let none : drop (suc n) (ends_from 0 (take self.ended rs)) ≡ [] = drop_all (suc n) (ends_from 0 (take self.ended rs)) (omega (arith, count, size)) in
    let all : total ≡ 0 + (document_count (take n rs) + length segment.segment.documents) = omega (
      arith,
      c.count_documents-self.ensures.count,
      ap document_count (now ∙ front),
      sum_by-append (λ (r : Reader). length r.segment.documents) (take n rs) (segment ∷ []),
      sum_by-cons (λ (r : Reader). length r.segment.documents) segment [],
    ) in
    record {
      block = self.block;
      within = omega (arith, ap length replaced, long, self.within);
      room = self.room;
      some_built = self.some_built;
      few = self.few;
      counted = c.count_documents-self.ensures.count ∙ ap document_count now;
      ends_known = ap (λ l. set l n total) self.ends_known
          ∙ set_split (ends_from 0 (take self.ended rs)) n total (omega (arith, count, size, c.requires.some))
          ∙ (λ i. ends-take 0 n (take self.ended rs) i ++ total ∷ none i) ∙ ap (λ l. ends_from 0 l ++ total ∷ []) fewer
          ∙ ap (λ t. ends_from 0 (take n rs) ++ t ∷ []) all ∙ sym (ends-push 0 (take n rs) segment) ∙ ap (ends_from 0) (sym front);
      small = omega (arith, c.count_documents-self.ensures.few, ap length now, length-take-le self.ended after (omega (arith, ap length replaced, long, self.within)));
      alike = subst (λ s. AreOf s (take self.ended after)) (sym schema) (subst (AreOf self.searcher.schema) (sym front)
          (All-push (λ (r : Reader). r.segment.schema ≡ self.searcher.schema) (take n rs) segment (subst (AreOf self.searcher.schema) fewer
          (All-take (λ (r : Reader). r.segment.schema ≡ self.searcher.schema) n (take self.ended rs) self.alike)) c.requires.schema));
      some_saved = omega (arith, c.truncate.ensures.len, self.some_saved);
      built_parts = ap document_count behind ∙ self.built_parts;
      parts = subst (λ s. segments_of (drop self.ended after) ≡ cut s self.block_len (drop self.ended after) self.documents.items) (sym schema)
          (subst (λ l. segments_of l ≡ cut self.searcher.schema self.block_len l self.documents.items) (sym behind) self.parts);
      building = subst (λ s. ForSome self.builder (λ b. b ≡ undeleted s self.block_len (drop self.built self.documents.items))) (sym schema) self.building;
      good = subst (λ s. All (λ d. ¬ IsBadDraft s d.given) self.documents.items) (sym schema) self.good;
    }

pub returns-clause-replaced : goal.returns-clause-replaced
returns-clause-replaced c =
    let self = c.args.self.now in
    let rs = self.searcher.segments in
    let n = self.ended - 1 in
    let segment = c.args.segment in
    let after = c.replace_segment.new.self.segments in
    let front : take self.ended after ≡ take n rs ++ segment ∷ [] = ap (λ s. take self.ended s.segments) c.replace_segment.ensures.replaced
    ∙ take-set_at rs n self.ended segment (omega (arith, c.requires.some)) (omega (arith, self.within, c.requires.some)) in
    let made : List Segment → List FieldFacts → Indexed = λ es fields. record { ended = es; current = segment_of fields self.block_len self.documents.items } in
    ap (λ l. made (segments_of l) c.replace_segment.new.self.schema) front
    ∙ ap (λ es. made es c.replace_segment.new.self.schema) (map-append (λ (r : Reader). r.segment) (take n rs) (segment ∷ []))
    ∙ (λ i. made (sym (front-segments self) i ++ segment.segment ∷ []) (ap (λ s. s.schema) c.replace_segment.ensures.replaced i))

pub returns-clause-merged : goal.returns-clause-merged
returns-clause-merged c = λ merged.
    let self = c.args.self.now in
    let rs = self.searcher.segments in
    omega (arith, merged, ap (λ s. length s.segments) c.replace_segment.ensures.replaced, length-set rs (self.ended - 1) c.args.segment)

pub returns-clause-kept : goal.returns-clause-kept
returns-clause-kept c = λ c' kept.
    let self = c.args.self.now in
    let rs = self.searcher.segments in
    let n = self.ended - 1 in
    let segment = c.args.segment in
    let after = c.replace_segment.new.self.segments in
    let front : take self.ended after ≡ take n rs ++ segment ∷ [] = ap (λ s. take self.ended s.segments) c.replace_segment.ensures.replaced
    ∙ take-set_at rs n self.ended segment (omega (arith, c.requires.some)) (omega (arith, self.within, c.requires.some)) in
    let ks = take n self.saved.segments.items in
    subst (λ l. WereHeld c' l (segments_of (take self.ended after))) (sym c.truncate.ensures.items)
    (subst (WereHeld c' ks) (sym (ap segments_of front ∙ map-append (λ (r : Reader). r.segment) (take n rs) (segment ∷ [])))
    (more-were c' ks (segments_of (take n rs)) (segment.segment ∷ []) (front-kept self c' kept)))

pub index_mut-requires : goal.index_mut-requires
index_mut-requires c =
    let self = c.args.self.now in
    omega (
      arith,
      c.requires.some,
      self.ends.ok.0,
      ap length self.ends_known,
      length-ends 0 (take self.ended self.searcher.segments),
      length-take-le self.ended self.searcher.segments self.within,
    )
