-- The segments before the last, and the parts behind it, are what they were.
use Rattle.std.proofs.Common.{◌≡◌, ◌+◌, ◌-◌, ◌≤◌, List, All, ap, arith, drop, length, subst, sym, take, ◌∙◌}
use Rattle.std.specs.List.{remove}
use Rattle.std.specs.Option.{ForSome}
use Rattle.std.proofs.lemmas.List.{length-take-le, take-take}
use Rattle.std.proofs.lemmas.List.Edits.{length-remove}
use Rattle.std.proofs.lemmas.List.Elements.{All-take}
use Rattle.qm_postings.specs.Reading.{Reader}
use Rattle.qm_postings.specs.Segment.{Segment}
use Rattle.qm_schema.specs.Schema.{FieldFacts}
use Rattle.qm_index.specs.Indexed.{Indexed}
use Rattle.qm_index.specs.Numbers.{AreOf, document_count, ends_from}
use Rattle.qm_index.specs.OpenDocuments.{IsBadDraft, segment_of, undeleted}
use Rattle.qm_index.specs.Parts.{cut, segments_of}
use Rattle.qm_index.specs.SavedIndex.{WereHeld}
use Rattle.qm_index.proofs.LastSegments.{drop-removed, front-kept, front-segments, take-removed}
use Rattle.qm_index.proofs.SegmentEnds.{ends-take}
use Rattle.qm_index.proofs.index.Index.drop_last_segment.Goals as goal

pub invariant_of-self-2 : goal.invariant_of-self-2
invariant_of-self-2 c =
    let self = c.args.self.now in
    let rs = self.searcher.segments in
    let n = self.ended - 1 in
    let after = c.remove_segment.new.self.segments in
    let removed : after ≡ remove rs n = ap (λ s. s.segments) c.remove_segment.ensures.others in
    let schema = ap (λ s. s.schema) c.remove_segment.ensures.others in
    let within : n ≤ length rs = omega (arith, self.within) in
    let front : take n after ≡ take n rs = ap (take n) removed ∙ take-removed n rs within in
    let next : n + 1 ≡ self.ended = omega (arith, c.requires.some) in
    let behind : drop n after ≡ drop self.ended rs = ap (drop n) removed ∙ drop-removed n rs within ∙ ap (λ k. drop k rs) next in
    let fewer : take n (take self.ended rs) ≡ take n rs = take-take n self.ended rs (omega arith) in
    let longer = length-remove rs n (omega (arith, self.within, c.requires.some)) in
    let now = ap (take n) c.segment_readers.ensures.segments in
    record {
      block = self.block;
      within = omega (arith, ap length removed, longer, self.within, c.requires.some);
      room = omega (arith, self.room);
      some_built = self.some_built;
      few = self.few;
      counted = c.count_documents-self.ensures.count ∙ ap document_count now;
      ends_known = c.truncate.ensures.items ∙ ap (take n) self.ends_known ∙ ends-take 0 n (take self.ended rs) ∙ ap (ends_from 0) (fewer ∙ sym front);
      small = omega (arith, c.count_documents-self.ensures.few, ap length now, length-take-le n after (omega (arith, ap length removed, longer, self.within, c.requires.some)));
      alike = subst (λ s. AreOf s (take n after)) (sym schema) (subst (AreOf self.searcher.schema) (fewer ∙ sym front)
          (All-take (λ (r : Reader). r.segment.schema ≡ self.searcher.schema) n (take self.ended rs) self.alike));
      some_saved = omega (arith, c.truncate-2.ensures.len, self.some_saved);
      built_parts = ap document_count behind ∙ self.built_parts;
      parts = subst (λ s. segments_of (drop n after) ≡ cut s self.block_len (drop n after) self.documents.items) (sym schema)
          (subst (λ l. segments_of l ≡ cut self.searcher.schema self.block_len l self.documents.items) (sym behind) self.parts);
      building = subst (λ s. ForSome self.builder (λ b. b ≡ undeleted s self.block_len (drop self.built self.documents.items))) (sym schema) self.building;
      good = subst (λ s. All (λ d. ¬ IsBadDraft s d.given) self.documents.items) (sym schema) self.good;
    }

pub returns-clause-dropped : goal.returns-clause-dropped
returns-clause-dropped c =
    let self = c.args.self.now in
    let rs = self.searcher.segments in
    let n = self.ended - 1 in
    let after = c.remove_segment.new.self.segments in
    let front : take n after ≡ take n rs = ap (λ s. take n s.segments) c.remove_segment.ensures.others ∙ take-removed n rs (omega (arith, self.within)) in
    let made : List Segment → List FieldFacts → Indexed = λ es fields. record { ended = es; current = segment_of fields self.block_len self.documents.items } in
    ap (λ l. made (segments_of l) c.remove_segment.new.self.schema) front
    ∙ (λ i. made (sym (front-segments self) i) (ap (λ s. s.schema) c.remove_segment.ensures.others i))

pub returns-clause-merged : goal.returns-clause-merged
returns-clause-merged c = λ merged.
    let self = c.args.self.now in
    let rs = self.searcher.segments in
    omega (
      arith,
      merged,
      ap (λ s. length s.segments) c.remove_segment.ensures.others,
      length-remove rs (self.ended - 1) (omega (arith, self.within, c.requires.some)),
      c.requires.some,
    )

pub returns-clause-kept : goal.returns-clause-kept
returns-clause-kept c = λ c' kept.
    let self = c.args.self.now in
    let rs = self.searcher.segments in
    let n = self.ended - 1 in
    let after = c.remove_segment.new.self.segments in
    let front : take n after ≡ take n rs = ap (λ s. take n s.segments) c.remove_segment.ensures.others ∙ take-removed n rs (omega (arith, self.within)) in
    subst (λ ks. WereHeld c' ks (segments_of (take n after))) (sym c.truncate-2.ensures.items)
    (subst (λ l. WereHeld c' (take n self.saved.segments.items) (segments_of l)) (sym front) (front-kept self c' kept))
