-- The one part of the open segment stands behind those that were ended, and no part is left.
use Rattle.std.proofs.Common.{◌≡◌, List, ◌+◌, ◌++◌, ◌∷◌, [], ap, sym, subst, ◌∙◌, arith, drop, length, take, IsOk, rules}
use Rattle.std.proofs.lemmas.List.{drop_all, length-map, map-append, take-append-drop, take_all}
use Rattle.std.proofs.lemmas.List.Elements.{All-push}
use Rattle.std.proofs.lemmas.List.Sums.{sum_by-append, sum_by-cons}
use Rattle.qm_postings.specs.Reading.{Reader}
use Rattle.qm_postings.specs.Segment.{Segment}
use Rattle.qm_index.specs.Indexed.{Indexed, all_segments, indexed, with_segment_ended}
use Rattle.qm_index.specs.Numbers.{AreOf, document_count, ends_from}
use Rattle.qm_index.specs.OpenDocuments.{kept_of, segment_of, undeleted}
use Rattle.qm_index.specs.Parts.{cut, segments_of}
use Rattle.qm_index.proofs.JoinedParts.{has-whole}
use Rattle.qm_index.proofs.Marks.{segment_of-none}
use Rattle.qm_index.proofs.SegmentEnds.{ends-push}
use Rattle.qm_index.proofs.index.Index.end_segment.Goals as goal

pub invariant_of-self-2 : goal.invariant_of-self-2
invariant_of-self-2 c =
    let self = c.make_one_part.new.self in
    let told = c.in_ok-make_one_part.ensures in
    let it = has-whole self told.one told.refreshed in
    let schema = self.searcher.schema in
    let rs = self.searcher.segments in
    let readers = take self.ended rs in
    let all : take (self.ended + 1) rs ≡ readers ++ it.part ∷ [] = take_all (self.ended + 1) rs (omega (arith, told.one))
    ∙ sym (take-append-drop self.ended rs) ∙ ap (λ l. readers ++ l) it.behind in
    let nothing : drop (self.ended + 1) rs ≡ [] = drop_all (self.ended + 1) rs (omega (arith, told.one)) in
    let count : length it.part.segment.documents ≡ length self.documents.items =
    ap (λ s. length s.documents) it.whole ∙ length-map self.documents.items (kept_of schema) in
    let sum = ap document_count all ∙ sum_by-append (λ (r : Reader). length r.segment.documents) readers (it.part ∷ []) in
    let number = self.ended_documents + c.len.result in
    let ok : IsOk c.push.result = search rules in
    let added : c.push.new.self.items ≡ c.reserve.new.self.items ++ number ∷ [] = rw ok at c.push.ensures.items in
    let here : number ≡ 0 + (document_count readers + length it.part.segment.documents) =
    omega (arith, self.counted, count, c.len.ensures, self.documents.ok.0) in
    record {
      block = self.block;
      within = omega (arith, told.one);
      room = omega (arith, c.if-self-ge-MAX_SEGMENTS.false, c.make_one_part.ensures.ended);
      some_built = omega (arith, c.clear.ensures.len);
      few = omega (arith, c.clear.ensures.len);
      counted = omega (
        arith,
        self.counted,
        sum,
        sum_by-cons (λ (r : Reader). length r.segment.documents) it.part [],
        count,
        c.len.ensures,
        self.documents.ok.0,
      );
      ends_known = added ∙ ap (λ l. l ++ number ∷ []) (c.reserve.ensures.items ∙ self.ends_known)
          ∙ ap (λ n. ends_from 0 readers ++ n ∷ []) here ∙ sym (ends-push 0 readers it.part) ∙ ap (ends_from 0) (sym all);
      small = omega (arith, self.small, self.few, c.len.ensures, self.documents.ok.0);
      alike = subst (AreOf schema) (sym all)
          (All-push (λ (r : Reader). r.segment.schema ≡ schema) readers it.part self.alike (ap (λ s. s.schema) it.whole));
      some_saved = omega (arith, self.some_saved);
      built_parts = ap document_count nothing;
      parts = ap segments_of nothing ∙ sym (ap (λ l. cut schema self.block_len l c.clear.new.self.items) nothing);
      building = λ x h. self.building x h ∙ ap (undeleted schema self.block_len)
          (drop_all self.built self.documents.items (omega (arith, told.refreshed, self.documents.ok.0)) ∙ sym c.clear.ensures.items);
      good = λ k d below. absurd (omega (arith, ap length c.clear.ensures.items));
    }

pub returns-clause-ended : goal.returns-clause-ended
returns-clause-ended c =
    let self = c.make_one_part.new.self in
    let told = c.in_ok-make_one_part.ensures in
    let it = has-whole self told.one told.refreshed in
    let schema = self.searcher.schema in
    let rs = self.searcher.segments in
    let readers = take self.ended rs in
    let all : take (self.ended + 1) rs ≡ readers ++ it.part ∷ [] = take_all (self.ended + 1) rs (omega (arith, told.one))
    ∙ sym (take-append-drop self.ended rs) ∙ ap (λ l. readers ++ l) it.behind in
    let made : List Segment → Segment → Indexed = λ es s. record { ended = es; current = s } in
    let left = segment_of schema self.block_len c.clear.new.self.items in
    ap (λ l. made (segments_of l) left) all
    ∙ ap (λ es. made es left) (map-append (λ (r : Reader). r.segment) readers (it.part ∷ []))
    ∙ ap (λ s. made (segments_of readers ++ s ∷ []) left) it.whole
    ∙ ap (λ l. made (all_segments (indexed self)) (segment_of schema self.block_len l)) c.clear.ensures.items
    ∙ ap (made (all_segments (indexed self))) (segment_of-none schema self.block_len)
    ∙ ap with_segment_ended c.make_one_part.ensures.documents
