-- The documents that no part had are cut behind all others.
use Rattle.std.proofs.Common.{◌≡◌, ◌-◌, ◌++◌, ◌∷◌, [], All, ap, sym, ◌∙◌, subst, arith, drop, length, take}
use Rattle.std.proofs.lemmas.List.{drop-append-le, length-append, length-drop, length-map, map-append, take-append-le, take_all}
use Rattle.std.proofs.lemmas.List.Sums.{sum_by-append, sum_by-cons}
use Rattle.qm_postings.specs.Reading.{Reader}
use Rattle.qm_index.specs.Numbers.{AreOf, document_count, ends_from}
use Rattle.qm_index.specs.OpenDocuments.{IsBadDraft, kept_of, segment_of}
use Rattle.qm_index.specs.Parts.{cut, segments_of}
use Rattle.qm_index.proofs.Cutting.{cut-more}
use Rattle.qm_index.proofs.index.Index.build_part.Goals as goal

pub invariant_of-self-2 : goal.invariant_of-self-2
invariant_of-self-2 c =
    let self = c.build_waiting.new.self in
    let before = c.make_room.new.self in
    let told = c.build_waiting.ensures in
    let ds = self.documents.items in
    let readers = self.searcher.segments in
    let parts = drop self.ended readers in
    let part = c.in_ok-part.part in
    let after = c.push_segment.new.self.segments in
    let pushed : after ≡ readers ++ part ∷ [] = ap (λ s. s.segments) c.in_ok-push_segment.ensures.pushed in
    let schema = ap (λ s. s.schema) c.in_ok-push_segment.ensures.pushed in
    let front : take self.ended after ≡ take self.ended readers = ap (take self.ended) pushed ∙ take-append-le self.ended readers (part ∷ []) self.within in
    let behind : drop self.ended after ≡ parts ++ part ∷ [] = ap (drop self.ended) pushed ∙ drop-append-le self.ended readers (part ∷ []) self.within in
    let is : part.segment ≡ segment_of self.searcher.schema self.block_len (drop self.built ds) =
    c.in_ok-part.ensures.segment
    ∙ ap (λ s. segment_of s.schema before.block_len (drop before.built before.documents.items)) (sym told.searcher)
    ∙ ap (λ b. segment_of self.searcher.schema b (drop before.built before.documents.items)) (sym told.block_len)
    ∙ ap (λ n. segment_of self.searcher.schema self.block_len (drop n before.documents.items)) (sym told.built)
    ∙ ap (λ v. segment_of self.searcher.schema self.block_len (drop self.built v.items)) (sym told.documents) in
    let count : length part.segment.documents ≡ length ds - self.built = ap (λ s. length s.documents) is
    ∙ length-map (drop self.built ds) (kept_of self.searcher.schema) ∙ length-drop self.built ds in
    let piece : segment_of self.searcher.schema self.block_len (take (length part.segment.documents) (drop (document_count parts) ds)) ≡ part.segment =
    ap (λ n. segment_of self.searcher.schema self.block_len (take (length part.segment.documents) (drop n ds))) self.built_parts
    ∙ ap (segment_of self.searcher.schema self.block_len)
    (take_all (length part.segment.documents) (drop self.built ds) (omega (arith, count, length-drop self.built ds)))
    ∙ sym is in
    record {
      block = self.block;
      within = omega (arith, self.within, ap length pushed, length-append readers (part ∷ []));
      room = self.room;
      some_built = omega (arith, c.len-self.ensures);
      few = self.few;
      counted = self.counted ∙ ap document_count (sym front);
      ends_known = self.ends_known ∙ ap (ends_from 0) (sym front);
      small = self.small;
      alike = subst (λ s. AreOf s (take self.ended after)) (sym schema) (subst (AreOf self.searcher.schema) (sym front) self.alike);
      some_saved = self.some_saved;
      built_parts = omega (
        arith,
        ap document_count behind,
        sum_by-append (λ (r : Reader). length r.segment.documents) parts (part ∷ []),
        sum_by-cons (λ (r : Reader). length r.segment.documents) part [],
        count,
        self.built_parts,
        self.some_built,
        c.len-self.ensures,
        self.documents.ok.0,
      );
      parts = subst (λ s. segments_of (drop self.ended after) ≡ cut s self.block_len (drop self.ended after) ds) (sym schema)
          (subst (λ rs. segments_of rs ≡ cut self.searcher.schema self.block_len rs ds) (sym behind)
          (map-append (λ (r : Reader). r.segment) parts (part ∷ [])
          ∙ ap (λ ss. ss ++ part.segment ∷ []) self.parts
          ∙ ap (λ s. cut self.searcher.schema self.block_len parts ds ++ s ∷ []) (sym piece)
          ∙ sym (cut-more self.searcher.schema self.block_len parts part ds)));
      building = λ x h. let none = sym told.taken ∙ h in cc;
      good = subst (λ s. All (λ d. ¬ IsBadDraft s d.given) ds) (sym schema) self.good;
    }
