-- The parts before the last are what they were.
use Rattle.std.proofs.Common.{◌≡◌, ◌+◌, ◌≤◌, ◌++◌, ◌∷◌, [], All, drop, length, take, ap, sym, ◌∙◌, subst, arith}
use Rattle.std.proofs.lemmas.List.{drop-append-le, length-append, take-append-le}
use Rattle.std.proofs.lemmas.List.Sums.{sum_by-append, sum_by-cons}
use Rattle.qm_postings.specs.Reading.{Reader}
use Rattle.qm_index.specs.Numbers.{AreOf, document_count, ends_from}
use Rattle.qm_index.specs.OpenDocuments.{IsBadDraft}
use Rattle.qm_index.specs.Parts.{cut, segments_of}
use Rattle.qm_index.proofs.Cutting.{cut-less}
use Rattle.qm_index.proofs.index.Index.take_last_part_back.Goals as goal

pub invariant_of-self : goal.invariant_of-self
invariant_of-self c =
    let self = c.args.self.now in
    let readers = self.searcher.segments in
    let part = c.in-Some.part in
    let left = c.pop_segment.new.self.segments in
    let pushed : readers ≡ left ++ part ∷ [] = c.in-Some.ensures.last in
    let long : length readers ≡ length left + 1 = ap length pushed ∙ length-append left (part ∷ []) in
    let within : self.ended ≤ length left = omega (arith, long, c.requires) in
    let front : take self.ended readers ≡ take self.ended left = ap (take self.ended) pushed ∙ take-append-le self.ended left (part ∷ []) within in
    let behind : drop self.ended readers ≡ drop self.ended left ++ part ∷ [] = ap (drop self.ended) pushed
    ∙ drop-append-le self.ended left (part ∷ []) within in
    let schema = ap (λ s. s.schema) c.pop_segment.ensures.others in
    let sum = sum_by-append (λ (r : Reader). length r.segment.documents) (drop self.ended left) (part ∷ []) in
    let all = ap document_count behind in
    record {
      block = self.block;
      within = within;
      room = self.room;
      some_built = omega (arith, self.some_built);
      few = self.few;
      counted = self.counted ∙ ap document_count front;
      ends_known = self.ends_known ∙ ap (ends_from 0) front;
      small = self.small;
      alike = subst (λ s. AreOf s (take self.ended left)) (sym schema) (subst (AreOf self.searcher.schema) front self.alike);
      some_saved = self.some_saved;
      built_parts = omega (
        arith,
        all,
        sum,
        self.built_parts,
        c.max_doc.ensures.number,
        sum_by-cons (λ (r : Reader). length r.segment.documents) part [],
      );
      parts = subst (λ s. segments_of (drop self.ended left) ≡ cut s self.block_len (drop self.ended left) self.documents.items) (sym schema)
          (cut-less self.searcher.schema self.block_len (drop self.ended left) part self.documents.items
          (subst (λ rs. segments_of rs ≡ cut self.searcher.schema self.block_len rs self.documents.items) behind self.parts));
      building = λ x h. cc;
      good = subst (λ s. All (λ d. ¬ IsBadDraft s d.given) self.documents.items) (sym schema) self.good;
    }
