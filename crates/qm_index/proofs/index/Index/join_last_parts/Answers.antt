-- The segments before the last two are what they were.
use Rattle.std.proofs.Common.{◌≡◌, ◌+◌, ◌-◌, ◌++◌, ◌∷◌, [], All, ap, arith, drop, length, set, subst, sym, take, ◌∙◌}
use Rattle.std.specs.List.{remove}
use Rattle.std.specs.Option.{ForSome}
use Rattle.std.proofs.lemmas.List.{drop-append-le, length-append, take-append-le}
use Rattle.std.proofs.lemmas.List.Sums.{sum_by-append, sum_by-cons}
use Rattle.qm_postings.specs.Reading.{Reader}
use Rattle.qm_index.specs.Numbers.{AreOf, document_count, ends_from}
use Rattle.qm_index.specs.OpenDocuments.{IsBadDraft, undeleted}
use Rattle.qm_index.specs.Parts.{cut, segments_of}
use Rattle.qm_index.proofs.JoinedParts.{count-behind, cut-joined, one-for-two, parts-behind, within-others}
use Rattle.qm_index.proofs.index.Index.join_last_parts.Goals as goal

pub invariant_of-self : goal.invariant_of-self
invariant_of-self c =
    let self = c.args.self.now in
    let it = c.in_ok-joined.ensures.joined in
    let part = c.in_ok-joined.joined in
    let rs = self.searcher.segments in
    let ds = self.documents.items in
    let after = c.replace_segment.new.self.segments in
    let now = c.segment_readers.ensures.segments in
    let left : c.remove_segment.new.self.segments ≡ remove rs (length c.segment_readers.result.now - 1) = ap (λ s. s.segments) c.remove_segment.ensures.others in
    let is : after ≡ it.others ++ part ∷ [] = ap (λ s. s.segments) c.replace_segment.ensures.replaced
    ∙ ap (λ l. set l (length c.segment_readers.result.now - 1 - 1) part) left
    ∙ ap (λ l. set (remove rs (length l - 1)) (length l - 1 - 1) part) now
    ∙ one-for-two rs it.others it.first it.second part it.all in
    let schema = ap (λ s. s.schema) c.replace_segment.ensures.replaced ∙ ap (λ s. s.schema) c.remove_segment.ensures.others in
    let within = within-others self it.others it.first it.second c.requires.two it.all in
    let front : take self.ended after ≡ take self.ended rs = ap (take self.ended) is ∙ take-append-le self.ended it.others (part ∷ []) within
    ∙ sym (take-append-le self.ended it.others (it.first ∷ it.second ∷ []) within) ∙ ap (take self.ended) (sym it.all) in
    let others = drop self.ended it.others in
    let behind : drop self.ended after ≡ others ++ part ∷ [] = ap (drop self.ended) is ∙ drop-append-le self.ended it.others (part ∷ []) within in
    let size : length part.segment.documents ≡ length it.first.segment.documents + length it.second.segment.documents =
    ap (λ s. length s.documents) it.is ∙ length-append it.first.segment.documents it.second.segment.documents in
    record {
      block = self.block;
      within = omega (arith, within, ap length is, length-append it.others (part ∷ []));
      room = self.room;
      some_built = self.some_built;
      few = self.few;
      counted = self.counted ∙ ap document_count (sym front);
      ends_known = self.ends_known ∙ ap (ends_from 0) (sym front);
      small = self.small;
      alike = subst (λ s. AreOf s (take self.ended after)) (sym schema) (subst (AreOf self.searcher.schema) (sym front) self.alike);
      some_saved = self.some_saved;
      built_parts = omega (
        arith,
        ap document_count behind,
        sum_by-append (λ (r : Reader). length r.segment.documents) others (part ∷ []),
        sum_by-cons (λ (r : Reader). length r.segment.documents) part [],
        size,
        count-behind self it.others it.first it.second c.requires.two it.all,
      );
      parts = subst (λ s. segments_of (drop self.ended after) ≡ cut s self.block_len (drop self.ended after) ds) (sym schema)
          (subst (λ l. segments_of l ≡ cut self.searcher.schema self.block_len l ds) (sym behind)
          (cut-joined self.searcher.schema self.block_len others it.first it.second part ds it.is
          (subst (λ l. segments_of l ≡ cut self.searcher.schema self.block_len l ds)
          (parts-behind self it.others it.first it.second c.requires.two it.all) self.parts)));
      building = subst (λ s. ForSome self.builder (λ b. b ≡ undeleted s self.block_len (drop self.built ds))) (sym schema) self.building;
      good = subst (λ s. All (λ d. ¬ IsBadDraft s d.given) ds) (sym schema) self.good;
    }

pub returns-clause-fewer : goal.returns-clause-fewer
returns-clause-fewer c =
    let rs = c.args.self.now.searcher.segments in
    let it = c.in_ok-joined.ensures.joined in
    let part = c.in_ok-joined.joined in
    let is : c.replace_segment.new.self.segments ≡ it.others ++ part ∷ [] = ap (λ s. s.segments) c.replace_segment.ensures.replaced
    ∙ ap (λ s. set s.segments (length c.segment_readers.result.now - 1 - 1) part) c.remove_segment.ensures.others
    ∙ ap (λ l. set (remove rs (length l - 1)) (length l - 1 - 1) part) c.segment_readers.ensures.segments
    ∙ one-for-two rs it.others it.first it.second part it.all in
    omega (
      arith,
      ap length is,
      length-append it.others (part ∷ []),
      ap length it.all,
      length-append it.others (it.first ∷ it.second ∷ []),
    )
