-- The document is marked, and no part has it.
use Rattle.std.proofs.Common.{◌≡◌, ◌-◌, ◌<◌, true, All, drop, length, take, set, ap, sym, ◌∙◌, subst, arith}
use Rattle.qm_postings.specs.Segment.{Segment}
use Rattle.qm_index.specs.Indexed.{Indexed}
use Rattle.qm_index.specs.OpenDocuments.{IsBadDraft, mark, segment_of, undeleted}
use Rattle.qm_index.specs.Parts.{cut, segments_of}
use Rattle.qm_index.specs.declared.open_document.OpenDocument.{OpenDocument}
use Rattle.qm_index.proofs.Cutting.{cut-mark_past}
use Rattle.qm_index.proofs.Marks.{All-mark, segment_of-mark, set-mark, undeleted-mark}
use Rattle.qm_index.proofs.index.Index.mark_waiting.Goals as goal

pub invariant_of-self : goal.invariant_of-self
invariant_of-self c =
    let self = c.args.self.now in
    let ds = self.documents.items in
    let place = c.args.place in
    let x = c.index_mut.result.now in
    let inside : place < length ds = omega (arith, self.documents.ok.0, c.requires.there) in
    let marked : set ds place (record { given = x.given; is_deleted = true }) ≡ mark ds place =
    ap (λ (y : OpenDocument). set ds place (record { given = y.given; is_deleted = true })) c.index_mut.ensures.value ∙ set-mark ds place x inside in
    let parts = drop self.ended self.searcher.segments in
    record {
      block = self.block;
      within = self.within;
      room = self.room;
      some_built = self.some_built;
      few = self.few;
      counted = self.counted;
      ends_known = self.ends_known;
      small = self.small;
      alike = self.alike;
      some_saved = self.some_saved;
      built_parts = self.built_parts;
      parts = self.parts ∙ sym (cut-mark_past self.searcher.schema self.block_len parts ds (place - self.built))
          ∙ ap (λ n. cut self.searcher.schema self.block_len parts (mark ds n)) (omega (arith, self.built_parts, c.requires.waiting))
          ∙ ap (cut self.searcher.schema self.block_len parts) (sym marked);
      building = λ b is. self.building b is ∙ sym (undeleted-mark self.searcher.schema self.block_len self.built ds place)
          ∙ ap (λ l. undeleted self.searcher.schema self.block_len (drop self.built l)) (sym marked);
      good = subst (All (λ d. ¬ IsBadDraft self.searcher.schema d.given)) (sym marked)
          (All-mark (λ d. ¬ IsBadDraft self.searcher.schema d.given) (λ y p. p) ds place self.good);
    }

pub returns-clause-deleted : goal.returns-clause-deleted
returns-clause-deleted c =
    let self = c.args.self.now in
    let ds = self.documents.items in
    let place = c.args.place in
    let x = c.index_mut.result.now in
    let inside : place < length ds = omega (arith, self.documents.ok.0, c.requires.there) in
    let marked : set ds place (record { given = x.given; is_deleted = true }) ≡ mark ds place =
    ap (λ (y : OpenDocument). set ds place (record { given = y.given; is_deleted = true })) c.index_mut.ensures.value ∙ set-mark ds place x inside in
    let made : Segment → Indexed = λ segment. record { ended = segments_of (take self.ended self.searcher.segments); current = segment } in
    ap (λ l. made (segment_of self.searcher.schema self.block_len l)) marked
    ∙ ap made (sym (segment_of-mark self.searcher.schema self.block_len ds place inside))
