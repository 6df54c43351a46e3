-- The part of the document has one less alive, and the document is marked; the ended segments are what they were.
use Rattle.std.proofs.Common.{◌≡◌, List, ◌-◌, ◌<◌, true, All, drop, length, take, set, ap, sym, ◌∙◌, subst, arith}
use Rattle.std.specs.Option.{ForSome}
use Rattle.std.proofs.lemmas.List.{length-drop, length-set, take_all}
use Rattle.qm_postings.specs.Reading.{Reader, deleting}
use Rattle.qm_postings.specs.Segment.{Segment}
use Rattle.qm_index.specs.Indexed.{Indexed}
use Rattle.qm_index.specs.Numbers.{AreOf, IsAddressOf, document_count, ends_from}
use Rattle.qm_index.specs.OpenDocuments.{IsBadDraft, mark, segment_of, undeleted}
use Rattle.qm_index.specs.Parts.{cut, segments_of}
use Rattle.qm_index.specs.declared.open_document.OpenDocument.{OpenDocument}
use Rattle.qm_index.proofs.Cutting.{cut-mark}
use Rattle.qm_index.proofs.Marks.{All-mark, segment_of-mark, set-mark, undeleted-mark}
use Rattle.qm_index.proofs.Numbering.{document_count-set, part-deleted, part-others}
use Rattle.qm_index.proofs.index.Index.delete_built.Goals as goal

pub invariant_of-self-2 : goal.invariant_of-self-2
invariant_of-self-2 c =
    let self = c.args.self.now in
    let ds = self.documents.items in
    let place = c.args.place in
    let x = c.index_mut.result.now in
    let inside : place < length ds = omega (arith, self.documents.ok.0, self.some_built, c.requires) in
    let left : List OpenDocument = set ds place (record { given = x.given; is_deleted = true }) in
    let marked : left ≡ mark ds place =
    ap (λ (y : OpenDocument). set ds place (record { given = y.given; is_deleted = true })) c.index_mut.ensures.value ∙ set-mark ds place x inside in
    let readers = self.searcher.segments in
    let after = c.delete.new.self.segments in
    let address = c.address_among-address.result in
    let deletes = c.in_ok-delete.ensures.deleted in
    let now = c.segment_readers.result.now in
    let at = subst (λ rs. IsAddressOf (drop self.ended rs) self.ended place address) c.segment_readers.ensures.segments
    (subst (λ rs. IsAddressOf rs self.ended place address)
    (take_all (length now - self.ended) (drop self.ended now) (omega (arith, length-drop self.ended now))) c.address_among-address.ensures.address) in
    let deleted = part-deleted readers after self.ended place address deletes at in
    let others = part-others readers after self.ended place address deletes at in
    let schema = ap (λ s. s.schema) c.delete.ensures.others in
    let parts = drop self.ended readers in
    record {
      block = self.block;
      within = omega (arith, self.within, ap length deletes.2, length-set readers address.segment_ord (deleting deletes.0 address.doc_id));
      room = self.room;
      some_built = self.some_built;
      few = self.few;
      counted = self.counted ∙ ap document_count (sym others);
      ends_known = self.ends_known ∙ ap (ends_from 0) (sym others);
      small = self.small;
      alike = subst (λ s. AreOf s (take self.ended after)) (sym schema) (subst (AreOf self.searcher.schema) (sym others) self.alike);
      some_saved = self.some_saved;
      built_parts = ap document_count deleted.after ∙ document_count-set parts deleted.place deleted.doc deleted.reader deleted.there ∙ self.built_parts;
      parts = subst (λ s. segments_of (drop self.ended after) ≡ cut s self.block_len (drop self.ended after) left) (sym schema)
          (subst (λ rs. segments_of rs ≡ cut self.searcher.schema self.block_len rs left) (sym deleted.after)
          (cut-mark self.searcher.schema self.block_len parts deleted.place deleted.doc deleted.reader ds deleted.there deleted.inside
          (omega (arith, self.built_parts, self.some_built, self.documents.ok.0)) self.parts
          ∙ ap (λ n. cut self.searcher.schema self.block_len (set parts deleted.place (deleting deleted.reader deleted.doc)) (mark ds n)) (sym deleted.number)
          ∙ ap (cut self.searcher.schema self.block_len (set parts deleted.place (deleting deleted.reader deleted.doc))) (sym marked)));
      building = subst (λ s. ForSome self.builder (λ b. b ≡ undeleted s self.block_len (drop self.built left))) (sym schema)
          (λ b is. self.building b is ∙ sym (undeleted-mark self.searcher.schema self.block_len self.built ds place)
          ∙ ap (λ l. undeleted self.searcher.schema self.block_len (drop self.built l)) (sym marked));
      good = subst (λ s. All (λ d. ¬ IsBadDraft s d.given) left) (sym schema)
          (subst (All (λ d. ¬ IsBadDraft self.searcher.schema d.given)) (sym marked)
          (All-mark (λ d. ¬ IsBadDraft self.searcher.schema d.given) (λ y p. p) ds place self.good));
    }

pub returns-clause-deleted : goal.returns-clause-deleted
returns-clause-deleted c =
    let self = c.args.self.now in
    let ds = self.documents.items in
    let place = c.args.place in
    let x = c.index_mut.result.now in
    let inside : place < length ds = omega (arith, self.documents.ok.0, self.some_built, c.requires) in
    let left : List OpenDocument = set ds place (record { given = x.given; is_deleted = true }) in
    let marked : left ≡ mark ds place =
    ap (λ (y : OpenDocument). set ds place (record { given = y.given; is_deleted = true })) c.index_mut.ensures.value ∙ set-mark ds place x inside in
    let readers = self.searcher.segments in
    let after = c.delete.new.self.segments in
    let address = c.address_among-address.result in
    let now = c.segment_readers.result.now in
    let at = subst (λ rs. IsAddressOf (drop self.ended rs) self.ended place address) c.segment_readers.ensures.segments
    (subst (λ rs. IsAddressOf rs self.ended place address)
    (take_all (length now - self.ended) (drop self.ended now) (omega (arith, length-drop self.ended now))) c.address_among-address.ensures.address) in
    let others = part-others readers after self.ended place address c.in_ok-delete.ensures.deleted at in
    let schema = ap (λ s. s.schema) c.delete.ensures.others in
    let made : List Reader → Segment → Indexed = λ rs segment. record { ended = segments_of rs; current = segment } in
    ap (λ rs. made rs (segment_of c.delete.new.self.schema self.block_len left)) others
    ∙ ap (λ s. made (take self.ended readers) (segment_of s self.block_len left)) schema
    ∙ ap (λ l. made (take self.ended readers) (segment_of self.searcher.schema self.block_len l)) marked
    ∙ ap (made (take self.ended readers)) (sym (segment_of-mark self.searcher.schema self.block_len ds place inside))
