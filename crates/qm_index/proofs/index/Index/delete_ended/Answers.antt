-- Of the ended segments one has one document less alive; the parts are what they were.
use Rattle.std.proofs.Common.{◌≡◌, ◌++◌, ◌∷◌, [], All, drop, take, ap, sym, ◌∙◌, subst, arith, inl, inr}
use Rattle.std.specs.Option.{ForSome}
use Rattle.qm_postings.specs.Statistics.{Searched}
use Rattle.qm_index.specs.Numbers.{AreOf, IsAddressOf, deleted_among, document_count}
use Rattle.qm_index.specs.OpenDocuments.{IsBadDraft, segment_of, undeleted}
use Rattle.qm_index.specs.Parts.{cut, segments_of}
use Rattle.qm_index.specs.SavedIndex.{WereHeld}
use Rattle.qm_index.proofs.KeptOn.{were-deleted}
use Rattle.qm_index.proofs.Numbering.{KeepsParts, KeepsParts-ended, KeepsParts-same, deleted_among-reader, either, ended-deleted}
use Rattle.qm_index.proofs.index.Index.delete_ended.Goals as goal

pub invariant_of-self : goal.invariant_of-self
invariant_of-self c =
    let self = c.args.self.now in
    let readers = self.searcher.segments in
    let after = c.delete.new.self.segments in
    let address = c.address_by_ends-address.result in
    let at =
    subst (λ rs. IsAddressOf (take self.ended rs) 0 c.args.number address) c.segment_readers.ensures.segments c.address_by_ends-address.ensures.address in
    let kept : KeepsParts self.ended readers after = elim (either c.delete.result c.delete.ensures.deleted c.delete.ensures.unchanged) [
      | inl deletes ↦ KeepsParts-ended readers after self.ended c.args.number address self.within at deletes
      | inr same ↦ KeepsParts-same readers after self.ended (ap (λ s. s.segments) same)
    ] in
    let schema = ap (λ s. s.schema) c.delete.ensures.others in
    record {
      block = self.block;
      within = omega (arith, self.within, kept.number);
      room = self.room;
      some_built = self.some_built;
      few = self.few;
      counted = self.counted ∙ sym kept.count;
      ends_known = self.ends_known ∙ sym kept.ends;
      small = self.small;
      alike = subst (λ s. AreOf s (take self.ended after)) (sym schema) (kept.alike self.searcher.schema self.alike);
      some_saved = self.some_saved;
      built_parts = ap document_count kept.parts ∙ self.built_parts;
      parts = subst (λ s. segments_of (drop self.ended after) ≡ cut s self.block_len (drop self.ended after) self.documents.items) (sym schema)
          (subst (λ rs. segments_of rs ≡ cut self.searcher.schema self.block_len rs self.documents.items) (sym kept.parts) self.parts);
      building = subst (λ s. ForSome self.builder (λ b. b ≡ undeleted s self.block_len (drop self.built self.documents.items))) (sym schema) self.building;
      good = subst (λ s. All (λ d. ¬ IsBadDraft s d.given) self.documents.items) (sym schema) self.good;
    }

pub returns-clause-deleted : goal.returns-clause-deleted
returns-clause-deleted c =
    let self = c.args.self.now in
    let readers = self.searcher.segments in
    let after = c.delete.new.self.segments in
    let address = c.address_by_ends-address.result in
    let at =
    subst (λ rs. IsAddressOf (take self.ended rs) 0 c.args.number address) c.segment_readers.ensures.segments c.address_by_ends-address.ensures.address in
    let deleted = ended-deleted readers after self.ended c.args.number address c.in_ok-delete.ensures.deleted self.within at in
    let schema = ap (λ s. s.schema) c.delete.ensures.others in
    let current = segment_of self.searcher.schema self.block_len self.documents.items in
    ap (λ s. segments_of (take self.ended after) ++ segment_of s self.block_len self.documents.items ∷ []) schema
    ∙ ap (λ rs. segments_of rs ++ current ∷ []) deleted.after
    ∙ sym (deleted_among-reader (take self.ended readers) deleted.place deleted.doc deleted.reader (current ∷ []) deleted.there deleted.inside)
    ∙ ap (deleted_among (segments_of (take self.ended readers) ++ current ∷ [])) (sym deleted.number)

pub returns-in_err-delete-clause-kept : goal.returns-in_err-delete-clause-kept
returns-in_err-delete-clause-kept c = λ c' kept.
    let self = c.args.self.now in
    subst (λ (s : Searched). WereHeld c' self.saved.segments.items (segments_of (take self.ended s.segments))) (sym c.in_err-delete.ensures.unchanged) kept

pub returns-clause-kept : goal.returns-clause-kept
returns-clause-kept c = λ c' kept.
    let self = c.args.self.now in
    let readers = self.searcher.segments in
    let after = c.delete.new.self.segments in
    let address = c.address_by_ends-address.result in
    let at =
    subst (λ rs. IsAddressOf (take self.ended rs) 0 c.args.number address) c.segment_readers.ensures.segments c.address_by_ends-address.ensures.address in
    let deleted = ended-deleted readers after self.ended c.args.number address c.in_ok-delete.ensures.deleted self.within at in
    let ks = self.saved.segments.items in
    subst (λ rs. WereHeld c' ks (segments_of rs)) (sym deleted.after)
    (were-deleted c' ks (take self.ended readers) deleted.place deleted.doc deleted.reader deleted.there deleted.inside kept)
