use Rattle.std.proofs.Common.{◌≡◌, ◌+◌, ◌≤◌, ◌<◌, [], ◌∷◌, ◌++◌, All, ap, refl, sym, ◌∙◌, subst, arith, drop, false, length, take, vec_len, IsOk, rules}
use Rattle.std.proofs.lemmas.List.{drop-append-le, length-drop, length-map}
use Rattle.std.proofs.lemmas.Result.{err_from_is_err_and}
use Rattle.std.proofs.lemmas.List.Elements.{All-push}
use Rattle.qm_docset.specs.declared.numbers.TheConstants.{TERMINATED}
use Rattle.qm_postings.specs.Segment.{IsGood, Segment, document_of, with_document}
use Rattle.qm_index.specs.Indexed.{Indexed}
use Rattle.qm_index.specs.OpenDocuments.{IsBadDraft, kept_of, segment_of, undeleted}
use Rattle.qm_index.specs.Parts.{cut, segments_of}
use Rattle.qm_index.specs.declared.open_document.OpenDocument.{OpenDocument}
use Rattle.qm_index.proofs.Cutting.{cut-push}
use Rattle.qm_index.proofs.Marks.{same_refusal, segment_of-push, undeleted-push}
use Rattle.qm_index.proofs.index.Index.add_given.Goals as goal

pub returns-in_err-added-clause-refused : goal.returns-in_err-added-clause-refused
returns-in_err-added-clause-refused c =
    let taken = c.take_builder.new.self in
    let self = c.args.self.now in
    let ds = taken.documents.items in
    let d : OpenDocument = record { given = c.args.document; is_deleted = false } in
    let schema = taken.searcher.schema in
    let builder : c.in_ok-builder.builder ≡ undeleted schema taken.block_len (drop taken.built ds) =
    c.in_ok-builder.ensures.builder
    ∙ ap (λ s. undeleted s.schema self.block_len (drop self.built c.reserve.new.self.items)) (sym c.take_builder.ensures.searcher)
    ∙ ap (λ b. undeleted schema b (drop self.built c.reserve.new.self.items)) (sym c.take_builder.ensures.block_len)
    ∙ ap (λ n. undeleted schema taken.block_len (drop n c.reserve.new.self.items)) (sym c.take_builder.ensures.built)
    ∙ ap (λ v. undeleted schema taken.block_len (drop taken.built v.items)) (sym c.take_builder.ensures.documents) in
    let e = c.in_err-added.field-0.0 in
    let current : Segment = segment_of self.searcher.schema self.block_len self.documents.items in
    let few : length c.in_ok-builder.builder.documents < TERMINATED = omega (
      arith,
      ap (λ s. length s.documents) c.in_ok-builder.ensures.builder,
      length-map (drop self.built c.reserve.new.self.items) (kept_of self.searcher.schema),
      length-drop self.built c.reserve.new.self.items,
      ap length c.reserve.ensures.items,
      self.documents.ok.0,
      c.len.ensures,
      c.if-len.false,
    ) in
    let p = err_from_is_err_and c.from_residual-in_err-added.result c.from_residual-in_err-added.ensures.1 in
    rw (p.1, p.2) (same_refusal e c.in_ok-builder.builder current c.args.document few (ap (λ s. s.schema) c.in_ok-builder.ensures.builder)
    c.in_err-added.ensures.refused)

pub invariant_of-self-2 : goal.invariant_of-self-2
invariant_of-self-2 c =
    let taken = c.take_builder.new.self in
    let self = c.args.self.now in
    let ds = taken.documents.items in
    let d : OpenDocument = record { given = c.args.document; is_deleted = false } in
    let schema = taken.searcher.schema in
    let builder : c.in_ok-builder.builder ≡ undeleted schema taken.block_len (drop taken.built ds) =
    c.in_ok-builder.ensures.builder
    ∙ ap (λ s. undeleted s.schema self.block_len (drop self.built c.reserve.new.self.items)) (sym c.take_builder.ensures.searcher)
    ∙ ap (λ b. undeleted schema b (drop self.built c.reserve.new.self.items)) (sym c.take_builder.ensures.block_len)
    ∙ ap (λ n. undeleted schema taken.block_len (drop n c.reserve.new.self.items)) (sym c.take_builder.ensures.built)
    ∙ ap (λ v. undeleted schema taken.block_len (drop taken.built v.items)) (sym c.take_builder.ensures.documents) in
    let ok : IsOk c.push.result = search rules in
    let pushed : c.push.new.self.items ≡ ds ++ d ∷ [] = rw ok at c.push.ensures.items in
    let longer : vec_len c.push.new.self ≡ vec_len taken.documents + 1 = rw ok at c.push.ensures.len in
    let built : taken.built ≤ length ds = omega (arith, taken.some_built, taken.documents.ok.0) in
    let same : vec_len taken.documents ≡ vec_len c.reserve.new.self = ap (λ v. vec_len v) c.take_builder.ensures.documents in
    let parts = drop taken.ended taken.searcher.segments in
    let grown : c.add_given-added.new.builder ≡ undeleted schema taken.block_len (drop taken.built c.push.new.self.items) =
    c.in_ok-added.ensures.added
    ∙ ap (λ b. with_document b (document_of b.schema c.args.document)) builder
    ∙ sym (undeleted-push schema taken.block_len (drop taken.built ds) d)
    ∙ ap (undeleted schema taken.block_len) (sym (ap (drop taken.built) pushed ∙ drop-append-le taken.built ds (d ∷ []) built)) in
    let good : IsGood schema c.args.document = subst (λ s. IsGood s.schema c.args.document) builder c.in_ok-added.ensures.good in
    record {
      block = taken.block;
      within = taken.within;
      room = taken.room;
      some_built = omega (arith, taken.some_built, longer);
      few = omega (arith, longer, same, c.in_ok-reserve.ensures.len, c.len.ensures, c.if-len.false);
      counted = taken.counted;
      ends_known = taken.ends_known;
      small = taken.small;
      alike = taken.alike;
      some_saved = taken.some_saved;
      built_parts = taken.built_parts;
      parts = taken.parts ∙ sym (cut-push schema taken.block_len parts ds (d ∷ []) (omega (arith, taken.built_parts, built)))
          ∙ ap (cut schema taken.block_len parts) (sym pushed);
      building = λ x h. let one : c.add_given-added.new.builder ≡ x = cc in sym one ∙ grown;
      good = subst (λ l. All (λ y. ¬ IsBadDraft schema y.given) l) (sym pushed)
          (All-push (λ y. ¬ IsBadDraft schema y.given) ds d taken.good (λ bad. bad good));
    }

pub returns-clause-added : goal.returns-clause-added
returns-clause-added c =
    let taken = c.take_builder.new.self in
    let self = c.args.self.now in
    let ds = taken.documents.items in
    let d : OpenDocument = record { given = c.args.document; is_deleted = false } in
    let schema = taken.searcher.schema in
    let builder : c.in_ok-builder.builder ≡ undeleted schema taken.block_len (drop taken.built ds) =
    c.in_ok-builder.ensures.builder
    ∙ ap (λ s. undeleted s.schema self.block_len (drop self.built c.reserve.new.self.items)) (sym c.take_builder.ensures.searcher)
    ∙ ap (λ b. undeleted schema b (drop self.built c.reserve.new.self.items)) (sym c.take_builder.ensures.block_len)
    ∙ ap (λ n. undeleted schema taken.block_len (drop n c.reserve.new.self.items)) (sym c.take_builder.ensures.built)
    ∙ ap (λ v. undeleted schema taken.block_len (drop taken.built v.items)) (sym c.take_builder.ensures.documents) in
    let ok : IsOk c.push.result = search rules in
    let pushed : c.push.new.self.items ≡ ds ++ d ∷ [] = rw ok at c.push.ensures.items in
    let made : Segment → Indexed = λ segment. record { ended = segments_of (take taken.ended taken.searcher.segments); current = segment } in
    let current = segment_of schema taken.block_len ds in
    ap (λ l. made (segment_of schema taken.block_len l)) pushed
    ∙ ap made (segment_of-push schema taken.block_len ds d refl)
    ∙ ap (λ n. record { ended = segments_of (take n taken.searcher.segments); current = with_document current (kept_of schema d) }) c.take_builder.ensures.ended
    ∙ ap (λ v. record {
      ended = segments_of (take self.ended taken.searcher.segments);
      current = with_document (segment_of schema taken.block_len v) (kept_of schema d);
    })
    (ap (λ v. v.items) c.take_builder.ensures.documents ∙ c.in_ok-reserve.ensures.items)
    ∙ ap (λ n. record {
      ended = segments_of (take self.ended taken.searcher.segments);
      current = with_document (segment_of schema n self.documents.items) (kept_of schema d);
    }) c.take_builder.ensures.block_len
    ∙ ap (λ s. record {
      ended = segments_of (take self.ended s.segments);
      current = with_document (segment_of s.schema self.block_len self.documents.items) (kept_of s.schema d);
    }) c.take_builder.ensures.searcher
