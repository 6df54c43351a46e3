-- The points of the document that it stands on.
use Rattle.std.proofs.Common.{w64, ◌<◌, pos, ap, sym, ◌∙◌, arith}
use Rattle.std.proofs.lemmas.Int.{to_z-of_z}
use Rattle.std.proofs.lemmas.Option.{get_or_from_slice_get}
use Rattle.qm_docset.specs.declared.numbers.TheConstants.{TERMINATED}
use Rattle.qm_postings.specs.FieldNorms.{norm_ids}
use Rattle.qm_phrase.specs.PhrasePrefix.{full_count, has_several, held_count}
use Rattle.qm_phrase.specs.PrefixTerms.{lists_of}
use Rattle.qm_phrase.proofs.PrefixEntries.{prefix-stands, prefix_points-none, prefix_points-several, prefix_points-single}
use Rattle.qm_phrase.proofs.phrase_prefix_scorer.PhrasePrefixScorerScorer.score.Goals as goal

pub returns-then-not-has_several-clause-score : goal.returns-then-not-has_several-clause-score
returns-then-not-has_several-clause-score g c =
    let self = c.args.self.now in
    let t = lists_of g.P.DocSet self.terms in
    let stands = prefix-stands self.similarity_weight (norm_ids self.fieldnorm_reader) t self.doc c.requires.placed.document
    (omega (arith, c.requires.placed.document, c.requires.here)) in
    let points = prefix_points-single self.similarity_weight c.in-Some.weight (has_several t)
    (norm_ids self.fieldnorm_reader) self.doc (held_count (full_count t self.doc)) c.in-Some.is c.if-not-has_several.ensures in
    to_z-of_z w64 c.boost.result (record { sfits = c.boost.type_inv }) ∙ c.boost.ensures ∙ ap pos (points ∙ sym stands.1)

pub fieldnorm_id-fieldnorm_id-requires : goal.fieldnorm_id-fieldnorm_id-requires
fieldnorm_id-fieldnorm_id-requires g c =
    let self = c.args.self.now in
    let stands = prefix-stands self.similarity_weight (norm_ids self.fieldnorm_reader)
    (lists_of g.P.DocSet self.terms) self.doc c.requires.placed.document (omega (arith, c.requires.placed.document, c.requires.here)) in
    c.requires.valid.covered self.doc stands.0

pub returns-else-not-has_several-clause-score : goal.returns-else-not-has_several-clause-score
returns-else-not-has_several-clause-score g c =
    let self = c.args.self.now in
    let t = lists_of g.P.DocSet self.terms in
    let ids = norm_ids self.fieldnorm_reader in
    let below : self.doc < TERMINATED = omega (arith, c.requires.placed.document, c.requires.here) in
    let stands = prefix-stands self.similarity_weight ids t self.doc c.requires.placed.document below in
    let id = c.fieldnorm_id-fieldnorm_id.result in
    let read = sym (get_or_from_slice_get ids self.doc id id c.fieldnorm_id-fieldnorm_id.ensures) in
    let points = prefix_points-several self.similarity_weight c.in-Some.weight (has_several t) ids self.doc self.counts.full id
    (full_count t self.doc) c.in-Some.is c.if-not-has_several.ensures (c.requires.valid.covered self.doc stands.0) read (c.requires.placed.full below) in
    to_z-of_z w64 c.score.result (record { sfits = c.score.type_inv }) ∙ c.score.ensures.score ∙ ap pos (points ∙ sym stands.1)

pub returns-in-None-clause-score : goal.returns-in-None-clause-score
returns-in-None-clause-score g c =
    let self = c.args.self.now in
    let t = lists_of g.P.DocSet self.terms in
    let stands = prefix-stands self.similarity_weight (norm_ids self.fieldnorm_reader) t self.doc c.requires.placed.document
    (omega (arith, c.requires.placed.document, c.requires.here)) in
    ap pos (prefix_points-none self.similarity_weight (has_several t) (norm_ids self.fieldnorm_reader) self.doc (held_count (full_count t self.doc)) c.in-None.is
    ∙ sym stands.1)
