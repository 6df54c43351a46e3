-- The points of the document that it stands on.
use Rattle.std.proofs.Common.{w64, pos, ap, sym, ◌∙◌, arith}
use Rattle.std.proofs.lemmas.Int.{to_z-of_z}
use Rattle.std.proofs.lemmas.Option.{get_or_from_slice_get}
use Rattle.qm_postings.specs.FieldNorms.{norm_ids}
use Rattle.qm_phrase.specs.Phrase.{phrase_limits, phrase_points}
use Rattle.qm_phrase.specs.PhraseScorer.{phrase_starts}
use Rattle.qm_phrase.specs.PhraseFacts.{AreEntries-phrase}
use Rattle.qm_phrase.specs.Terms.{shifts_in, term_lists}
use Rattle.qm_phrase.specs.PhrasePrefix.{held_count}
use Rattle.qm_phrase.proofs.PhraseLists.{by_counts-stands, points-none, points-some}
use Rattle.qm_phrase.proofs.phrase_scorer.PhraseScorerScorer.score.Goals as goal

pub fieldnorm_id-requires : goal.fieldnorm_id-requires
fieldnorm_id-requires g c =
    let self = c.args.self.now in
    let ascending = AreEntries-phrase self.similarity_weight (norm_ids self.fieldnorm_reader) self.slop
    (shifts_in self.terms) (term_lists g.P.DocSet self.terms) in
    let stands = by_counts-stands (phrase_limits self.similarity_weight) (phrase_points self.similarity_weight (norm_ids self.fieldnorm_reader)) self.doc
    (phrase_starts g.P.DocSet self) ascending c.requires.placed.document (omega (arith, c.requires.placed.document, c.requires.here)) in
    c.requires.valid.covered self.doc stands.0

pub returns-in-Some-clause-score : goal.returns-in-Some-clause-score
returns-in-Some-clause-score g c =
    let self = c.args.self.now in
    let ascending = AreEntries-phrase self.similarity_weight (norm_ids self.fieldnorm_reader) self.slop
    (shifts_in self.terms) (term_lists g.P.DocSet self.terms) in
    let stands = by_counts-stands (phrase_limits self.similarity_weight) (phrase_points self.similarity_weight (norm_ids self.fieldnorm_reader)) self.doc
    (phrase_starts g.P.DocSet self) ascending c.requires.placed.document (omega (arith, c.requires.placed.document, c.requires.here)) in
    let counted = c.requires.placed.counted (omega (arith, c.requires.placed.document, c.requires.here)) in
    let points = points-some self.similarity_weight c.in-Some.weight (norm_ids self.fieldnorm_reader) self.doc self.phrase_count c.fieldnorm_id.result
    (phrase_starts g.P.DocSet self self.doc) c.in-Some.is (c.requires.valid.covered self.doc stands.0)
    (sym (get_or_from_slice_get (norm_ids self.fieldnorm_reader) self.doc c.fieldnorm_id.result c.fieldnorm_id.result c.fieldnorm_id.ensures)) counted in
    to_z-of_z w64 c.score.result (record { sfits = c.score.type_inv }) ∙ c.score.ensures.score ∙ ap pos (points ∙ sym stands.1)

pub returns-in-None-clause-score : goal.returns-in-None-clause-score
returns-in-None-clause-score g c =
    let self = c.args.self.now in
    let ascending = AreEntries-phrase self.similarity_weight (norm_ids self.fieldnorm_reader) self.slop
    (shifts_in self.terms) (term_lists g.P.DocSet self.terms) in
    let stands = by_counts-stands (phrase_limits self.similarity_weight) (phrase_points self.similarity_weight (norm_ids self.fieldnorm_reader)) self.doc
    (phrase_starts g.P.DocSet self) ascending c.requires.placed.document (omega (arith, c.requires.placed.document, c.requires.here)) in
    ap pos (points-none self.similarity_weight (norm_ids self.fieldnorm_reader) self.doc (held_count (phrase_starts g.P.DocSet self self.doc)) c.in-None.is
    ∙ sym stands.1)
