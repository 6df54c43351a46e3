-- The document that it stands on has a start.
use Rattle.std.proofs.Common.{arith, subst, ◌<◌}
use Rattle.qm_postings.specs.FieldNorms.{norm_ids}
use Rattle.qm_phrase.specs.Phrase.{phrase_limits, phrase_points}
use Rattle.qm_phrase.specs.PhraseScorer.{phrase_starts}
use Rattle.qm_phrase.specs.PhraseFacts.{AreEntries-phrase}
use Rattle.qm_phrase.specs.Terms.{shifts_in, term_lists}
use Rattle.qm_phrase.proofs.PhraseLists.{by_counts-stands}
use Rattle.qm_phrase.proofs.phrase_scorer.PhraseScorer.phrase_count.Goals as goal

pub returns-clause-some : goal.returns-clause-some
returns-clause-some g c =
    let self = c.args.self.now in
    let ascending = AreEntries-phrase self.similarity_weight (norm_ids self.fieldnorm_reader) self.slop
    (shifts_in self.terms) (term_lists g.P.DocSet self.terms) in
    let stands = by_counts-stands (phrase_limits self.similarity_weight) (phrase_points self.similarity_weight (norm_ids self.fieldnorm_reader)) self.doc
    (phrase_starts g.P.DocSet self) ascending c.requires.placed.document (omega (arith, c.requires.placed.document, c.requires.here)) in
    subst (λ d. 0 < phrase_starts g.P.DocSet self d) c.requires.placed.document stands.0
