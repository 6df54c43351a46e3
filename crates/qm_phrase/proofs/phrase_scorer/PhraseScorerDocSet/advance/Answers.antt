-- A step is a seek past the document.
use Rattle.std.proofs.Common.{◌≡◌, ap, ◌∙◌, arith, min, ◌+◌}
use Rattle.qm_combine.proofs.Uniting.{next_or_end}
use Rattle.qm_docset.specs.Entry.{from, head_document}
use Rattle.qm_docset.specs.EntryFacts.{head_document-bounds}
use Rattle.qm_docset.specs.declared.numbers.TheConstants.{TERMINATED}
use Rattle.qm_phrase.specs.Phrase.{phrase_limits}
use Rattle.qm_phrase.specs.PhraseScorer.{phrase_left}
use Rattle.qm_phrase.proofs.phrase_scorer.PhraseScorerDocSet.advance.Goals as goal
use Rattle.qm_phrase.specs.PhraseFacts.{AreEntries-phrase}
use Rattle.qm_phrase.specs.Terms.{shifts_in, term_lists}
use Rattle.qm_postings.specs.FieldNorms.{norm_ids}

pub overflow_add-self : goal.overflow_add-self
overflow_add-self g c =
    let self = c.args.self.now in
    let ascending = AreEntries-phrase self.similarity_weight (norm_ids self.fieldnorm_reader) self.slop
    (shifts_in self.terms) (term_lists g.P.DocSet self.terms) in
    let most = head_document-bounds 0 (phrase_limits self.similarity_weight) (phrase_left g.P.DocSet self) (omega arith) ascending in
    omega (arith, most, c.requires.placed.document)

pub returns-clause-entries : goal.returns-clause-entries
returns-clause-entries g c =
    let self = c.args.self.now in
    let ascending = AreEntries-phrase self.similarity_weight (norm_ids self.fieldnorm_reader) self.slop
    (shifts_in self.terms) (term_lists g.P.DocSet self.terms) in
    let next = next_or_end (phrase_limits self.similarity_weight) (phrase_left g.P.DocSet self) ascending in
    let target : c.min.result ≡ min (head_document (phrase_left g.P.DocSet self) + 1) TERMINATED = omega (arith, c.requires.placed.document, c.min.ensures) in
    c.seek.ensures.entries ∙ ap (λ t. from t (phrase_left g.P.DocSet self)) target ∙ next
