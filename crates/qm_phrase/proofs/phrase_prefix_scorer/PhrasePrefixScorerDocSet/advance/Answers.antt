-- A step is a seek past the document.
use Rattle.std.proofs.Common.{◌≡◌, ap, ◌∙◌, arith, min, ◌+◌}
use Rattle.qm_combine.proofs.Uniting.{next_or_end}
use Rattle.qm_docset.specs.Entry.{from, head_document}
use Rattle.qm_docset.specs.EntryFacts.{head_document-bounds}
use Rattle.qm_docset.specs.declared.numbers.TheConstants.{TERMINATED}
use Rattle.qm_postings.specs.FieldNorms.{norm_ids}
use Rattle.qm_phrase.specs.PhrasePrefixFacts.{AreEntries-prefix}
use Rattle.qm_phrase.specs.PhrasePrefixScorer.{phrase_prefix_left, phrase_prefix_scorer_limits}
use Rattle.qm_phrase.specs.PrefixTerms.{lists_of}
use Rattle.qm_phrase.proofs.phrase_prefix_scorer.PhrasePrefixScorerDocSet.advance.Goals as goal

pub overflow_add-self : goal.overflow_add-self
overflow_add-self g c =
    let self = c.args.self.now in
    let ascending = AreEntries-prefix self.similarity_weight (norm_ids self.fieldnorm_reader) (lists_of g.P.DocSet self.terms) in
    let most = head_document-bounds 0 (phrase_prefix_scorer_limits g.P.DocSet self) (phrase_prefix_left g.P.DocSet self) (omega arith) ascending in
    omega (arith, most, c.requires.placed.document)

pub returns-clause-entries : goal.returns-clause-entries
returns-clause-entries g c =
    let self = c.args.self.now in
    let left = phrase_prefix_left g.P.DocSet self in
    let ascending = AreEntries-prefix self.similarity_weight (norm_ids self.fieldnorm_reader) (lists_of g.P.DocSet self.terms) in
    let next = next_or_end (phrase_prefix_scorer_limits g.P.DocSet self) left ascending in
    let target : c.min.result ≡ min (head_document left + 1) TERMINATED = omega (arith, c.requires.placed.document, c.min.ensures) in
    c.seek.ensures.entries ∙ ap (λ t. from t left) target ∙ next
