use Rattle.std.proofs.Common.{ap, ◌∙◌}
use Rattle.qm_postings.specs.Document.{Draft}
use Rattle.qm_index.specs.Texts.{texts_draft}
use Rattle.qm_index.proofs.given_document.GivenDocument.new.Goals as goal

pub returns-clause-terms : goal.returns-clause-terms
unfolding texts_draft
returns-clause-terms c = ap (λ (d : Draft). d.terms) c.of_texts.ensures ∙ ap (λ texts. (texts_draft texts).terms) c.new.ensures.items

pub returns-clause-lengths : goal.returns-clause-lengths
unfolding texts_draft
returns-clause-lengths c = ap (λ (d : Draft). d.lengths) c.of_texts.ensures ∙ ap (λ texts. (texts_draft texts).lengths) c.new.ensures.items
