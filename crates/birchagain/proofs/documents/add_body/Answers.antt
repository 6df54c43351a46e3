use Rattle.std.proofs.Common.{[], ◌∷◌, ap, ◌∙◌, subst}
use Rattle.std.proofs.lemmas.Result.{err_from_is_err_and}
use Rattle.qm_index.specs.Indexed.{indexed, with_document_of}
use Rattle.qm_index.specs.OpenDocuments.{IsDocumentRefusal}
use Rattle.qm_index.specs.Texts.{texts_draft}
use Rattle.birchagain.proofs.TextDrafts.{one_text}
use Rattle.birchagain.proofs.documents.add_body.Goals as goal

pub returns-in_err-add_document-clause-refused : goal.returns-in_err-add_document-clause-refused
returns-in_err-add_document-clause-refused c =
    let s = (indexed c.args.index.now).current in
    let draft = ap texts_draft (c.in_ok-texts.ensures.items ∙ ap (λ f. (f, c.args.text) ∷ []) c.body.ensures) ∙ one_text c.args.text in
    let p = err_from_is_err_and c.from_residual-in_err-add_document.result c.from_residual-in_err-add_document.ensures.1 in
    rw (p.1, p.2) (subst (λ d. IsDocumentRefusal s d c.in_err-add_document.field-0.0) draft c.in_err-add_document.ensures.refused)

pub returns-clause-added : goal.returns-clause-added
returns-clause-added c =
    let draft = ap texts_draft (c.in_ok-texts.ensures.items ∙ ap (λ f. (f, c.args.text) ∷ []) c.body.ensures) ∙ one_text c.args.text in
    c.in_ok-add_document.ensures.added ∙ ap (with_document_of (indexed c.args.index.now)) draft
