use Rattle.std.proofs.Common.{◌≡◌, ◌⊎◌, OnOk, [], ◌∷◌, ap, subst, ◌∙◌, string_bytes}
use Rattle.std.proofs.lemmas.Result.{IfErr-weaker, on_ok_weaker}
use Rattle.qm_index.specs.OpenDocuments.{IsDocumentRefusal}
use Rattle.qm_index.specs.Texts.{texts_draft}
use Rattle.qm_postings.specs.Segment.{IsGood, document_of, with_document}
use Rattle.qm_schema.specs.declared.error.QueryError.TheVariants.{Memory}
use Rattle.qm_script.specs.ScriptSegments.{Script, script}
use Rattle.qm_script.specs.TextSegments.{IsTextRefusal}
use Rattle.qm_script.proofs.SegmentTexts.{one_text-refused, one_text-taken, with-one_text}
use Rattle.qm_script.proofs.corpus.Corpus.add_document.Goals as goal

pub returns-clause-added : goal.returns-clause-added
returns-clause-added c =
    let s = script c.args.self.now in
    let texts = c.in_ok-texts.ensures.items ∙ ap (λ f. (f, c.args.text) ∷ []) c.body.ensures in
    let current = ap (λ l. with_document s.current (document_of s.current.schema (texts_draft l))) texts ∙ with-one_text s.current c.args.text in
    on_ok_weaker c.add_document.result (λ is. is ∙ ap (λ t. let with : Script = record { ended = s.ended; current = t } in with) current)
    c.add_document.ensures.added

pub returns-clause-refused : goal.returns-clause-refused
returns-clause-refused c =
    let s = script c.args.self.now in
    let texts = c.in_ok-texts.ensures.items ∙ ap (λ f. (f, c.args.text) ∷ []) c.body.ensures in
    IfErr-weaker c.add_document.result (IsDocumentRefusal s.current (texts_draft c.in_ok-texts.texts.items))
    (λ e. (e ≡ Memory) ⊎ IsTextRefusal s.current (string_bytes c.args.text) e) (λ e why. one_text-refused e s.current c.args.text
    (subst (λ l. IsDocumentRefusal s.current (texts_draft l) e) texts why)) c.add_document.ensures.refused

pub returns-clause-taken : goal.returns-clause-taken
returns-clause-taken c =
    let s = script c.args.self.now in
    let texts = c.in_ok-texts.ensures.items ∙ ap (λ f. (f, c.args.text) ∷ []) c.body.ensures in
    let good = subst (λ l. OnOk c.add_document.result (IsGood s.current.schema (texts_draft l))) texts c.add_document.ensures.good in
    one_text-taken c.add_document.result s.current c.args.text good c.add_document.ensures.many.1
