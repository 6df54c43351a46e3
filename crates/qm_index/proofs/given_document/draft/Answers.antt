use Rattle.std.proofs.Common.{◌≡◌, ◌++◌, [], ◌∷◌, ◌+◌, List, ℕ, length, min, take, sym, ap, ◌∙◌, append-nil}
use Rattle.std.specs.List.{flat_map}
use Rattle.std.proofs.lemmas.Grind.{flat_map-append}
use Rattle.std.proofs.lemmas.List.{map-append, take_more}
use Rattle.qm_postings.specs.Document.{Draft, Given, words_of, text_terms}
use Rattle.qm_index.specs.Texts.{FieldText, length_given, terms_given, texts_draft}
use Rattle.qm_index.proofs.given_document.draft.Goals as goal

drafted : List Given → List (ℕ × ℕ) → Draft
drafted terms lengths = record { terms = terms; lengths = lengths }

more : (texts : List FieldText) (text : FieldText) (document : Draft) (terms : List Given) (lengths : List (ℕ × ℕ)) → document ≡ texts_draft texts →
    terms ≡ document.terms ++ terms_given text → lengths ≡ document.lengths ++ length_given text ∷ [] →
    drafted terms lengths ≡ texts_draft (texts ++ text ∷ [])
unfolding texts_draft drafted
more texts text document terms lengths so_far ts ls =
    ap (λ (l : List Given). drafted l lengths) (ts ∙ ap (λ (d : Draft). d.terms ++ terms_given text) so_far
    ∙ ap (λ l. flat_map terms_given texts ++ l) (sym (append-nil (terms_given text))) ∙ sym (flat_map-append terms_given texts (text ∷ [])))
    ∙ ap (drafted (flat_map terms_given (texts ++ text ∷ []))) (ls ∙ ap (λ (d : Draft). d.lengths ++ length_given text ∷ []) so_far
    ∙ sym (map-append length_given texts (text ∷ [])))

pub loop-field-init : goal.loop-field-init
unfolding texts_draft drafted
loop-field-init c = ap (λ ts. drafted ts c.new-document.result.lengths) c.new-document.ensures.terms ∙ ap (drafted []) c.new-document.ensures.lengths

pub loop-field-preserved : goal.loop-field-preserved
unfolding drafted
loop-field-preserved c =
    let texts = c.args.texts.now in
    let i = c.loop-field.field-index in
    let text = c.loop-field-item.result in
    let next = c.add_text.new.self in
    let now : take (i + 1) texts ≡ take i texts ++ text ∷ [] =
    take_more texts i text c.loop-field-test.true ∙ ap (λ t. take i texts ++ t ∷ []) (sym c.loop-field-item.is) in
    more (take i texts) text c.loop-field.document next.terms next.lengths c.loop-field.invariant
    (c.in_ok-add_text.ensures.terms ∙ ap (λ t. c.loop-field.document.terms ++ text_terms text.0 (words_of t)) c.as_str.ensures.value)
    (c.in_ok-add_text.ensures.lengths ∙ ap (λ t. c.loop-field.document.lengths ++ (text.0, min 255 (length (words_of t))) ∷ []) c.as_str.ensures.value)
    ∙ ap texts_draft (sym now)
