-- A document of one text.
use Rattle.std.proofs.Common.{◌≡◌, ◌⊎◌, inl, inr, List, [], ◌∷◌, IsErrOf, OnOk, Result, Ok, Err, String, append-nil, ap, length, refl, string_bytes, subst}
use Rattle.std.specs.Global.{Global}
use Rattle.qm_index.specs.Indexed.{all_segments}
use Rattle.qm_index.specs.OpenDocuments.{IsDocumentRefusal}
use Rattle.qm_index.specs.Texts.{length_given, terms_given, texts_draft}
use Rattle.qm_postings.specs.Document.{Draft, Given}
use Rattle.qm_postings.specs.Segment.{IsGood, Segment, document_of, with_document}
use Rattle.qm_schema.specs.declared.error.QueryError.{QueryError}
use Rattle.qm_schema.specs.declared.error.QueryError.TheVariants.{BadDocument, Memory, TooManyDocuments, TooManySegments}
use Rattle.qm_script.specs.Answers.{IsLastSegment, IsNotRefused}
use Rattle.birchagain.specs.Body.{body_field}
use Rattle.qm_script.specs.ProgramNumbers.{most_documents, most_segments}
use Rattle.qm_script.specs.ScriptSegments.{Script}
use Rattle.qm_script.specs.TextSegments.{IsTextRefusal, text_document, text_draft, with_text}

pub one_text : (text : String Global) → texts_draft ((body_field, text) ∷ []) ≡ text_draft (string_bytes text)
unfolding texts_draft text_draft
one_text text =
    ap (λ (terms : List Given). let d : Draft = record { terms = terms; lengths = length_given (body_field, text) ∷ [] } in d)
    (append-nil (terms_given (body_field, text)))

pub with-one_text : (s : Segment) (text : String Global) →
    with_document s (document_of s.schema (texts_draft ((body_field, text) ∷ []))) ≡ with_text s (string_bytes text)
unfolding text_document
with-one_text s text = ap (λ d. with_document s (document_of s.schema d)) (one_text text)

-- why it is refused
pub one_text-refused : (e : QueryError) (s : Segment) (text : String Global) →
    IsDocumentRefusal s (texts_draft ((body_field, text) ∷ [])) e → (e ≡ Memory) ⊎ IsTextRefusal s (string_bytes text) e
one_text-refused Memory s text why = inl refl
one_text-refused TooManyDocuments s text why = inr why
one_text-refused BadDocument s text why = inr (subst (λ d. ¬ IsGood s.schema d) (one_text text) why)
one_text-refused e s text why = absurd why

-- where it was added none is due
none-due : (e : QueryError) (s : Segment) (text : String Global) → IsGood s.schema (texts_draft ((body_field, text) ∷ [])) →
    ¬ (length s.documents ≡ most_documents) → ¬ IsTextRefusal s (string_bytes text) e
none-due TooManyDocuments s text good room = room
none-due BadDocument s text good room = λ bad. bad (subst (λ d. IsGood s.schema d) (one_text text) good)
none-due e s text good room = λ why. absurd why

pub one_text-taken : (r : Result (Unit {0}) QueryError) (s : Segment) (text : String Global) →
    OnOk r (IsGood s.schema (texts_draft ((body_field, text) ∷ []))) → (length s.documents ≡ most_documents → IsErrOf r TooManyDocuments) →
    OnOk r (IsNotRefused (IsTextRefusal s (string_bytes text)))
one_text-taken (Ok done) s text good full = λ e. none-due e s text good (λ many. let refused = full many in cc)
one_text-taken (Err e) s text good full = tt

-- and where a segment was ended there was room for another
pub ended-taken : (r : Result (Unit {0}) QueryError) (s : Script) →
    (length (all_segments s) ≡ most_segments → IsErrOf r TooManySegments) → OnOk r (IsNotRefused (IsLastSegment s))
ended-taken (Ok done) s full = λ e last. let refused = full last.number in cc
ended-taken (Err e) s full = tt
