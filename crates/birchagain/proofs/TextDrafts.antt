-- A document of one text.
use Rattle.std.proofs.Common.{◌≡◌, List, [], ◌∷◌, String, ap, append-nil, string_bytes}
use Rattle.std.specs.Global.{Global}
use Rattle.qm_index.specs.Texts.{length_given, terms_given, texts_draft}
use Rattle.qm_postings.specs.Document.{Draft, Given}
use Rattle.birchagain.specs.Body.{body_field, text_draft, words_draft}

pub one_text : (text : String Global) → texts_draft ((body_field, text) ∷ []) ≡ text_draft (string_bytes text)
unfolding texts_draft words_draft
one_text text =
    ap (λ (terms : List Given). let d : Draft = record { terms = terms; lengths = length_given (body_field, text) ∷ [] } in d)
    (append-nil (terms_given (body_field, text)))
