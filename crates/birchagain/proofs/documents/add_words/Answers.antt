use Rattle.std.proofs.Common.{◌≡◌, ap, ◌∙◌, map, string_bytes}
use Rattle.std.proofs.lemmas.Result.{IfErr-weaker, on_ok_weaker}
use Rattle.qm_index.specs.Indexed.{indexed, with_document_of}
use Rattle.birchagain.specs.Adding.{IsAddRefusal, spaced}
use Rattle.birchagain.specs.Body.{text_draft, words_draft}
use Rattle.birchagain.specs.CutWords.{AreWords, words_from}
use Rattle.birchagain.proofs.Spaces.{spaced-words}
use Rattle.birchagain.proofs.WordRefusals.{add-refused}
use Rattle.birchagain.proofs.documents.add_words.Goals as goal

pub returns-clause-added : goal.returns-clause-added
returns-clause-added c =
    let words = ap (map (λ w. w.now)) c.as_slice.ensures.value ∙ c.in_ok-words.ensures.words in
    let text = c.in_ok-text.ensures ∙ ap spaced words in
    let draft : text_draft (string_bytes c.in_ok-text.text) ≡ words_draft (words_from 0 c.args.ends.now c.args.bytes.now) =
    ap text_draft text ∙ ap words_draft (spaced-words 0 c.args.ends.now c.args.bytes.now c.in_ok-words.ensures.good) in
    on_ok_weaker c.add_body.result (λ is. is ∙ ap (with_document_of (indexed c.args.index.now)) draft) c.add_body.ensures.added

pub returns-clause-refused : goal.returns-clause-refused
returns-clause-refused c =
    let words = ap (map (λ w. w.now)) c.as_slice.ensures.value ∙ c.in_ok-words.ensures.words in
    let text = c.in_ok-text.ensures ∙ ap spaced words in
    let draft : text_draft (string_bytes c.in_ok-text.text) ≡ words_draft (words_from 0 c.args.ends.now c.args.bytes.now) =
    ap text_draft text ∙ ap words_draft (spaced-words 0 c.args.ends.now c.args.bytes.now c.in_ok-words.ensures.good) in
    let s = (indexed c.args.index.now).current in
    IfErr-weaker c.add_body.result _ (IsAddRefusal (AreWords 0 c.args.ends.now c.args.bytes.now) s (words_draft (words_from 0 c.args.ends.now c.args.bytes.now)))
    (λ e why. add-refused e (AreWords 0 c.args.ends.now c.args.bytes.now) s _ _ draft why) c.add_body.ensures.refused
