use Rattle.std.proofs.Common.{◌≡◌, [], ◌++◌, ap, refl, sym, ◌∙◌, string_bytes}
use Rattle.std.proofs.lemmas.List.{append-nil}
use Rattle.qm_postings.specs.Document.{words_of}
use Rattle.birchagain.specs.Adding.{spaced}
use Rattle.qm_script.specs.Cursor.{words_left}
use Rattle.qm_script.proofs.WordLemmas.{spaced-words}
use Rattle.qm_script.proofs.words.Words.rest.Goals as goal

pub returns-clause-text : goal.returns-clause-text
returns-clause-text c =
    let text = string_bytes c.loop-word.text in
    let none : words_left c.loop-word.self ≡ [] = c.in_default.ensures.none refl in
    let all : text ≡ spaced (words_left c.args.self.now) =
    sym (append-nil text) ∙ ap (λ words. text ++ spaced words) (sym none) ∙ c.loop-word.invariant in
    ap words_of all ∙ spaced-words (words_left c.args.self.now) c.requires
