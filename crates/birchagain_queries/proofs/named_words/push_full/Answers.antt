use Rattle.std.proofs.Common.{◌≡◌, ◌++◌, ◌∷◌, [], ◌∙◌, OnOk, ap, map, string_bytes, subst, sym}
use Rattle.std.proofs.lemmas.List.{map_push}
use Rattle.qm_script.specs.Spelled.{texts}
use Rattle.birchagain_queries.specs.QueryWords.{full_words}
use Rattle.birchagain_queries.proofs.Words.{full-push}
use Rattle.birchagain_queries.proofs.named_words.push_full.Goals as goal

pub returns-in-Some : goal.returns-in-Some
returns-in-Some c =
    let full = c.in-Some.full.now in
    let last = c.in-Some.field-0-0.now in
    let same : full_words (texts c.args.phrase.now) ≡ texts full =
    ap (λ l. full_words (texts l)) c.in-Some.ensures.cases.0 ∙ ap full_words (map_push string_bytes full last) ∙ full-push (texts full) (string_bytes last) in
    subst (λ ws. OnOk c.push_all.result (map (λ w. w.now) c.push_all.new.words.items ≡ map (λ w. w.now) c.args.words.now.items ++ ws))
    (sym same) c.push_all.ensures
