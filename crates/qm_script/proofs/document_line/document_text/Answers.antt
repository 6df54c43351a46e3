use Rattle.std.proofs.Common.{◌≡◌, ◌++◌, ◌∙◌, ap, codes, lit<, sym}
use Rattle.std.proofs.lemmas.Bool.{false≢true}
use Rattle.std.proofs.lemmas.Str.Pattern.{contains_char}
use Rattle.qm_script.specs.Script.{line_request}
use Rattle.qm_script.proofs.DocumentLines.{document-asked}
use Rattle.qm_script.proofs.WordLemmas.{no-tabs}
use Rattle.qm_script.proofs.document_line.document_text.Goals as goal

pub returns : goal.returns
returns c =
    let text = c.in_ok-text.text.now in
    let cut = c.in_ok-text.ensures.cases in
    let line : c.args.line.now ≡ codes "doc " ++ text = cut.1.1 ∙ ap (λ rest. codes "doc " ++ rest) (sym cut.2) in
    let tabs = contains_char 9 text c.contains.result c.contains.ensures.cases (lit< tt) in
    ap line_request line ∙ document-asked text (no-tabs text (λ k below is. false≢true (sym c.if-contains.false ∙ tabs.1 k below is)))
