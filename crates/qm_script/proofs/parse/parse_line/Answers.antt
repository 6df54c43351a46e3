use Rattle.std.proofs.Common.{◌≡◌, Some, ap, subst, sym, ◌∙◌}
use Rattle.qm_postings.specs.Document.{words_of}
use Rattle.qm_script.specs.Requests.{request_of}
use Rattle.qm_script.specs.Script.{add_document, line_request}
use Rattle.qm_script.specs.Spelled.{Gives}
use Rattle.qm_script.proofs.LineReadBack.{request-read}
use Rattle.qm_script.proofs.parse.parse_line.Goals as goal

pub returns-in_ok-from_str-in-Some-clause-spelled : goal.returns-in_ok-from_str-in-Some-clause-spelled
returns-in_ok-from_str-in-Some-clause-spelled c request spells utf8 =
    let same : c.in-Ok.text.now ≡ c.args.line.now = c.in-Ok.ensures.cases.0 in
    let asked = ap line_request (same ∙ spells.is) ∙ request-read request spells.can_be in
    sym asked ∙ c.in-Some.ensures ∙ ap (λ text. Some (add_document (words_of text))) (sym c.in_ok-from_str-in-Some.ensures.ok)

pub returns-in-None-clause-spelled : goal.returns-in-None-clause-spelled
returns-in-None-clause-spelled c request spells utf8 =
    let same : c.in-Ok.text.now ≡ c.args.line.now = c.in-Ok.ensures.cases.0 in
    let asked = ap line_request (same ∙ spells.is) ∙ request-read request spells.can_be in
    subst (Gives request_of c.parse_text.result) asked c.parse_text.ensures
