use Rattle.std.proofs.Common.{◌++◌, append_assoc, ap, map, sym, ◌∙◌}
use Rattle.std.proofs.lemmas.Result.{on_ok_weaker}
use Rattle.qm_index.specs.Parts.{segments_of}
use Rattle.birchagain.specs.Body.{body_term}
use Rattle.qm_script.specs.AskedTerms.{all_expansions}
use Rattle.qm_script.specs.Spelled.{texts}
use Rattle.qm_script.proofs.AskedPushes.{last_expansions-some}
use Rattle.qm_script.proofs.asked_terms.push_prefix.Goals as goal

pub returns-in-Some-clause-added : goal.returns-in-Some-clause-added
returns-in-Some-clause-added c =
    let segments = segments_of c.args.segments.now in
    let words = c.args.words.now in
    let had = c.args.terms.now.items in
    let spelled = map body_term (texts words) in
    let pushed = c.push_words.new.terms.items in
    let last = ap (λ bytes. all_expansions segments (body_term bytes) c.args.most) c.as_bytes.ensures.value
    ∙ sym (last_expansions-some segments c.args.most words c.in-Some.prefix.now (sym c.in-Some.ensures.value)) in
    on_ok_weaker c.push_all_expansions.result (λ is. is ∙ (λ i. c.in_ok-push_words.ensures.added i ++ last i)
    ∙ append_assoc had spelled _) c.push_all_expansions.ensures.added
