-- By the last word.
use Rattle.std.proofs.Common.{not, ap, sym, ◌∙◌}
use Rattle.qm_index.specs.Parts.{segments_of}
use Rattle.birchagain.specs.Body.{body_term}
use Rattle.qm_script.specs.Reached.{is_reached}
use Rattle.qm_script.proofs.LastWords.{last_passes-none, last_passes-some}
use Rattle.qm_script.proofs.cut_prefixes.is_cut.Goals as goal

pub returns-in-Some : goal.returns-in-Some
returns-in-Some c =
    let test = is_reached (segments_of c.args.segments.now) in
    ap not (c.is_reached.ensures ∙ ap (λ bytes. test (body_term bytes) c.args.most) c.as_bytes.ensures.value
    ∙ sym (last_passes-some test c.args.most c.args.words.now c.in-Some.prefix.now (sym c.in-Some.ensures.value)))

pub returns-in-None : goal.returns-in-None
returns-in-None c =
    ap not (sym (last_passes-none (is_reached (segments_of c.args.segments.now)) c.args.most c.args.words.now (sym c.in-None.ensures.value)))
