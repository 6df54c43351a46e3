use Rattle.std.proofs.Common.{◌≡◌, ◌-◌, ◌+◌, ◌*◌, drop, length, min, take, arith, ap, ◌∙◌, length-drop}
use Rattle.std.proofs.lemmas.List.{take_min}
use Rattle.qm_scorer.specs.LeastDocs.{least_of}
use Rattle.qm_scorer.proofs.least_docs.least_in.Goals as goal

pub returns : goal.returns
returns c =
    let start = 32 * c.args.span in
    let row = drop start c.args.row.now in
    let long : start + c.min.result - start ≡ min 32 (length row) = omega (arith, c.min.ensures, length-drop start c.args.row.now) in
    c.least_doc.ensures ∙ ap (λ n. least_of (take n row)) long ∙ ap least_of (take_min 32 row)
