-- The products of the boost with those of the weight.
use Rattle.std.proofs.Common.{rules, ◌≡◌, ◌*◌, ◌≤◌, ◌∙◌, max}
use Rattle.qm_docset.specs.Entry.{greatest_score}
use Rattle.qm_term.specs.Bm25Weight.{weighing}
use Rattle.qm_weight.proofs.FittingBounds.{bound-weighed, fits-weighed, unfit-weighed}
use Rattle.qm_weight.proofs.bounds.bound_of_weighed.Goals as goal

pub returns-in_err-greatest : goal.returns-in_err-greatest
returns-in_err-greatest c =
    let b = c.args.boost in
    let w = c.args.weight.now in
    let past : ¬ (b * (w.boost * w.weight) ≤ greatest_score) = search (rules, c.in_err-greatest.ensures) in
    let unfit = unfit-weighed b (weighing w) past in
    search (rules, unfit)

pub returns : goal.returns
returns c =
    let b = c.args.boost in
    let w = c.args.weight.now in
    let product : b * w.boost ≤ greatest_score = search (rules, c.in_ok-score_product.ensures) in
    let fits : b * (w.boost * w.weight) ≤ greatest_score = search (rules, c.in_ok-greatest.ensures) in
    let is : c.max.result ≡ max 1 (b * (w.boost * w.weight)) = search (rules, c.in_ok-greatest.ensures) in
    (fits-weighed b (weighing w) product fits, is ∙ bound-weighed b (weighing w))
