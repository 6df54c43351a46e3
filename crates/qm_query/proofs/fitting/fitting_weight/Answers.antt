-- What is said of the weight's tree is said of the query's.
use Rattle.std.proofs.Common.{inl, inr, ap, rules, subst, ◌∙◌}
use Rattle.qm_weight.specs.Scorers.{IsRefusalOf}
use Rattle.qm_weight.specs.Weights.{tree_of}
use Rattle.qm_query.specs.QueryScorers.{FitsAtOne, IsQueryRefusal}
use Rattle.qm_query.proofs.fitting.fitting_weight.Goals as goal

pub returns-in_err-weight-clause-refused : goal.returns-in_err-weight-clause-refused
returns-in_err-weight-clause-refused g c =
    let refused : IsQueryRefusal g.P.Bm25StatisticsProvider c.args.enable_scoring (g.Q.Query.query c.args.query.now) 1 c.in_err-weight.field-0.0 =
    inl c.in_err-weight.ensures.refused in
    search rules

pub returns-in_err-check_fits-clause-refused : goal.returns-in_err-check_fits-clause-refused
returns-in_err-check_fits-clause-refused g c =
    let same = ap tree_of c.deref.ensures ∙ c.in_ok-weight.ensures.tree in
    let refused : IsQueryRefusal g.P.Bm25StatisticsProvider c.args.enable_scoring (g.Q.Query.query c.args.query.now) 1 c.in_err-check_fits.field-0.0 =
    inr (subst (λ t. IsRefusalOf t 1 c.in_err-check_fits.field-0.0) same c.in_err-check_fits.ensures.refused) in
    search rules

pub returns-clause-fits : goal.returns-clause-fits
returns-clause-fits g c = subst FitsAtOne (ap tree_of c.deref.ensures ∙ c.in_ok-weight.ensures.tree) c.in_ok-check_fits.ensures.fits
