use Rattle.std.proofs.Common.{refl}
use Rattle.std.proofs.lemmas.Result.{err_from_is_err_and}
use Rattle.qm_script.specs.Spelled.{texts}
use Rattle.qm_script.proofs.Building.{phrase-refused}
use Rattle.qm_script.proofs.query_builder.build_phrase.Goals as goal

pub returns-in_err-query : goal.returns-in_err-query
returns-in_err-query c =
    let passed = err_from_is_err_and c.from_residual-in_err-query.result c.from_residual-in_err-query.ensures.1 in
    rw (passed.1, passed.2) (phrase-refused c.args.slop
    (texts c.args.words.now) c.in_ok-terms.terms.items c.in_ok-terms.ensures.terms _ c.in_err-query.field-0.0 refl c.in_err-query.ensures.refused)
