use Rattle.std.proofs.lemmas.Result.{err_from_is_err_and}
use Rattle.birchagain_c.proofs.bytes.boxed_index.Goals as goal

pub returns-in_err-index-clause-whole : goal.returns-in_err-index-clause-whole
returns-in_err-index-clause-whole c =
    let p = err_from_is_err_and c.from_residual.result c.from_residual.ensures.1 in
    λ saved are norms. rw (p.1, p.2) (c.in_err-index.ensures.whole saved are norms)
