use Rattle.std.proofs.Common.{Err, ap}
use Rattle.std.proofs.lemmas.Result.{err_from_is_err_and}
use Rattle.qm_index.specs.Indexed.{indexed}
use Rattle.qm_index.proofs.SmallLast.{memory-alone}
use Rattle.qm_index.proofs.index.Index.join_small_segments.Goals as goal

pub returns-in_err-join_last_segments-clause-refused : goal.returns-in_err-join_last_segments-clause-refused
returns-in_err-join_last_segments-clause-refused c =
    let p = err_from_is_err_and c.from_residual.result c.from_residual.ensures.1 in
    let told = c.in_err-join_last_segments.ensures in
    rw (p.1, p.2) (memory-alone (indexed c.loop-alloc.self) (c.has_small_last.ensures.0 c.loop-alloc-test.true) c.in_err-join_last_segments.field-0.0
    told.refused (λ is. told.unlike.0 (ap Err is)) (λ is. told.many.0 (ap Err is)))
