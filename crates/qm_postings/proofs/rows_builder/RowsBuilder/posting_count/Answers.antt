use Rattle.std.proofs.Common.{ap, arith, length}
use Rattle.std.proofs.lemmas.List.{length-drop}
use Rattle.qm_postings.specs.RowsSoFar.{RowsSoFar}
use Rattle.qm_postings.proofs.rows_builder.RowsBuilder.posting_count.Goals as goal

pub returns : goal.returns
returns c =
    let it = c.self.inside in
    omega (arith, c.len.ensures, ap (λ (b : RowsSoFar). length b.frequencies) c.self.view_is, length-drop it.start it.arrays.frequencies)
