use Rattle.std.proofs.Common.{◌<◌, arith, length, subst, sym}
use Rattle.qm_postings.specs.Rows.{no_row}
use Rattle.qm_postings.specs.RowsSoFar.{IsLaid}
use Rattle.qm_postings.proofs.RowChecks.{row_laid}
use Rattle.cases_postings.proofs.built_rows.built_again.Goals as goal

pub push_row-requires : goal.push_row-requires
push_row-requires c =
    let each = c.row_count-place-end.ensures.whole.made.are_rows.each in
    let inside : c.loop-place.place < length c.args.segment.now.rows =
    omega (arith, c.loop-place-test.true, c.loop-place.auto.place-end, c.row_count-place-end.ensures.count) in
    subst IsLaid (sym c.row.ensures) (row_laid _ _ _ (each c.loop-place.place no_row inside))
