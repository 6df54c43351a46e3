use Rattle.std.proofs.Common.{◌≡◌, ◌∙◌, ap, arith, drop, length, sym, take, take_all}
use Rattle.std.proofs.lemmas.List.{length-drop}
use Rattle.qm_postings.specs.RowsSoFar.{RowsSoFar, pushed_row}
use Rattle.qm_postings.proofs.BuiltRows.{positions-start-is-0, start-is-0}
use Rattle.qm_postings.proofs.rows_builder.RowsBuilder.into_row.Goals as goal

pub returns : goal.returns
returns c =
    let it = c.self.inside in
    let no_rows = ap (λ (b : RowsSoFar). b.rows) c.self.view_is ∙ c.requires in
    let first = start-is-0 it.arrays.terms.items it.arrays.documents.items it.arrays.frequencies it.arrays.positions.items it.start it.positions_start
    c.self.invariant no_rows in
    let first_position = positions-start-is-0 it.arrays.terms.items it.arrays.documents.items it.arrays.frequencies it.arrays.positions.items it.start
    it.positions_start c.self.invariant no_rows in
    let count = c.posting_count-count.result in
    let all : take count (drop it.start it.arrays.frequencies) ≡ drop it.start it.arrays.frequencies =
    take_all count (drop it.start it.arrays.frequencies) (omega (
      arith,
      c.posting_count-count.ensures,
      ap (λ (b : RowsSoFar). length b.frequencies) c.self.view_is,
      length-drop it.start it.arrays.frequencies,
    )) in
    (λ i. record {
      term = c.args.term;
      documents = drop (sym first i) it.arrays.documents.items;
      frequencies = (c.in_ok-frequencies.ensures.same ∙ c.part.ensures ∙ all) i;
      positions = drop (sym first_position i) it.arrays.positions.items;
    }) ∙ ap (pushed_row c.args.term) c.self.view_is
