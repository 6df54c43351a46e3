use Rattle.std.proofs.Common.{ap, arith, get_or, length, sym, ◌∙◌}
use Rattle.std.proofs.lemmas.List.{get_or-drop, length-drop}
use Rattle.qm_postings.specs.RowsSoFar.{RowsSoFar}
use Rattle.qm_postings.proofs.rows_builder.RowsBuilder.frequency.Goals as goal

pub at-requires : goal.at-requires
at-requires c =
    let it = c.self.inside in
    omega (arith, c.requires, ap (λ (b : RowsSoFar). length b.frequencies) c.self.view_is, length-drop it.start it.arrays.frequencies)

pub overflow_add-self-inside : goal.overflow_add-self-inside
overflow_add-self-inside c =
    let it = c.self.inside in
    omega (
      arith,
      c.requires,
      ap (λ (b : RowsSoFar). length b.frequencies) c.self.view_is,
      length-drop it.start it.arrays.frequencies,
      c.len-count.ensures,
    )

pub returns : goal.returns
returns c =
    let it = c.self.inside in
    c.at.ensures ∙ sym (get_or-drop it.start it.arrays.frequencies c.args.place 0)
    ∙ ap (λ (b : RowsSoFar). get_or b.frequencies c.args.place 0) c.self.view_is
