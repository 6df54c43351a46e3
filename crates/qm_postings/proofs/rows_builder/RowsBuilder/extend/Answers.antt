use Rattle.std.proofs.Common.{◌++◌, ap, ◌∙◌}
use Rattle.qm_postings.specs.RowsSoFar.{RowsSoFar, pushed_row}
use Rattle.qm_postings.proofs.BuiltRows.{invariant-pushed, shown-pushed}
use Rattle.qm_postings.proofs.rows_builder.RowsBuilder.extend.Goals as goal

pub invariant_of-self : goal.invariant_of-self
invariant_of-self c =
    let it = c.self.inside in
    let p = c.extend.ensures.grown in
    invariant-pushed it.arrays c.extend.new.self it.start it.positions_start c.self.invariant p.0 p.1 p.2 p.3

pub invariant_of-self-2 : goal.invariant_of-self-2
invariant_of-self-2 c =
    let it = c.self.inside in
    let p = c.extend.ensures.grown in
    invariant-pushed it.arrays c.extend.new.self it.start it.positions_start c.self.invariant p.0 p.1 p.2 p.3

pub returns-in_err-extend-clause-rows : goal.returns-in_err-extend-clause-rows
returns-in_err-extend-clause-rows c =
    let it = c.self.inside in
    let p = c.extend.ensures.grown in
    ap (λ (b : RowsSoFar). b.rows)
    (shown-pushed it.arrays c.extend.new.self it.start it.positions_start c.self.invariant p.0 p.1 p.2 p.3)
    ∙ ap (λ (b : RowsSoFar). b.rows) c.self.view_is

pub returns-clause-rows : goal.returns-clause-rows
returns-clause-rows c =
    let it = c.self.inside in
    let p = c.extend.ensures.grown in
    ap (λ (b : RowsSoFar). b.rows)
    (shown-pushed it.arrays c.extend.new.self it.start it.positions_start c.self.invariant p.0 p.1 p.2 p.3)
    ∙ ap (λ (b : RowsSoFar). b.rows) c.self.view_is

pub returns-clause-added : goal.returns-clause-added
returns-clause-added c =
    let it = c.self.inside in
    let row = c.args.row.now in
    let none = c.self.view_is ∙ c.requires.begun in
    ap (pushed_row row.term)
    (shown-pushed it.arrays c.extend.new.self it.start it.positions_start c.self.invariant row.documents row.frequencies row.positions
    c.in_ok-extend.ensures.added)
    ∙ (λ i. record {
      term = row.term;
      documents = (none i).documents ++ row.documents;
      frequencies = (none i).frequencies ++ row.frequencies;
      positions = (none i).positions ++ row.positions;
    })
