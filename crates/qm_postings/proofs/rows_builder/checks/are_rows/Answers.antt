use Rattle.std.proofs.Common.{arith, refl, subst, take_all}
use Rattle.std.specs.Prelude.{All}
use Rattle.std.proofs.lemmas.Bool.{false≢true}
use Rattle.std.proofs.lemmas.List.Elements.{All-more}
use Rattle.qm_postings.specs.Rows.{IsRow, no_row}
use Rattle.qm_postings.proofs.rows_builder.checks.are_rows.Goals as goal

pub returns-then-not-is_row_at : goal.returns-then-not-is_row_at
returns-then-not-is_row_at g c = (
  λ e. absurd (false≢true e),
  λ are. let found = c.is_row_at.ensures.1 (are.each c.loop-place.place no_row (omega arith)) in cc,
)

pub loop-place-preserved : goal.loop-place-preserved
loop-place-preserved g c =
    All-more (IsRow c.args.schema.now c.args.max_doc) (g.R.LentRows.rows c.args.rows.now) c.loop-place.place no_row (omega arith) c.loop-place.invariant
    (c.is_row_at.ensures.0 c.if-not-is_row_at.false)

pub returns : goal.returns
returns g c = (
  λ _. record {
    terms = c.have_ascending_terms.ensures.0 c.if-not-have_ascending_terms.false;
    each = subst (All (IsRow c.args.schema.now c.args.max_doc)) (take_all c.loop-place.place (g.R.LentRows.rows c.args.rows.now) (omega arith))
        c.loop-place.invariant;
  },
  λ _. refl,
)
