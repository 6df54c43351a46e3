use Rattle.std.proofs.Common.{◌≡◌, ◌⊎◌, Equal, Greater, Less, Ordering, ap, arith, inl, inr, is_lt, refl, sym, ◌∙◌}
use Rattle.std.proofs.lemmas.Bool.{false≢true}
use Rattle.qm_postings.specs.LentRow.{lent_row}
use Rattle.qm_postings.proofs.RowTerms.{ascend-next, ascending, ascends-there}
use Rattle.qm_postings.proofs.rows_builder.checks.have_ascending_terms.Goals as goal

not-less : (o : Ordering) → (o ≡ Equal) ⊎ (o ≡ Greater) → o ≡ Less → ⊥
not-less o (inl equal) less = false≢true (ap is_lt (sym equal ∙ less))
not-less o (inr greater) less = false≢true (ap is_lt (sym greater ∙ less))

pub returns-in-Equal : goal.returns-in-Equal
returns-in-Equal g c =
    let rows = g.R.LentRows.rows c.args.rows.now in (
      λ e. absurd (false≢true e),
      λ sorted. absurd (
          not-less c.cmp.result c.in-Equal.is (c.cmp.ensures
          ∙ ascends-there rows c.loop-place.place (lent_row c.row_at-before.result) (lent_row c.row_at-row.result) (omega arith) (omega arith)
          c.row_at-before.ensures c.row_at-row.ensures sorted)
          ),
    )

pub loop-place-preserved : goal.loop-place-preserved
loop-place-preserved g c =
    let rows = g.R.LentRows.rows c.args.rows.now in
    ascend-next rows c.loop-place.place (lent_row c.row_at-before.result) (lent_row c.row_at-row.result) (omega arith) (omega arith)
    c.row_at-before.ensures c.row_at-row.ensures (sym c.cmp.ensures ∙ c.in-Less.is) c.loop-place.invariant

pub returns : goal.returns
returns g c = (λ _. ascending (g.R.LentRows.rows c.args.rows.now) c.loop-place.place (omega arith) c.loop-place.invariant, λ _. refl)
