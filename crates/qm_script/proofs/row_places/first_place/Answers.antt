use Rattle.std.proofs.Common.{◌+◌, ◌-◌, ◌/◌, ◌<◌, length, ap, sym, ◌∙◌, arith, inl, inr}
use Rattle.qm_postings.specs.Rows.{Row}
use Rattle.qm_schema.specs.Term.{term_cmp}
use Rattle.qm_script.proofs.FoundRows.{less-before, others-behind}
use Rattle.qm_script.proofs.row_places.first_place.Goals as goal

pub loop-low-preserved-in-Less : goal.loop-low-preserved-in-Less
loop-low-preserved-in-Less c =
    let rows = c.args.segment.now.rows in
    let had = c.loop-low.invariant in
    let middle = c.loop-low.low + (c.loop-low.high - c.loop-low.low) / 2 in
    let within : middle < length rows = omega (arith, c.loop-low-test.true, had.within) in
    let own = ap (λ (r : Row). r.term) c.row.ensures in
    let less = (λ i. term_cmp (sym (c.term.ensures ∙ own) i) c.args.term.now) ∙ sym c.cmp.ensures ∙ c.in-Less.is in
    record {
      ordered = omega (arith, c.loop-low-test.true);
      within = had.within;
      before = less-before rows middle c.args.term.now c.row_count-high.ensures.whole.made.are_rows.terms within less;
      others = had.others;
    }

pub loop-low-preserved : goal.loop-low-preserved
loop-low-preserved c =
    let rows = c.args.segment.now.rows in
    let had = c.loop-low.invariant in
    let middle = c.loop-low.low + (c.loop-low.high - c.loop-low.low) / 2 in
    let own = ap (λ (r : Row). r.term) c.row.ensures in
    let is = (λ i. term_cmp (sym (c.term.ensures ∙ own) i) c.args.term.now) ∙ sym c.cmp.ensures in
    record {
      ordered = omega (arith, c.loop-low-test.true);
      within = omega (arith, c.loop-low-test.true, had.within);
      before = had.before;
      others = others-behind rows middle c.args.term.now c.row_count-high.ensures.whole.made.are_rows.terms
          (λ less. elim c.in-Equal.is [ inl equal ↦ (let wrong = sym equal ∙ sym is ∙ less in cc) | inr greater ↦ (let wrong = sym greater ∙ sym is ∙ less in cc) ]);
    }
