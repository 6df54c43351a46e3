use Rattle.std.proofs.Common.{◌≡◌, ◌+◌, ◌-◌, ◌++◌, arith, ap, sym, ◌∙◌, List, option_map}
use Rattle.std.proofs.lemmas.Result.{err_from_is_err_and}
use Rattle.qm_postings.specs.Rows.{Row}
use Rattle.qm_store.specs.Entries.{lent_entry}
use Rattle.qm_store.specs.StoredSegment.{rows_by, rows_of_entry}
use Rattle.qm_store.proofs.RowsThen.{block-begun, entry-lacks, entry-next, goes-on, rows_among, stops, tells}
use Rattle.qm_store.proofs.stored_segment.StoredSegment.push_rows_of.Goals as goal

pub returns-in_default-read_entry : goal.returns-in_default-read_entry
returns-in_default-read_entry g c = λ file known.
    let at = c.loop in
    let key = c.args.self.now.key in
    let schema = c.args.schema.now in
    let chosen = option_map (λ w. w.now) c.args.chosen in
    sym (block-begun key file schema chosen c.args.rows.now.rows c.args.block.now c.in-Some.rest.now c.in-Some.count c.in-Some.ensures.read)
    ∙ sym (at.invariant.whole file known)
    ∙ ap (option_map (λ (more : List Row). at.rows.rows ++ more))
    (entry-lacks key file schema chosen (c.in-Some.count - at.counter) at.rest.now (omega (arith, c.loop-test.true)) (sym c.in_default-read_entry.ensures.read))

pub returns-in_err-push_chosen : goal.returns-in_err-push_chosen
returns-in_err-push_chosen g c = λ file known.
    let at = c.loop in
    let key = c.args.self.now.key in
    let schema = c.args.schema.now in
    let chosen = option_map (λ w. w.now) c.args.chosen in
    let e = lent_entry c.in-Some-read_entry.entry in
    let left = c.in-Some.count - at.counter in
    let behind = c.in-Some-read_entry.behind.now in
    let own = rows_of_entry key file schema chosen e in
    let all = option_map (λ (more : List Row). c.args.rows.now.rows ++ more) (rows_by key file schema chosen c.args.block.now) in
    let next = entry-next key file schema chosen left at.rest.now behind e (omega (arith, c.loop-test.true)) (sym c.in-Some-read_entry.ensures.read) in
    let told = ap (option_map (λ (more : List Row). at.rows.rows ++ more)) (sym next) ∙ at.invariant.whole file known
    ∙ block-begun key file schema chosen c.args.rows.now.rows c.args.block.now c.in-Some.rest.now c.in-Some.count c.in-Some.ensures.read
    in
    let p = err_from_is_err_and c.from_residual.result c.from_residual.ensures.1 in
    rw (p.1, p.2) (tells c.in_err-push_chosen.field-0.0 (option_map (λ (more : List Row). at.rows.rows ++ more) own) all (c.in_err-push_chosen.ensures file known)
    (λ none. stops at.rows.rows own (rows_among key file schema chosen (left - 1) behind) all told none))

pub loop-preserved : goal.loop-preserved
loop-preserved g c = record {
  whole = λ file known.
      let at = c.loop in
      let key = c.args.self.now.key in
      let schema = c.args.schema.now in
      let chosen = option_map (λ w. w.now) c.args.chosen in
      let e = lent_entry c.in-Some-read_entry.entry in
      let left = c.in-Some.count - at.counter in
      let behind = c.in-Some-read_entry.behind.now in
      let new = c.push_chosen.new.rows.rows in
      let next = entry-next key file schema chosen left at.rest.now behind e (omega (arith, c.loop-test.true)) (sym c.in-Some-read_entry.ensures.read) in
      let less : c.in-Some.count - (at.counter + 1) ≡ left - 1 = omega arith in
      ap (λ k. option_map (λ (more : List Row). new ++ more) (rows_among key file schema chosen k behind)) less
      ∙ goes-on at.rows.rows (rows_of_entry key file schema chosen e) (rows_among key file schema chosen (left - 1) behind) _
      (ap (option_map (λ (more : List Row). at.rows.rows ++ more)) (sym next) ∙ at.invariant.whole file known) new (c.in_ok-push_chosen.ensures file known);
}
