use Rattle.std.proofs.Common.{◌≡◌, ◌≤◌, ◌++◌, ap, sym, ◌∙◌, append-nil, arith, length}
use Rattle.std.specs.List.{flat_map}
use Rattle.std.proofs.Math.ListN.{drop_of_length-le}
use Rattle.std.proofs.lemmas.List.FromFn.{length-map-range_with_len}
use Rattle.qm_postings.specs.Rows.{column_of, columns_of}
use Rattle.qm_store.proofs.stored_bytes.lengths_bytes.Goals as goal

pub returns : goal.returns
returns c =
    let at = c.loop-id in
    let s = c.args.segment.now.segment in
    let long : length (columns_of s) ≡ length s.schema = length-map-range_with_len (column_of s) 0 (length s.schema) in
    let fields = c.field_count-id-end.ensures ∙ ap length c.schema.ensures in
    let past : length (columns_of s) ≤ at.id = omega (arith, long, c.loop-id-test.false, fields) in
    sym (append-nil at.out.items) ∙ ap (λ cs. at.out.items ++ flat_map (λ c. c) cs) (sym (drop_of_length-le (columns_of s) past)) ∙ at.invariant.whole
