use Rattle.std.proofs.Common.{◌≡◌, ◌<◌, [], ◌∷◌, ◌++◌, ap, arith, get_or, length, map, sym, ◌∙◌}
use Rattle.std.specs.List.{range_with_len}
use Rattle.std.proofs.lemmas.List.{map_push}
use Rattle.std.proofs.lemmas.List.FromFn.{get_or-map-range_with_len, map-range_with_len_more}
use Rattle.qm_postings.specs.Rows.{column_of, columns_of}
use Rattle.qm_script.proofs.terms_alone.all_columns.Goals as goal

pub loop-field-preserved : goal.loop-field-preserved
loop-field-preserved c =
    let segment = c.args.segment.now.segment in
    let field = c.loop-field.field in
    let within : field < length segment.schema = omega (arith, c.loop-field-test.true, c.field_count-field-end.ensures, ap length c.schema.ensures) in
    let here : get_or (columns_of segment) field [] ≡ column_of segment field =
    get_or-map-range_with_len (column_of segment) 0 (length segment.schema) field field [] within (omega arith) in
    let own : c.extend_from_slice.new.self.items ≡ column_of segment field = c.in_ok-extend_from_slice.ensures.items
    ∙ ap (λ l. l ++ c.length_ids-ids.result.now) c.in_ok-column.ensures.items ∙ c.length_ids-ids.ensures
    ∙ ap (λ n. get_or (columns_of segment) n []) c.from_field_id.ensures ∙ here in
    ap (map (λ v. v.items)) c.in_ok-push.ensures.items ∙ map_push (λ v. v.items) _ _
    ∙ (λ i. c.loop-field.invariant i ++ own i ∷ [])
    ∙ sym (map-range_with_len_more (column_of segment) 0 field field (omega arith))

pub returns-clause-columns : goal.returns-clause-columns
returns-clause-columns c =
    let segment = c.args.segment.now.segment in
    let end : c.loop-field.field ≡ length segment.schema =
    omega (arith, c.loop-field-test.false, c.loop-field.auto.field-end, c.field_count-field-end.ensures, ap length c.schema.ensures) in
    c.loop-field.invariant ∙ ap (λ n. map (column_of segment) (range_with_len 0 n)) end
