use Rattle.std.proofs.Common.{◌≡◌, ◌<◌, [], ◌∷◌, ◌++◌, ap, arith, get_or, length, map, sym, ◌∙◌}
use Rattle.std.proofs.lemmas.List.{map_push}
use Rattle.std.proofs.lemmas.List.FromFn.{get_or-map-range_with_len, map-range_with_len_more}
use Rattle.qm_postings.specs.Rows.{column_of, columns_of}
use Rattle.qm_merge.specs.AliveRows.{alive_column, ids_left}
use Rattle.qm_merge.proofs.SegmentLeft.{column-fits, ids-left}
use Rattle.qm_merge.proofs.alive_columns.alive_columns.Goals as goal

pub alive_column-requires : goal.alive_column-requires
alive_column-requires c =
    let s = c.args.segment.now.segment in
    let id = c.loop-id.id in
    let within : id < length s.schema = omega (arith, c.loop-id-test.true, c.field_count-id-end.ensures, ap length c.schema.ensures) in
    let own : c.length_ids-ids.result.now ≡ column_of s id = c.length_ids-ids.ensures
    ∙ ap (λ n. get_or (columns_of s) n []) c.from_field_id.ensures
    ∙ get_or-map-range_with_len (column_of s) 0 (length s.schema) id id [] within (omega arith) in
    omega (arith, column-fits s id, ap length own, ap length c.requires)

pub loop-id-preserved : goal.loop-id-preserved
loop-id-preserved c =
    let s = c.args.segment.now.segment in
    let id = c.loop-id.id in
    let within : id < length s.schema = omega (arith, c.loop-id-test.true, c.field_count-id-end.ensures, ap length c.schema.ensures) in
    let own : c.length_ids-ids.result.now ≡ column_of s id = c.length_ids-ids.ensures
    ∙ ap (λ n. get_or (columns_of s) n []) c.from_field_id.ensures
    ∙ get_or-map-range_with_len (column_of s) 0 (length s.schema) id id [] within (omega arith) in
    let left : c.in_ok-alive_column.field-0.items ≡ alive_column s id = c.in_ok-alive_column.ensures.ids
    ∙ (λ i. ids_left (c.requires i) (own i)) ∙ ids-left s id in
    ap (map (λ v. v.items)) c.in_ok-push.ensures.items ∙ map_push (λ v. v.items) _ _
    ∙ (λ i. c.loop-id.invariant i ++ left i ∷ [])
    ∙ sym (map-range_with_len_more (alive_column s) 0 id id (omega arith))
