use Rattle.std.proofs.Common.{◌≡◌, ◌<◌, [], ◌∷◌, ◌++◌, ap, arith, get_or, length, map, sym, ◌∙◌}
use Rattle.std.proofs.lemmas.List.{map_push}
use Rattle.std.proofs.lemmas.List.FromFn.{get_or-map-range_with_len, map-range_with_len_more}
use Rattle.qm_postings.specs.Rows.{column_of, columns_of}
use Rattle.qm_merge.specs.JoinedRows.{column_of_both}
use Rattle.qm_merge.proofs.joined_columns.joined_columns.Goals as goal

pub loop-id-preserved : goal.loop-id-preserved
loop-id-preserved c =
    let s = c.args.first.now.segment in
    let t = c.args.second.now.segment in
    let id = c.loop-id.id in
    let within : id < length s.schema = omega (arith, c.loop-id-test.true, c.field_count-id-end.ensures, ap length c.schema.ensures) in
    let inside : id < length t.schema = omega (arith, within, ap length c.requires.alike.schema) in
    let of_first : c.length_ids.result.now ≡ column_of s id = c.length_ids.ensures
    ∙ ap (λ n. get_or (columns_of s) n []) c.from_field_id-field.ensures
    ∙ get_or-map-range_with_len (column_of s) 0 (length s.schema) id id [] within (omega arith) in
    let of_second : c.length_ids-in-loop-id.result.now ≡ column_of t id = c.length_ids-in-loop-id.ensures
    ∙ ap (λ n. get_or (columns_of t) n []) c.from_field_id-field.ensures
    ∙ get_or-map-range_with_len (column_of t) 0 (length t.schema) id id [] inside (omega arith) in
    let front : c.extend_from_slice.new.self.items ≡ column_of s id = c.in_ok-extend_from_slice.ensures.items
    ∙ ap (λ l. l ++ c.length_ids.result.now) c.new-column.ensures.items ∙ of_first in
    let own : c.extend_from_slice-in-loop-id.new.self.items ≡ column_of_both s t id = c.in_ok-extend_from_slice-2.ensures.items
    ∙ (λ i. front i ++ of_second i) in
    ap (map (λ v. v.items)) c.in_ok-push.ensures.items ∙ map_push (λ v. v.items) _ _
    ∙ (λ i. c.loop-id.invariant i ++ own i ∷ [])
    ∙ sym (map-range_with_len_more (column_of_both s t) 0 id id (omega arith))
