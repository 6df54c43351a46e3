use Rattle.std.proofs.Common.{◌++◌, ◌<◌, ◌≤◌, [], ◌∷◌, arith, ap, ◌∙◌, add-one, drop, length, map, option_map, suc}
use Rattle.std.proofs.lemmas.List.{map_push}
use Rattle.qm_store.specs.Columns.{columns_at}
use Rattle.qm_store.proofs.ReadingOn.{column-lacks, column-passes, next-column, no_field}
use Rattle.qm_store.proofs.length_columns.read_columns.Goals as goal

pub returns-then-count-rest : goal.returns-then-count-rest
returns-then-count-rest c =
    let at = c.loop-id in
    let schema = c.args.schema.now in
    let inside : at.id < length schema = omega (arith, c.loop-id-test.true, c.field_count-id-end.ensures) in
    let next = next-column schema at.id no_field inside in
    column-lacks (map (λ c. c.items) at.columns.items) (drop at.id schema) _ _ c.args.documents at.rest.now _ at.invariant.whole
    next.0 c.column_len-count.result (c.column_len-count.ensures ∙ next.1 c.args.documents) c.if-count-rest.true

pub loop-id-preserved : goal.loop-id-preserved
loop-id-preserved c =
    let at = c.loop-id in
    let schema = c.args.schema.now in
    let inside : at.id < length schema = omega (arith, c.loop-id-test.true, c.field_count-id-end.ensures) in
    let next = next-column schema at.id no_field inside in
    let n = c.column_len-count.result in
    let within : n ≤ length at.rest.now = omega (arith, c.if-count-rest.false) in
    let pushed = ap (map (λ c. c.items)) c.in_ok-push.ensures.items ∙ map_push (λ c. c.items) at.columns.items c.in_ok-from_slice.field-0 in
    let own = c.in_ok-from_slice.ensures.items ∙ c.split_at.ensures.front in
    record {
      whole =
          (λ i. option_map (λ back. pushed i ++ back) (columns_at (drop (add-one at.id i) schema) c.args.documents (c.split_at.ensures.back i)))
          ∙ ap (λ x. option_map (λ back. (map (λ c. c.items) at.columns.items ++ x ∷ []) ++ back) (columns_at (drop (suc at.id) schema) c.args.documents (drop n at.rest.now))) own
          ∙ column-passes (map (λ c. c.items) at.columns.items) (drop at.id schema) _ _ c.args.documents at.rest.now _ at.invariant.whole
          next.0 n (c.column_len-count.ensures ∙ next.1 c.args.documents) within;
    }
