use Rattle.std.proofs.Common.{◌≡◌, ◌++◌, ◌⊎◌, [], ap, append_assoc, arith, drop, inl, inr, map, ◌∙◌}
use Rattle.std.proofs.lemmas.List.{drop_all}
use Rattle.qm_merge.specs.JoinedRows.{row_behind}
use Rattle.qm_merge.proofs.JoinedRest.{joined-rest}
use Rattle.qm_merge.proofs.joined_rows.joined_rows.Goals as goal
use Rattle.qm_merge.proofs.joined_rows.joined_rows.Goals.{then-loop-left-test+else-right-second_rows, else-loop-left-test}

pub returns-clause-rows : goal.returns-clause-rows
returns-clause-rows c =
    let xs = c.args.first.now.rows in
    let qs = c.args.second.now.rows in
    let left = c.loop-left.left in
    let right = c.loop-left.right in
    let n = c.max_doc-count.result in
    let end : (drop left xs ≡ []) ⊎ (map (row_behind n) (drop right qs) ≡ []) = elim c.loop-left-test.branch [
      | then-loop-left-test+else-right-second_rows w ↦ inr (ap (map (row_behind n)) (drop_all right qs (omega arith)))
      | else-loop-left-test w ↦ inl (drop_all left xs (omega arith))
    ] in
    c.in_ok-push_rows_behind.ensures.added
    ∙ ap (λ l. l ++ map (row_behind n) (drop right qs)) c.in_ok-push_rows.ensures.added
    ∙ append_assoc c.loop-left.rows.items (drop left xs) (map (row_behind n) (drop right qs))
    ∙ ap (λ l. c.loop-left.rows.items ++ l) (joined-rest (drop left xs) (map (row_behind n) (drop right qs)) end)
    ∙ c.loop-left.invariant.joined
