use Rattle.std.proofs.Common.{◌≡◌, ◌+◌, ◌++◌, [], ◌∷◌, None, Some, ap, arith, cond, false, sym, true, ◌∙◌}
use Rattle.std.proofs.lemmas.List.FromFn.{map-range_with_len_more}
use Rattle.qm_postings.specs.Segment.{is_alive}
use Rattle.qm_merge.specs.AliveRows.{new_number}
use Rattle.qm_merge.proofs.AlivePlaces.{rank, rank-next, rank-same, rank-start, rank-within}
use Rattle.qm_merge.proofs.new_numbers.new_numbers.Goals as goal
use Rattle.qm_merge.proofs.new_numbers.new_numbers.Goals.{else-is_alive+in_ok-push-2, then-is_alive+in_ok-push}

pub loop-doc-init : goal.loop-doc-init
loop-doc-init c = record { numbers = c.in_ok-numbers.ensures.items; next = sym (rank-start (is_alive c.args.segment.now.segment)) }

pub overflow_add-next : goal.overflow_add-next
overflow_add-next c =
    let few = rank-within (is_alive c.args.segment.now.segment) c.loop-doc.doc in
    omega (arith, few, c.loop-doc.invariant.next, c.loop-doc-test.true, c.max_doc-doc-end.ensures.room)

pub loop-doc-preserved : goal.loop-doc-preserved
loop-doc-preserved c =
    let s = c.args.segment.now.segment in
    let doc = c.loop-doc.doc in
    let more = sym (map-range_with_len_more (new_number s) 0 doc doc (omega arith)) in
    elim c.if-is_alive.branch [
      | then-is_alive+in_ok-push w ↦
          let alive : is_alive s doc ≡ true = sym c.is_alive.ensures ∙ w.if-is_alive.true in
          let own : Some c.loop-doc.next ≡ new_number s doc = ap Some c.loop-doc.invariant.next
          ∙ sym (ap (λ b. cond b (Some (rank (is_alive s) doc)) None) alive) in
          record {
            numbers = rw w.numbers-is (w.in_ok-push.ensures.items ∙ (λ i. c.loop-doc.invariant.numbers i ++ own i ∷ []) ∙ more);
            next = w.next-is ∙ ap (λ n. n + 1) c.loop-doc.invariant.next ∙ sym (rank-next (is_alive s) doc alive);
          }
      | else-is_alive+in_ok-push-2 w ↦
          let gone : is_alive s doc ≡ false = sym c.is_alive.ensures ∙ w.if-is_alive.false in
          let own : None ≡ new_number s doc = sym (ap (λ b. cond b (Some (rank (is_alive s) doc)) None) gone) in
          record {
            numbers = rw w.numbers-is (w.in_ok-push-2.ensures.items ∙ (λ i. c.loop-doc.invariant.numbers i ++ own i ∷ []) ∙ more);
            next = w.next-is ∙ c.loop-doc.invariant.next ∙ sym (rank-same (is_alive s) doc gone);
          }
    ]
