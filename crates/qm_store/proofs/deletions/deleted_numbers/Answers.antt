use Rattle.std.proofs.Common.{◌<◌, ◌∙◌, ap, arith, length, sym}
use Rattle.qm_store.proofs.DeletionSteps.{deleted-next, deleted-numbers, deleted-passed, deleted-start}
use Rattle.qm_store.proofs.deletions.deleted_numbers.Goals as goal
use Rattle.qm_store.proofs.deletions.deleted_numbers.Goals.{then-not-is_alive+in_ok-push, else-not-is_alive}

pub loop-doc-init : goal.loop-doc-init
loop-doc-init c = c.new-numbers.ensures.items ∙ sym (deleted-start c.args.segment.now.segment)

pub loop-doc-preserved : goal.loop-doc-preserved
loop-doc-preserved c =
    let s = c.args.segment.now.segment in
    let at = c.loop-doc in
    let there : at.doc < length s.documents = omega (arith, c.loop-doc-test.true, c.max_doc-doc-end.ensures.number) in
    let is = c.is_alive.ensures.member ∙ c.in-Some.ensures.alive at.doc in
    elim c.if-not-is_alive.branch [
      | then-not-is_alive+in_ok-push w ↦ ap (λ v. v.items) w.numbers-is ∙ w.in_ok-push.ensures.items
          ∙ deleted-next s at.doc c.is_alive.result at.numbers.items there is w.if-not-is_alive.true at.invariant
      | else-not-is_alive w ↦ ap (λ v. v.items) w.numbers-is
          ∙ deleted-passed s at.doc c.is_alive.result at.numbers.items there is w.if-not-is_alive.false at.invariant
    ]

pub returns-clause-numbers : goal.returns-clause-numbers
returns-clause-numbers c =
    let s = c.args.segment.now.segment in
    let few = c.max_doc-doc-end.ensures.room in
    deleted-numbers s c.alive_bitset.ensures.ascending (omega (arith, c.max_doc-doc-end.ensures.number, few))
