use Rattle.std.proofs.Common.{◌∙◌, ap, length, sym}
use Rattle.std.specs.Prelude.{nat_lt}
use Rattle.std.specs.List.{list_all}
use Rattle.std.proofs.lemmas.Bool.{eqb-true}
use Rattle.qm_store.proofs.DeletionSteps.{body-read, numbers-read}
use Rattle.qm_store.proofs.deletions.read_numbers.Goals as goal

pub returns-then-is_empty-clause-read : goal.returns-then-is_empty-clause-read
returns-then-is_empty-clause-read c =
    let numbers = c.read_gaps.new.numbers.items in
    let all = ap (list_all (λ d. nat_lt d c.args.count)) (sym c.deref.ensures.value) ∙ sym c.are_within.ensures ∙ c.if-not-are_within.false in
    let read = rw c.in-Some-2.is at c.in_ok-rest.ensures in
    body-read c.args.key c.args.count c.in-Some.deleted c.args.body.now c.in-Some.rest.now c.new-numbers.result.items numbers c.in-Some-2.rest.now
    c.in-Some.ensures c.new-numbers.ensures.items read all (eqb-true (length c.in-Some-2.rest.now) 0 (sym c.if-is_empty.ensures))

pub returns-then-is_empty-clause-numbers : goal.returns-then-is_empty-clause-numbers
returns-then-is_empty-clause-numbers c =
    let numbers = c.read_gaps.new.numbers.items in
    let all = ap (list_all (λ d. nat_lt d c.args.count)) (sym c.deref.ensures.value) ∙ sym c.are_within.ensures ∙ c.if-not-are_within.false in
    let read = rw c.in-Some-2.is at c.in_ok-rest.ensures in
    numbers-read c.args.key c.args.count c.in-Some.deleted c.args.body.now c.in-Some.rest.now c.new-numbers.result.items numbers c.in-Some-2.rest.now
    c.in-Some.ensures c.new-numbers.ensures.items read all
