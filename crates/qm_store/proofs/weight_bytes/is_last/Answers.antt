use Rattle.std.proofs.Common.{◌∙◌, ap, sym}
use Rattle.std.specs.Ordering.{is_lt}
use Rattle.std.proofs.lemmas.Cmp.{is_lt_index}
use Rattle.qm_store.proofs.ItemSteps.{last-shown}
use Rattle.qm_store.proofs.weight_bytes.is_last.Goals as goal

pub returns-in-Some : goal.returns-in-Some
returns-in-Some c =
    c.eq.ensures ∙ sym (is_lt_index c.cmp.result) ∙ ap is_lt c.cmp.ensures
    ∙ last-shown c.args.weights.now.entries c.in-Some.last.now c.args.term.now c.in-Some.field-0-1.now c.in-Some.ensures.last c.in-Some.ensures.all_up_to
