use Rattle.std.proofs.Common.{◌∙◌, Ok, ap, length, sym}
use Rattle.std.specs.Prelude.{ok_or}
use Rattle.qm_store.specs.Deletions.{numbers_in}
use Rattle.qm_store.specs.Sealed.{told_by}
use Rattle.qm_store.specs.declared.store_error.StoreError.TheVariants.{Damaged}
use Rattle.qm_store.proofs.deletions.delete_stored.Goals as goal

pub returns-in_default-clause-read : goal.returns-in_default-clause-read
returns-in_default-clause-read c =
    let key = c.args.key in
    let none = rw c.in_default.is at c.in_ok-numbers.ensures.read in
    ap (λ h. told_by h (numbers_in key (length c.args.segment.now.segment.documents))) c.in_ok-body.ensures
    ∙ ap (λ n. ok_or (numbers_in key n c.in_ok-body.body.now) Damaged) (sym c.max_doc.ensures.number)
    ∙ ap (λ r. ok_or r Damaged) (sym none)

pub returns-clause-read : goal.returns-clause-read
returns-clause-read c =
    let key = c.args.key in
    let some = rw c.in-Some.is at c.in_ok-numbers.ensures.read in
    ap (λ h. told_by h (numbers_in key (length c.args.segment.now.segment.documents))) c.in_ok-body.ensures
    ∙ ap (λ n. ok_or (numbers_in key n c.in_ok-body.body.now) Damaged) (sym c.max_doc.ensures.number)
    ∙ ap (λ r. ok_or r Damaged) (sym some)
    ∙ ap (λ l. Ok l) (sym (c.in_ok-delete_all.ensures.deleted ∙ c.deref.ensures.value))
