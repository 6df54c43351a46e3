use Rattle.std.proofs.Common.{◌∙◌, ap, arith, rules, subst, sym}
use Rattle.std.specs.Prelude.{ok_or}
use Rattle.qm_store.specs.Heads.{headed_by}
use Rattle.qm_store.specs.Pieces.{Fails}
use Rattle.qm_store.specs.Sealed.{body_in, body_of, told_by}
use Rattle.qm_store.specs.declared.store_error.StoreError.TheVariants.{Damaged}
use Rattle.qm_store.proofs.SealedRead.{fails-on, headed-long}
use Rattle.qm_store.proofs.sealed.read_body.Goals as goal

pub returns-in_err-check_kind : goal.returns-in_err-check_kind
returns-in_err-check_kind c =
    let kind = c.args.kind.now in
    let file = c.args.file.now in
    let e = c.in_err-check_kind.field-0.0 in
    let begun = headed-long kind file (omega (arith, c.if-file-lt-HEAD_BYTES.false)) ∙ ap (λ h. headed_by kind h file) (sym c.split_at.ensures.front) in
    let fails : Fails e (body_of kind c.args.key file) =
    subst (λ h. Fails e (told_by h (body_in c.args.key))) (sym begun) (fails-on e _ (body_in c.args.key) (c.in_err-check_kind.ensures file)) in
    search (rules, fails)

pub returns-in-Some : goal.returns-in-Some
returns-in-Some c =
    let kind = c.args.kind.now in
    let file = c.args.file.now in
    let begun = headed-long kind file (omega (arith, c.if-file-lt-HEAD_BYTES.false)) ∙ ap (λ h. headed_by kind h file) (sym c.split_at.ensures.front) in
    ap (λ h. told_by h (body_in c.args.key)) (begun ∙ c.in_ok-check_kind.ensures file)
    ∙ ap (λ r. ok_or r Damaged) (sym c.in-Some.ensures)

pub returns-in-None : goal.returns-in-None
returns-in-None c =
    let kind = c.args.kind.now in
    let file = c.args.file.now in
    let begun = headed-long kind file (omega (arith, c.if-file-lt-HEAD_BYTES.false)) ∙ ap (λ h. headed_by kind h file) (sym c.split_at.ensures.front) in
    ap (λ h. told_by h (body_in c.args.key)) (begun ∙ c.in_ok-check_kind.ensures file)
    ∙ ap (λ r. ok_or r Damaged) (sym c.in-None.ensures)
