use Rattle.std.proofs.Common.{◌≡◌, ◌≤◌, ◌∙◌, ap, sym, arith, length}
use Rattle.qm_store.specs.Ends.{segment_kind}
use Rattle.qm_store.specs.Heads.{headed_by}
use Rattle.qm_store.proofs.SealedRead.{head-read, headed-long}
use Rattle.qm_store.proofs.ending.check_head.Goals as goal

pub returns : goal.returns
returns g c =
    λ file is.
    let all = c.in_ok-byte_count.ensures.all file is in
    let count : c.in_ok-byte_count.field-0 ≡ length file = cc in
    let long : 16 ≤ length file = omega (arith, c.if-branch.false, count) in
    let head = c.deref.ensures.value ∙ head-read 16 file _ _ long c.new-head.ensures.items (c.in_ok-read_at.ensures.read file is) in
    headed-long segment_kind file long ∙ ap (λ h. headed_by segment_kind h file) (sym head) ∙ c.in_ok-check_kind.ensures file
