use Rattle.std.proofs.Common.{◌∙◌, ◌++◌, ap, append_assoc}
use Rattle.std.specs.Int.{w64, to_le_bytes}
use Rattle.qm_store.specs.Heads.{head_bytes}
use Rattle.qm_store.specs.Places.{places_kind}
use Rattle.qm_store.specs.Sealed.{sealed}
use Rattle.qm_store.proofs.written_places.head.Goals as goal

pub returns : goal.returns
returns c =
    let key = c.args.key in
    let head = head_bytes places_kind in
    let word = to_le_bytes w64 key in
    let count = to_le_bytes w64 c.args.count in
    let begun = c.in_ok-push_head.ensures.added ∙ ap (λ l. l ++ head) c.new-out.ensures.items in
    let keyed = c.in_ok-push_word.ensures.added ∙ ap (λ l. l ++ word) begun in
    let counted = c.in_ok-push_word-2.ensures.added ∙ ap (λ l. l ++ count) keyed in
    c.in_ok-push_digest.ensures ∙ ap (sealed key) (counted ∙ append_assoc head word count)
