use Rattle.std.proofs.Common.{◌≡◌, ◌∙◌, ◌++◌, List, ℕ, ap, append_assoc, arith, length}
use Rattle.std.specs.Int.{w64, to_le_bytes}
use Rattle.qm_store.specs.Deletions.{deletions_kind}
use Rattle.qm_store.specs.Heads.{head_bytes}
use Rattle.qm_store.specs.Numbers.{spelled}
use Rattle.qm_store.specs.RowBytes.{gaps}
use Rattle.qm_store.specs.Sealed.{sealed}
use Rattle.qm_store.proofs.deletions.deletions_bytes.Goals as goal

regroup : (a b c d e : List ℕ) → (((a ++ b) ++ c) ++ d) ++ e ≡ a ++ (b ++ (c ++ (d ++ e)))
regroup a b c d e = simp append_assoc

pub returns-clause-stored : goal.returns-clause-stored
returns-clause-stored c =
    let key = c.args.key in
    let s = c.args.segment.now.segment in
    let head = head_bytes deletions_kind in
    let word = to_le_bytes w64 key in
    let deleted = c.in_ok-numbers.ensures.deleted in
    let few : c.len.result ≡ length s.deleted = omega (arith, c.len.ensures, c.in_ok-numbers.numbers.ok.0, ap length deleted) in
    let count : c.from.result ≡ length s.documents = c.from.ensures ∙ c.max_doc.ensures.number in
    let begun = c.in_ok-push_head.ensures.added ∙ ap (λ l. l ++ head) c.new-out.ensures.items in
    let keyed = c.in_ok-push_word.ensures.added ∙ ap (λ l. l ++ word) begun in
    let counted = c.in_ok-push_number.ensures.added ∙ (λ i. keyed i ++ spelled (count i)) in
    let told = c.in_ok-push_number-2.ensures.added ∙ (λ i. counted i ++ spelled (few i)) in
    let whole = c.in_ok-push_gaps.ensures.added ∙ (λ i. told i ++ gaps 0 ((c.deref.ensures.value ∙ deleted) i)) in
    c.in_ok-push_digest.ensures
    ∙ ap (sealed key) (whole ∙ regroup head word (spelled (length s.documents)) (spelled (length s.deleted)) (gaps 0 s.deleted))
