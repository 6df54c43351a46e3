use Rattle.std.proofs.Common.{◌≡◌, ◌++◌, ◌∙◌, ap, arith, length, refl, sym}
use Rattle.std.proofs.lemmas.List.{length-append}
use Rattle.qm_store.specs.Stored.{ending_bytes, last_bytes, named}
use Rattle.qm_store.proofs.stored_bytes.segment_bytes.Goals as goal

pub returns-clause-stored : goal.returns-clause-stored
returns-clause-stored c =
    let key = c.args.key in
    let s = c.args.segment.now.segment in
    let rows = c.in_ok-push_dictionary.ensures.out in
    let told = c.deref.ensures.value ∙ c.in_ok-push_dictionary.ensures.index in
    let with_index = c.in_ok-index.ensures.added ∙ (λ i. rows i ++ told i) in
    let index = c.in_ok-index.ensures.named ∙ (λ i. named key (length (rows i)) (told i)) in
    let ids = c.deref-2.ensures.value ∙ c.in_ok-lengths.ensures in
    let with_lengths = c.in_ok-lengths-2.ensures.added ∙ (λ i. with_index i ++ ids i) in
    let lengths = c.in_ok-lengths-2.ensures.named ∙ (λ i. named key (length (with_index i)) (ids i)) in
    let ends = c.deref-3.ensures.value ∙ c.in_ok-ending.ensures ∙ (λ i. ending_bytes key s (index i) (lengths i)) in
    let with_ending = c.in_ok-ending-2.ensures.added ∙ (λ i. with_lengths i ++ ends i) in
    let ending = c.in_ok-ending-2.ensures.named ∙ (λ i. named key (length (with_lengths i)) (ends i)) in
    c.in_ok-push_last.ensures ∙ (λ i. with_ending i ++ last_bytes (ending i))

pub returns-clause-storable : goal.returns-clause-storable
returns-clause-storable c =
    let last = last_bytes c.in_ok-ending-2.ending in
    let few : length last ≡ 24 = refl in
    let whole = ap length (sym (returns-clause-stored c) ∙ c.in_ok-push_last.ensures) ∙ length-append c.push_named-3.new.out.items last in
    record {
      of = c.in_ok-push_dictionary.ensures.rows;
      each = c.in_ok-push_dictionary.ensures.storable;
      whole = omega (arith, whole, few, c.in_ok-ending-2.ensures.end);
    }
