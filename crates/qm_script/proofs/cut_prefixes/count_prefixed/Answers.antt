-- One more term that the prefix begins, or none any more.
use Rattle.std.proofs.Common.{◌≡◌, ◌+◌, ◌&&◌, ℕ, nat_eq, Bool, true, false, if◌then◌else◌, List, [], ◌∷◌, All, None, arith, length, map, ap, subst, refl, sym, ◌∙◌}
use Rattle.std.specs.List.{starts_with}
use Rattle.std.proofs.lemmas.Bool.{eq-eqb}
use Rattle.std.proofs.lemmas.List.Elements.{All-head, All-tail}
use Rattle.qm_postings.specs.FieldIndex.{FieldIndex, IsInfoOf, shown}
use Rattle.qm_postings.specs.Reading.{Reader}
use Rattle.qm_postings.specs.TermRange.{AreTermsBetween, terms_left}
use Rattle.qm_postings.specs.declared.inverted_index.TermInfo.{TermInfo}
use Rattle.qm_schema.specs.Term.{TermKey}
use Rattle.qm_weight.proofs.HeldTerms.{front, front-found}
use Rattle.qm_script.specs.Reached.{prefixed}
use Rattle.qm_weight.specs.Tree.{begins_with}
use Rattle.birchagain.specs.Body.{body_term}
use Rattle.qm_script.proofs.cut_prefixes.count_prefixed.Goals as goal

abbrev index_of : Reader → FieldIndex
index_of reader = record { reader = reader; field = 0 }

abbrev IsKnown : Reader → TermKey × TermInfo → Type 0
IsKnown reader pair = IsInfoOf (index_of reader) pair.0 pair.1

abbrev first_of : TermKey × TermInfo → TermKey
first_of pair = pair.0

-- the terms that the prefix begins, of those that are still to come
abbrev ahead : List ℕ → List (TermKey × TermInfo) → List TermKey
ahead prefix left = front (begins_with (body_term prefix)) (map first_of left)

pub loop-term-init : goal.loop-term-init
loop-term-init c =
    let prefix : TermKey = body_term c.args.prefix.now in
    let index = index_of c.args.segment.now in
    let left = terms_left c.into_iter-term-iterator.result in
    let same = sym c.into_iter-term-iterator.ensures.into_iter_gives in
    let tie : shown c.inverted_index-index.result ≡ index = c.inverted_index-index.ensures
    ∙ ap (λ f. let i : FieldIndex = record { reader = c.args.segment.now; field = f } in i) c.body.ensures in
    let are : AreTermsBetween index prefix.bytes None left =
    subst (λ r. AreTermsBetween index prefix.bytes None (terms_left r)) same
    (subst (λ i. AreTermsBetween i prefix.bytes None (terms_left c.term_range-term-items.result)) tie c.term_range-term-items.ensures) in
    record { counted = omega (arith, ap length (front-found index prefix refl left are)); within = omega arith; infos = are.infos }

-- the next term, and those behind it
module _ (reader : Reader) (prefix : List ℕ) (t : TermKey) (info : TermInfo) (others : List (TermKey × TermInfo))
    (known : All (IsKnown reader) ((t, info) ∷ others)) where
  begins-next : (b : Bool) → b ≡ starts_with nat_eq t.bytes prefix → begins_with (body_term prefix) t ≡ b
  begins-next b is =
      let here : IsKnown reader (t, info) = All-head (IsKnown reader) (t, info) others known in
      (λ i. eq-eqb t.field 0 here.held.0 i && sym is i)

  ahead-begun : begins_with (body_term prefix) t ≡ true → length (ahead prefix ((t, info) ∷ others)) ≡ 1 + length (ahead prefix others)
  ahead-begun begins = ap (λ b. length (if b then t ∷ ahead prefix others else [])) begins ∙ omega arith

  ahead-none : begins_with (body_term prefix) t ≡ false → length (ahead prefix ((t, info) ∷ others)) ≡ 0
  ahead-none fails = ap (λ b. length (if b then t ∷ ahead prefix others else [])) fails

pub returns-then-count-most : goal.returns-then-count-most
returns-then-count-most c =
    let reader = c.args.segment.now in
    let prefix = c.args.prefix.now in
    let had = c.loop-term.invariant in
    let t = c.in-Some.term.now in
    let info = c.in-Some.field-0-1 in
    let others = terms_left c.next.new.self in
    let first = c.in-Some.ensures.steps in
    let known : All (IsKnown reader) ((t, info) ∷ others) = subst (All (IsKnown reader)) first had.infos in
    let bytes = sym c.if-not-starts_with.false ∙ c.starts_with.ensures.value ∙ ap (λ bs. starts_with nat_eq bs prefix) c.serialized_value_bytes.ensures in
    let begins = begins-next reader prefix t info others known true bytes in
    let all = ap (λ left. length (ahead prefix left)) first in
    let more = ahead-begun reader prefix t info others known begins in
    λ fits. absurd (omega (arith, fits, had.counted, all, more, c.if-count-most.true))

pub overflow_add-count : goal.overflow_add-count
overflow_add-count c = omega (arith, c.loop-term.invariant.within, c.if-count-most.false, c.ranges.most.fits)

pub loop-term-preserved : goal.loop-term-preserved
loop-term-preserved c =
    let reader = c.args.segment.now in
    let prefix = c.args.prefix.now in
    let had = c.loop-term.invariant in
    let t = c.in-Some.term.now in
    let info = c.in-Some.field-0-1 in
    let others = terms_left c.next.new.self in
    let first = c.in-Some.ensures.steps in
    let known : All (IsKnown reader) ((t, info) ∷ others) = subst (All (IsKnown reader)) first had.infos in
    let bytes = sym c.if-not-starts_with.false ∙ c.starts_with.ensures.value ∙ ap (λ bs. starts_with nat_eq bs prefix) c.serialized_value_bytes.ensures in
    let begins = begins-next reader prefix t info others known true bytes in
    let all = ap (λ left. length (ahead prefix left)) first in
    let more = ahead-begun reader prefix t info others known begins in
    record {
      counted = omega (arith, had.counted, all, more);
      within = omega (arith, had.within, c.if-count-most.false);
      infos = All-tail (IsKnown reader) (t, info) others known;
    }

pub returns-in-None : goal.returns-in-None
returns-in-None c =
    let had = c.loop-term.invariant in
    let none = ap (λ left. length (ahead c.args.prefix.now left)) c.in-None.ensures.steps.0 in
    let count : c.loop-term.count ≡ length (prefixed c.args.segment.now.segment (body_term c.args.prefix.now)) = omega (arith, had.counted, none) in
    (omega (arith, count, had.within), count)

pub returns-then-not-starts_with : goal.returns-then-not-starts_with
returns-then-not-starts_with c =
    let reader = c.args.segment.now in
    let prefix = c.args.prefix.now in
    let had = c.loop-term.invariant in
    let t = c.in-Some.term.now in
    let info = c.in-Some.field-0-1 in
    let others = terms_left c.next.new.self in
    let first = c.in-Some.ensures.steps in
    let known : All (IsKnown reader) ((t, info) ∷ others) = subst (All (IsKnown reader)) first had.infos in
    let bytes = sym c.if-not-starts_with.true ∙ c.starts_with.ensures.value ∙ ap (λ bs. starts_with nat_eq bs prefix) c.serialized_value_bytes.ensures in
    let begins = begins-next reader prefix t info others known false bytes in
    let all = ap (λ left. length (ahead prefix left)) first in
    let none = ahead-none reader prefix t info others known begins in
    let count : c.loop-term.count ≡ length (prefixed c.args.segment.now.segment (body_term c.args.prefix.now)) = omega (arith, had.counted, all, none) in
    (omega (arith, count, had.within), count)
