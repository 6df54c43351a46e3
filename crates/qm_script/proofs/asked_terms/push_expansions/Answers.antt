-- One more expansion.
use Rattle.std.proofs.Common.{◌≡◌, ◌-◌, ◌++◌, ◌&&◌, nat_eq, true, List, [], ◌∷◌, All, None, append_assoc, arith, map, take, ap, subst, refl, sym, ◌∙◌}
use Rattle.std.specs.List.{starts_with}
use Rattle.std.proofs.lemmas.Bool.{eq-eqb}
use Rattle.std.proofs.lemmas.List.Elements.{All-head, All-tail}
use Rattle.qm_postings.specs.FieldIndex.{FieldIndex, IsInfoOf, shown}
use Rattle.qm_postings.specs.TermRange.{AreTermsBetween, terms_left}
use Rattle.qm_postings.specs.declared.inverted_index.TermInfo.{TermInfo}
use Rattle.qm_schema.specs.Term.{TermKey}
use Rattle.qm_weight.specs.Tree.{begins_with}
use Rattle.qm_weight.proofs.HeldTerms.{front, front-found, front-step}
use Rattle.birchagain.specs.Body.{body_term}
use Rattle.qm_script.proofs.asked_terms.push_expansions.Goals as goal

pub loop-term-init : goal.loop-term-init
loop-term-init c =
    let prefix : TermKey = body_term c.args.prefix.now in
    let index : FieldIndex = record { reader = c.args.segment.now; field = 0 } in
    let left = terms_left c.into_iter-term-iterator.result in
    let tie : shown c.inverted_index-index.result ≡ index = c.inverted_index-index.ensures
    ∙ ap (λ f. let i : FieldIndex = record { reader = c.args.segment.now; field = f } in i) c.body.ensures in
    let are : AreTermsBetween index prefix.bytes None left =
    subst (λ r. AreTermsBetween index prefix.bytes None (terms_left r)) (sym c.into_iter-term-iterator.ensures.into_iter_gives)
    (subst (λ i. AreTermsBetween i prefix.bytes None (terms_left c.term_range-term-items.result)) tie c.term_range-term-items.ensures) in
    record { added = ap (λ ts. c.args.terms.now.items ++ take c.args.most ts) (front-found index prefix refl left are); infos = are.infos }

pub loop-term-preserved : goal.loop-term-preserved
loop-term-preserved c =
    let prefix : TermKey = body_term c.args.prefix.now in
    let index : FieldIndex = record { reader = c.args.segment.now; field = 0 } in
    let had = c.loop-term.invariant in
    let t : TermKey = c.in-Some.term.now in
    let info = c.in-Some.field-0-1 in
    let IsKnown : TermKey × TermInfo → Type 0 = λ pair. IsInfoOf index pair.0 pair.1 in
    let first_of : TermKey × TermInfo → TermKey = λ pair. pair.0 in
    let others = terms_left c.next.new.self in
    let first = c.in-Some.ensures.steps in
    let known : All IsKnown ((t, info) ∷ others) = subst (All IsKnown) first had.infos in
    let here = All-head IsKnown (t, info) others known in
    let bytes : starts_with nat_eq t.bytes prefix.bytes ≡ true =
    ap (λ bs. starts_with nat_eq bs prefix.bytes) (sym c.serialized_value_bytes.ensures) ∙ sym c.starts_with.ensures.value ∙ c.if-not-starts_with.false in
    let begins : begins_with prefix t ≡ true = λ i. eq-eqb t.field 0 here.held.0 i && bytes i in
    let items : List TermKey = c.loop-term.terms.items in
    let rest = take (c.loop-term.left - 1) (front (begins_with prefix) (map first_of others)) in
    let step : take c.loop-term.left (front (begins_with prefix) (t ∷ map first_of others)) ≡ t ∷ rest =
    front-step prefix t (map first_of others) c.loop-term.left (omega (arith, c.if-left-eq0.false)) begins in
    record {
      added =
          ap (λ l. l ++ rest) (c.in_ok-push.ensures.items ∙ ap (λ (u : TermKey). items ++ u ∷ []) c.in_ok-clone.ensures.ok)
          ∙ append_assoc items (t ∷ []) rest
          ∙ ap (λ ts. items ++ ts) (sym step)
          ∙ ap (λ pairs. items ++ take c.loop-term.left (front (begins_with prefix) (map first_of pairs))) (sym first)
          ∙ had.added;
      infos = All-tail IsKnown (t, info) others known;
    }
