-- Prefixes that are expanded to all terms of the parts of a segment are expanded to all of its own.
use Rattle.std.proofs.Common.{◌≡◌, ℕ, ◌+◌, ◌≤◌, Bool, true, false, ◌&&◌, ◌||◌, List, [], ◌∷◌, ◌++◌, length, map, drop, refl, ap, sym, ◌∙◌, arith, leb-true, inl, inr, Some, if◌then◌else◌}
use Rattle.std.specs.FinMap.{get}
use Rattle.std.specs.List.{AllByRecursion, flat_map, list_any, sum_by}
use Rattle.std.specs.Map.{lookup}
use Rattle.std.specs.Option.{IsSome}
use Rattle.std.specs.Ordering.{eq_by_cmp}
use Rattle.std.specs.Prelude.{is_some}
use Rattle.std.proofs.lemmas.Bool.{cases_Bool, false≢true}
use Rattle.std.proofs.lemmas.List.{drop-drop, drop_all, length-map, take-append-drop}
use Rattle.std.proofs.lemmas.List.Concat.{flat_map-cons, length-flat_map}
use Rattle.std.proofs.lemmas.List.Folds.{list_any-append}
use Rattle.std.proofs.lemmas.List.Sums.{sum_by-cons}
use Rattle.std.proofs.lemmas.Map.Keys.{IsDistinct-from_sorted}
use Rattle.std.proofs.lemmas.Map.Steps.{length-le_from_keys}
use Rattle.std.proofs.Math.Bool.{or-true}
use Rattle.qm_schema.specs.Term.{TermKey, term_cmp, term_eq_laws}
use Rattle.qm_index.specs.Parts.{AreParts, ArePartsFrom}
use Rattle.qm_postings.specs.Segment.{Document, Segment}
use Rattle.qm_weight.specs.Tree.{begins_with, held_terms}
use Rattle.qm_weight.proofs.HeldTerms.{among-filter, among-held, is_among, sorted-filter, sorted-held}
use Rattle.qm_script.specs.PrefixFree.{PrefixTest}
use Rattle.qm_script.specs.Reached.{Reaches, is_reached, prefixed}

abbrev all_documents : List Segment → List Document
all_documents parts = flat_map (λ p. p.documents) parts

-- the parts have the documents of the whole
pub documents-parts : (whole : Segment) (first : ℕ) (parts : List Segment) → ArePartsFrom first whole parts →
    drop first whole.documents ≡ all_documents parts
documents-parts whole first [] are = drop_all first whole.documents (omega (arith, are))
documents-parts whole first (p ∷ parts) are =
    let n = length p.documents in
    let rest = drop first whole.documents in
    sym (take-append-drop n rest)
    ∙ ap (λ ds. ds ++ drop n rest) (sym (ap (λ s. s.documents) are.0))
    ∙ ap (λ ds. p.documents ++ ds) (drop-drop n first whole.documents ∙ documents-parts whole (first + n) parts are.1)
    ∙ sym (flat_map-cons (λ (s : Segment). s.documents) p parts)

abbrev counts : TermKey → List Segment → ℕ
counts prefix parts = sum_by (λ p. length (prefixed p prefix)) parts

-- each part has no more terms than all together
each-reaches : (test : PrefixTest) (parts : List Segment) → ((prefix : TermKey) (most : ℕ) → test prefix most ≡ true → counts prefix parts ≤ most) →
    AllByRecursion (Reaches test) parts
each-reaches test [] all = tt
each-reaches test (p ∷ parts) all =
    let split = λ (prefix : TermKey). sum_by-cons (λ s. length (prefixed s prefix)) p parts in (
      λ prefix most passes. omega (arith, all prefix most passes, split prefix),
      each-reaches test parts (λ prefix most passes. omega (arith, all prefix most passes, split prefix)),
    )

pub parts-reach : (parts : List Segment) → AllByRecursion (Reaches (is_reached parts)) parts
parts-reach parts = each-reaches (is_reached parts) parts (λ prefix most passes. leb-true (counts prefix parts) most passes)

-- ---- the terms of the whole are those of its parts

pub both-left : (a b : Bool) → (a && b) ≡ true → a ≡ true
both-left true b h = refl
both-left false b h = h

pub both-right : (a b : Bool) → (a && b) ≡ true → b ≡ true
both-right true b h = h
both-right false b h = absurd (false≢true h)

found-key : (q : TermKey) (ks : List TermKey) → list_any (eq_by_cmp term_cmp q) ks ≡ true → IsSome {T = ℕ} (lookup (eq_by_cmp term_cmp q) (map (λ k. (k, 0)) ks))
found-key q [] found = absurd (false≢true found)
found-key q (k ∷ ks) found =
    elim (cases_Bool (eq_by_cmp term_cmp q k)) [
      | inl same ↦ (λ i. is_some {T = ℕ} (if same i then Some 0 else lookup (eq_by_cmp term_cmp q) (map (λ k. (k, 0)) ks)))
      | inr other ↦ (λ i. is_some {T = ℕ} (if other i then Some 0 else lookup (eq_by_cmp term_cmp q) (map (λ k. (k, 0)) ks)))
          ∙ found-key q ks (sym (ap (λ b. b || list_any (eq_by_cmp term_cmp q) ks) other) ∙ found)
    ]

pub among-parts : (prefix q : TermKey) (parts : List Segment) → begins_with prefix q ≡ true →
    list_any (λ document. is_some (get document.terms q)) (all_documents parts) ≡ true → is_among q (flat_map (λ p. prefixed p prefix) parts) ≡ true
among-parts prefix q [] begins held = absurd (false≢true held)
among-parts prefix q (p ∷ parts) begins held =
    let holds_it : Document → Bool = λ document. is_some (get document.terms q) in
    let split = ap (list_any holds_it) (flat_map-cons (λ (s : Segment). s.documents) p parts) ∙ list_any-append holds_it p.documents (all_documents parts) in
    let others = flat_map (λ s. prefixed s prefix) parts in
    let whole = ap (is_among q) (flat_map-cons (λ s. prefixed s prefix) p parts) ∙ list_any-append (eq_by_cmp term_cmp q) (prefixed p prefix) others in
    elim (cases_Bool (list_any holds_it p.documents)) [
      | inl here ↦
          let found : is_among q (prefixed p prefix) ≡ true = among-filter (begins_with prefix) q (held_terms p)
          ∙ (λ i. begins i && (among-held p q ∙ here) i) in
          whole ∙ ap (λ b. b || is_among q others) found
      | inr other ↦
          let rest = among-parts prefix q parts begins (sym (split ∙ ap (λ b. b || list_any holds_it (all_documents parts)) other) ∙ held) in
          whole ∙ ap (λ b. is_among q (prefixed p prefix) || b) rest ∙ or-true (is_among q (prefixed p prefix))
    ]

pub whole-reaches : (whole : Segment) (parts : List Segment) → AreParts whole parts → Reaches (is_reached parts) whole
whole-reaches whole parts are prefix most passes =
    let ks = flat_map (λ p. prefixed p prefix) parts in
    let own = prefixed whole prefix in
    let entry : TermKey → TermKey × ℕ = λ k. (k, 0) in
    let few = length-le_from_keys term_eq_laws own (map entry ks)
    (IsDistinct-from_sorted term_cmp own (sorted-filter (begins_with prefix) (held_terms whole) (sorted-held whole))) (λ q found.
    let both = sym (among-filter (begins_with prefix) q (held_terms whole)) ∙ found in
    let begins = both-left (begins_with prefix q) (is_among q (held_terms whole)) both in
    let held = sym (among-held whole q) ∙ both-right (begins_with prefix q) (is_among q (held_terms whole)) both in
    found-key q ks (among-parts prefix q parts begins
    (ap (list_any (λ document. is_some (get document.terms q))) (sym (documents-parts whole 0 parts are)) ∙ held))) in
    omega (arith, few, length-map ks entry, length-flat_map (λ p. prefixed p prefix) parts, leb-true (counts prefix parts) most passes)
