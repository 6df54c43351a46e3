-- The first terms of a segment that begin with a prefix are among the first such terms of its parts.
use Rattle.std.proofs.Common.{◌≡◌, ℕ, ◌+◌, Bool, true, false, ◌&&◌, ◌||◌, cond, List, [], ◌∷◌, drop, length, take, zero, suc, append-nil, refl, ap, sym, ◌∙◌, inl, inr}
use Rattle.std.specs.FinMap.{get}
use Rattle.std.specs.List.{flat_map, list_any}
use Rattle.std.specs.List.Sorted.{IsStrictlySortedBy}
use Rattle.std.specs.Ordering.{eq_by_cmp}
use Rattle.std.specs.Prelude.{filter, is_some}
use Rattle.std.proofs.lemmas.Bool.{cases_Bool, false≢true}
use Rattle.std.proofs.lemmas.List.{take-append-drop}
use Rattle.std.proofs.lemmas.List.Concat.{flat_map-cons}
use Rattle.std.proofs.lemmas.List.Folds.{list_any-append}
use Rattle.std.proofs.lemmas.Map.Lookups.{btree_set_from_contains}
use Rattle.qm_index.specs.Parts.{AreParts, ArePartsFrom, part_of}
use Rattle.qm_postings.specs.Segment.{Document, Segment}
use Rattle.qm_schema.specs.Term.{TermKey, same_term, term_cmp, term_cmp_antisymmetric, term_cmp_total}
use Rattle.qm_script.specs.AskedTerms.{all_expansions}
use Rattle.qm_script.specs.Reached.{prefixed}
use Rattle.qm_weight.specs.Tree.{begins_with, expansions, held_terms}
use Rattle.qm_weight.proofs.HeldTerms.{among-filter, among-held, is_among, sorted-filter, sorted-held}
use Rattle.qm_script.proofs.ReachedParts.{among-parts, both-left, both-right, documents-parts}

-- ---- the first ones of a list, and of some of its terms

taken-one_more : (t : TermKey) (n : ℕ) (ts : List TermKey) → is_among t (take n ts) ≡ true → is_among t (take (suc n) ts) ≡ true
taken-one_more t zero ts found = absurd (false≢true found)
taken-one_more t (suc n) [] found = found
taken-one_more t (suc n) (u ∷ ts) found = elim (cases_Bool (eq_by_cmp term_cmp t u)) [
  | inl same ↦ ap (λ b. b || is_among t (take (suc n) ts)) same
  | inr other ↦ ap (λ b. b || is_among t (take (suc n) ts)) other ∙ taken-one_more t n ts (sym (ap (λ b. b || is_among t (take n ts)) other) ∙ found)
]

taken-kept : (kept : TermKey → Bool) (t : TermKey) → kept t ≡ true → (n : ℕ) (ts : List TermKey) →
    is_among t (take n ts) ≡ true → is_among t (take n (filter kept ts)) ≡ true
taken-kept kept t is zero ts found = absurd (false≢true found)
taken-kept kept t is (suc n) [] found = absurd (false≢true found)
taken-kept kept t is (suc n) (u ∷ ts) found = go (eq_by_cmp term_cmp t u) (kept u) refl refl
    (λ other. taken-kept kept t is n ts (sym (ap (λ b. b || is_among t (take n ts)) other) ∙ found))
  where
    behind : (d : Bool) → eq_by_cmp term_cmp t u ≡ false → is_among t (take n (filter kept ts)) ≡ true →
        is_among t (take (suc n) (cond d (u ∷ filter kept ts) (filter kept ts))) ≡ true
    behind true other rest = ap (λ b. b || is_among t (take n (filter kept ts))) other ∙ rest
    behind false other rest = taken-one_more t n (filter kept ts) rest

    go : (b c : Bool) → eq_by_cmp term_cmp t u ≡ b → kept u ≡ c → (eq_by_cmp term_cmp t u ≡ false → is_among t (take n (filter kept ts)) ≡ true) →
        is_among t (take (suc n) (filter kept (u ∷ ts))) ≡ true
    go true true same keeps rest = ap (λ d. is_among t (take (suc n) (cond d (u ∷ filter kept ts) (filter kept ts)))) keeps
        ∙ ap (λ b. b || is_among t (take n (filter kept ts))) same
    go true false same out rest = absurd (false≢true (sym out ∙ ap kept (sym ((same_term t u).0 same)) ∙ is))
    go false c other keeps rest =
        ap (λ d. is_among t (take (suc n) (cond d (u ∷ filter kept ts) (filter kept ts)))) keeps ∙ behind c other (rest other)

-- some terms of a list in order, in order, are those of its terms that are among them
some-kept : (some all : List TermKey) → IsStrictlySortedBy term_cmp some → IsStrictlySortedBy term_cmp all →
    ((q : TermKey) → is_among q some ≡ true → is_among q all ≡ true) → filter (λ q. is_among q some) all ≡ some
some-kept some all sorted_some sorted_all within =
    btree_set_from_contains term_cmp_total (record { keys = filter (λ q. is_among q some) all }) (record { keys = some })
    (sorted-filter (λ q. is_among q some) all sorted_all) sorted_some
    (λ q. among-filter (λ q. is_among q some) q all ∙ both (is_among q some) (is_among q all) (within q)) term_cmp_antisymmetric
  where
    both : (a b : Bool) → (a ≡ true → b ≡ true) → (a && b) ≡ a
    both true b forth = forth refl
    both false b forth = refl

taken-some : (some all : List TermKey) → IsStrictlySortedBy term_cmp some → IsStrictlySortedBy term_cmp all →
    ((q : TermKey) → is_among q some ≡ true → is_among q all ≡ true) → (t : TermKey) (n : ℕ) →
    is_among t some ≡ true → is_among t (take n all) ≡ true → is_among t (take n some) ≡ true
taken-some some all sorted_some sorted_all within t n is found =
    ap (λ l. is_among t (take n l)) (sym (some-kept some all sorted_some sorted_all within)) ∙ taken-kept (λ q. is_among q some) t is n all found

-- ---- the terms of a part

or-right : (a b : Bool) → b ≡ true → (a || b) ≡ true
or-right true b is = refl
or-right false b is = is

or-left : (a b : Bool) → a ≡ true → (a || b) ≡ true
or-left true b is = refl
or-left false b is = absurd (false≢true is)

any-taken : {X : Type 0} (p : X → Bool) (n : ℕ) (xs : List X) → list_any p (take n xs) ≡ true → list_any p xs ≡ true
any-taken p n xs some = ap (list_any p) (sym (take-append-drop n xs)) ∙ list_any-append p (take n xs) (drop n xs) ∙ or-left (list_any p (take n xs)) (list_any p (drop n xs)) some

any-dropped : {X : Type 0} (p : X → Bool) (n : ℕ) (xs : List X) → list_any p (drop n xs) ≡ true → list_any p xs ≡ true
any-dropped p n xs some = ap (list_any p) (sym (take-append-drop n xs)) ∙ list_any-append p (take n xs) (drop n xs) ∙ or-right (list_any p (take n xs)) (list_any p (drop n xs)) some

abbrev holds_it : TermKey → Document → Bool
holds_it q document = is_some (get document.terms q)

module _ (whole : Segment) (prefix : TermKey) where
  part-within : (p : Segment) (first : ℕ) → p ≡ part_of whole first (length p.documents) →
      (q : TermKey) → is_among q (prefixed p prefix) ≡ true → is_among q (prefixed whole prefix) ≡ true
  part-within p first is q found =
      let both = sym (among-filter (begins_with prefix) q (held_terms p)) ∙ found in
      among-filter (begins_with prefix) q (held_terms whole) ∙ go (begins_with prefix q) (is_among q (held_terms p)) both (λ held.
      let there = sym (ap (λ (s : Segment). list_any (holds_it q) s.documents) is) ∙ sym (among-held p q) ∙ held in
      among-held whole q ∙ any-dropped (holds_it q) first whole.documents (any-taken (holds_it q) (length p.documents) (drop first whole.documents) there))
    where
      go : (a b : Bool) {c : Bool} → (a && b) ≡ true → (b ≡ true → c ≡ true) → (a && c) ≡ true
      go true b both next = next both
      go false b both next = absurd (false≢true both)

  module _ (most : ℕ) (t : TermKey) (found : is_among t (take most (prefixed whole prefix)) ≡ true) where
    among-first_parts : (first : ℕ) (parts : List Segment) → ArePartsFrom first whole parts → is_among t (flat_map (λ p. prefixed p prefix) parts) ≡ true →
        is_among t (flat_map (λ p. expansions p prefix most) parts) ≡ true
    among-first_parts first [] are held = absurd (false≢true held)
    among-first_parts first (p ∷ parts) are held =
        let here = prefixed p prefix in
        let others = flat_map (λ s. prefixed s prefix) parts in
        let firsts = flat_map (λ s. expansions s prefix most) parts in
        let split = ap (is_among t) (flat_map-cons (λ s. prefixed s prefix) p parts) ∙ list_any-append (eq_by_cmp term_cmp t) here others in
        ap (is_among t) (flat_map-cons (λ s. expansions s prefix most) p parts) ∙ list_any-append (eq_by_cmp term_cmp t) (take most here) firsts
        ∙ elim (cases_Bool (is_among t here)) [
          | inl is ↦ or-left (is_among t (take most here)) (is_among t firsts)
              (taken-some here (prefixed whole prefix) (sorted-filter (begins_with prefix) (held_terms p) (sorted-held p))
              (sorted-filter (begins_with prefix) (held_terms whole) (sorted-held whole)) (part-within p first are.0) t most is found)
          | inr other ↦ or-right (is_among t (take most here)) (is_among t firsts)
              (among-first_parts (first + length p.documents) parts are.1 (sym (split ∙ ap (λ b. b || is_among t others) other) ∙ held))
        ]

-- ---- the terms of the whole

module _ (whole : Segment) (parts : List Segment) (are : AreParts whole parts) (prefix : TermKey) (most : ℕ) where
  pub expansions-parts : (t : TermKey) → is_among t (expansions whole prefix most) ≡ true → is_among t (all_expansions parts prefix most) ≡ true
  expansions-parts t found =
      let own = any-taken (eq_by_cmp term_cmp t) most (prefixed whole prefix) found in
      let both = sym (among-filter (begins_with prefix) t (held_terms whole)) ∙ own in
      among-first_parts whole prefix most t found 0 parts are
      (among-parts prefix t parts (both-left (begins_with prefix t) (is_among t (held_terms whole)) both)
      (ap (list_any (holds_it t)) (sym (documents-parts whole 0 parts are)) ∙ sym (among-held whole t)
      ∙ both-right (begins_with prefix t) (is_among t (held_terms whole)) both))

-- of one segment alone
pub only-one : (s : Segment) (prefix : TermKey) (most : ℕ) (t : TermKey) → is_among t (all_expansions (s ∷ []) prefix most) ≡ true →
    is_among t (expansions s prefix most) ≡ true
only-one s prefix most t found =
    ap (is_among t) (sym (flat_map-cons (λ u. expansions u prefix most) s [] ∙ append-nil (expansions s prefix most))) ∙ found
