-- Terms in order, each once, are those that there were.
use Rattle.std.proofs.Common.{◌≡◌, true, List, All, refl}
use Rattle.std.specs.List.{Contains, dedup}
use Rattle.std.specs.List.Sorted.{IsPermutation, IsSorted, IsStrictlySortedBy}
use Rattle.std.specs.Ordering.{eq_by_cmp}
use Rattle.std.proofs.lemmas.List.Elements.{All-contains_itself, All-weaker}
use Rattle.std.proofs.lemmas.List.Kept.{Contains-dedup, IsStrictlySortedBy-dedup}
use Rattle.std.proofs.lemmas.List.Sorted.{Contains-permutation}
use Rattle.std.proofs.lemmas.Map.Views.{list_any-from_Contains}
use Rattle.qm_schema.specs.Term.{TermKey, same_term, term_cmp, term_cmp_total, term_eq_laws}
use Rattle.qm_script.specs.Wanted.{is_wanted}

pub each-once : (terms : List TermKey) → IsSorted term_cmp terms → IsStrictlySortedBy term_cmp (dedup (eq_by_cmp term_cmp) terms)
each-once terms sorted = IsStrictlySortedBy-dedup term_cmp_total (λ x y. refl) terms sorted

pub all-there : (terms sorted : List TermKey) → IsPermutation terms sorted → All (λ t. is_wanted (dedup (eq_by_cmp term_cmp) sorted) t ≡ true) terms
all-there terms sorted same =
    All-weaker (Contains terms) (λ t. is_wanted (dedup (eq_by_cmp term_cmp) sorted) t ≡ true)
    (λ t is. list_any-from_Contains term_eq_laws t (dedup (eq_by_cmp term_cmp) sorted)
    (Contains-dedup term_eq_laws (λ x y. (same_term x y).0) sorted t (Contains-permutation terms sorted t same is)))
    terms (All-contains_itself terms)
