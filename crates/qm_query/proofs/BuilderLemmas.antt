-- What the builders of queries rest on: a tie breaker is known by what it combines, and terms in a row
-- have small offsets.
use Rattle.std.proofs.Common.{◌≡◌, ℕ, ◌+◌, ◌*◌, ◌/◌, ◌≤◌, ◌<◌, List, [], ◌∷◌, ◌++◌, All, length, map, arith, refl, sym, ap, subst, ◌∙◌, Box, Global}
use Rattle.std.specs.List.{enumerate_from}
use Rattle.std.specs.Prelude.{◌&&◌, if◌then◌else◌, nat_lt}
use Rattle.std.proofs.lemmas.List.{length-map}
use Rattle.std.proofs.lemmas.List.Folds.{list_all-map}
use Rattle.std.proofs.lemmas.List.FromFn.{get_or-enumerate_from, length-enumerate_from}
use Rattle.std.proofs.lemmas.Nat.{div-mul-add}
use Rattle.qm_combine.specs.Combine.{combine_max, greatest_of}
use Rattle.qm_schema.specs.Term.{TermKey}
use Rattle.qm_schema.specs.declared.occur.Occur.{Occur}
use Rattle.qm_query.specs.Query.{clause_of, default_minimum, each_as, query_of}
use Rattle.qm_query.specs.Occurs.{is_should}
use Rattle.qm_query.specs.declared.any_query.AnyQuery.{AnyQuery}

thousandths : (t : ℕ) → (1000 * t) / 1000 ≡ t
thousandths t = let same : 1000 * t ≡ t * 1000 + 0 = omega arith in ap (λ m. m / 1000) same ∙ div-mul-add t 1000 0 (omega arith)

combine-thousand : (t : ℕ) → combine_max t (1000 ∷ 1000 ∷ []) ≡ 1000 + t
combine-thousand t = ap (λ n. 1000 + n) (thousandths t)

-- two tie breakers that combine alike are the same
pub same_tie_breaker : (s t : ℕ) → combine_max s ≡ combine_max t → s ≡ t
same_tie_breaker s t alike =
    let sums : 1000 + s ≡ 1000 + t = sym (combine-thousand s) ∙ ap (λ f. f (1000 ∷ 1000 ∷ [])) alike ∙ combine-thousand t in
    omega arith

-- one that takes the greatest alone is 0
pub no_tie_breaker : (t : ℕ) → ((scores : List ℕ) → combine_max t scores ≡ greatest_of scores) → t ≡ 0
no_tie_breaker t greatest =
    let sums : 1000 + t ≡ 1000 = sym (combine-thousand t) ∙ greatest (1000 ∷ 1000 ∷ []) in
    omega arith

-- the offsets of terms in a row are below their number
pub offsets_fit : (terms : List TermKey) → length terms ≤ 4294967296 → All (λ t. t.0 ≤ 4294967295) (enumerate_from 0 terms)
offsets_fit terms few = λ k d h.
    let below : k < length terms = omega (arith, length-enumerate_from 0 terms) in
    let at : 0 + k ≤ 4294967295 = omega arith in
    subst (λ (x : ℕ × TermKey). x.0 ≤ 4294967295) (sym (get_or-enumerate_from 0 terms k d below)) at

pub enumerate_from-push : (n : ℕ) (terms : List TermKey) (t : TermKey) →
    enumerate_from n (terms ++ t ∷ []) ≡ enumerate_from n terms ++ (n + length terms, t) ∷ []
enumerate_from-push n [] t = let same : n ≡ n + 0 = omega arith in ap (λ m. (m, t) ∷ []) same
enumerate_from-push n (x ∷ terms) t =
    let moved : n + 1 + length terms ≡ n + length (x ∷ terms) = omega arith in
    ap (λ l. (n, x) ∷ l) (enumerate_from-push (n + 1) terms t ∙ ap (λ m. enumerate_from (n + 1) terms ++ (m, t) ∷ []) moved)

-- one term more
pub enumerate_step : (pairs : List (ℕ × TermKey)) (terms : List TermKey) (t : TermKey) (n : ℕ) →
    pairs ≡ enumerate_from 0 terms → n ≡ length pairs → pairs ++ (n, t) ∷ [] ≡ enumerate_from 0 (terms ++ t ∷ [])
enumerate_step pairs terms t n so_far count =
    let place : n ≡ 0 + length terms = omega (arith, ap length so_far, length-enumerate_from 0 terms) in
    (λ i. so_far i ++ (place i, t) ∷ []) ∙ sym (enumerate_from-push 0 terms t)

-- clauses of queries, one by one
pub clauses_each : (occur : Occur) (queries : List (Box AnyQuery Global)) → map clause_of (map (λ q. (occur, q)) queries) ≡ each_as occur queries
clauses_each occur [] = refl
clauses_each occur (q ∷ queries) = ap (λ l. (occur, query_of q.value) ∷ l) (clauses_each occur queries)

-- the least number of Should clauses, where what the clauses ask for is not looked at
pub minimum_of_clauses : (clauses : List (Occur × Box AnyQuery Global)) →
    default_minimum (λ c. c.0) (map clause_of clauses) ≡ default_minimum (λ c. c.0) clauses
minimum_of_clauses clauses = λ i. if list_all-map (λ c. is_should c.0) clause_of clauses i && nat_lt 0 (length-map clauses clause_of i) then 1 else 0
