-- A Boolean of one clause that decides alone lists what the clause does.
use Rattle.std.specs.Prelude.{◌≡◌, ℕ, ◌<◌, ◌≤◌, Bool, true, ◌&&◌, if◌then◌else◌, IsTrue, List, [], ◌∷◌, length, sum}
use Rattle.std.proofs.Common.{arith, refl, sym, ap, subst, ◌∙◌, Box, Global, get_or}
use Rattle.qm_docset.specs.Entry.{Entry}
use Rattle.qm_postings.specs.Segment.{Segment}
use Rattle.qm_schema.specs.declared.occur.Occur.{Occur}
use Rattle.qm_schema.specs.declared.occur.Occur.TheVariants.{Should, Must, MustNot}
use Rattle.qm_scorer.specs.declared.any_combiner.AnyCombiner.{AnyCombiner}
use Rattle.qm_weight.specs.ClauseScorers.{IsDecidedBy, KeepsOneScore, decides_alone}
use Rattle.qm_weight.specs.Scorers.{IsListOf}
use Rattle.qm_weight.specs.Tree.{Tree, boolean, clause, combined, is_scoring, matches, no_clause, score}
use Rattle.qm_weight.specs.Weights.{boolean_tree, clauses_from, combiner_of, rule_tree, tree_of}
use Rattle.qm_weight.specs.declared.any_weight.AnyWeight.{AnyWeight}
use Rattle.qm_weight.specs.declared.boolean_weight.BooleanWeight.{BooleanWeight}
use Rattle.qm_weight.proofs.AliveCounts.{matches-one_clause}
use Rattle.qm_weight.proofs.Booleans.{combined-none}
use Rattle.qm_weight.proofs.Rows.{IsListing-same}
use Rattle.qm_weight.proofs.TreeRows.{both_true, list-of, listing-of}

-- the scores of clauses of one kind, where the one clause matches
one_score : (x : ℕ) (m : Bool) → m ≡ true → (if true && m then x ∷ [] else []) ≡ x ∷ []
one_score x m passed = ap (λ b. if true && b then x ∷ [] else []) passed

score-one_clause : (scoring : Bool) (minimum : ℕ) (combiner : AnyCombiner) (occur : Occur) (inside : Tree) (b : ℕ) (segment : Segment) (d : ℕ) →
    decides_alone minimum occur ≡ true → (occur ≡ Should → KeepsOneScore combiner) → matches inside segment d ≡ true →
    score inside b segment d ≡ score (boolean scoring minimum (combiner_of combiner) (clause occur inside no_clause)) b segment d
score-one_clause scoring minimum combiner Must inside b segment d met kept passed =
    omega (arith, ap sum (one_score (score inside b segment d) (matches inside segment d) passed), combined-none combiner [] refl)
score-one_clause scoring minimum combiner Should inside b segment d met kept passed =
    omega (
      arith,
      ap (combined (combiner_of combiner)) (one_score (score inside b segment d) (matches inside segment d) passed),
      kept refl (score inside b segment d),
    )
score-one_clause scoring minimum combiner MustNot inside b segment d met kept passed = absurd (cc met)

list-one_clause : (scoring : Bool) (minimum : ℕ) (combiner : AnyCombiner) (occur : Occur) (inside : Tree) (b : ℕ) (segment : Segment) (es : List Entry) →
    decides_alone minimum occur ≡ true → (occur ≡ Should → KeepsOneScore combiner) → IsListOf inside b segment es →
    IsListOf (boolean scoring minimum (combiner_of combiner) (clause occur inside no_clause)) b segment es
list-one_clause scoring minimum combiner occur inside b segment es met kept l =
    let tree = boolean scoring minimum (combiner_of combiner) (clause occur inside no_clause) in
    list-of tree b segment es
    (IsListing-same (length segment.documents) (matches inside segment) (matches tree segment) (IsTrue (is_scoring inside)) (IsTrue (is_scoring tree))
    (score inside b segment) (score tree b segment) es
    (λ on. (both_true (is_scoring inside) true (both_true scoring (is_scoring inside && true) on).1).0)
    (λ d below. sym (matches-one_clause scoring minimum (combiner_of combiner) occur inside segment d met))
    (λ on d below passed. score-one_clause scoring minimum combiner occur inside b segment d met kept passed)
    (listing-of inside b segment es l))

-- a list of one item
one_item : {A : Type 0} (xs : List A) (x : A) → 1 ≤ length xs → length xs < 2 → x ≡ get_or xs 0 x → xs ≡ x ∷ []
one_item [] x some few is = absurd (omega (arith, some))
one_item (y ∷ []) x some few is = ap (λ z. z ∷ []) (sym is)
one_item (y ∷ z ∷ xs) x some few is = absurd (omega (arith, few))

-- so does a weight of one clause, whose parts were read one after the other
pub list-one_weight : (weight : BooleanWeight) (ws : List (Occur × Box AnyWeight Global)) (v w : Occur × Box AnyWeight Global) (b : ℕ) (segment : Segment)
    (es : List Entry) → ws ≡ weight.weights.items → 1 ≤ length ws → length ws < 2 → v ≡ get_or ws 0 v → w ≡ get_or ws 0 w →
    IsDecidedBy weight.rule v.0 → IsListOf (tree_of w.1.value) b segment es → IsListOf (boolean_tree weight) b segment es
list-one_weight weight ws v w b segment es items some few is_v is_w decided l =
    let one_v = one_item ws v some few is_v in
    let one_w = one_item ws w some few is_w in
    let same : v ≡ w = ap (λ xs. get_or xs 0 v) (sym one_v ∙ one_w) in
    let by = subst (λ u. IsDecidedBy weight.rule u.0) same decided in
    subst
    (λ us. IsListOf (rule_tree weight.rule (clauses_from us)) b segment es)
    (sym one_w ∙ items) (list-one_clause weight.rule.scoring_enabled weight.rule.minimum_number_should_match weight.rule.score_combiner w.0 (tree_of w.1.value) b segment
    es by.met by.kept l)
