-- A tree that names wanted terms alone says the same of a segment in which these alone are kept.
use Rattle.std.proofs.Common.{◌≡◌, ℕ, Bool, true, false, ◌&&◌, ◌||◌, if◌then◌else◌, cond, List, [], ◌∷◌, length, map, filter, take, zero, suc, None, refl, ap, sym, subst, ◌∙◌, inl, inr}
use Rattle.std.specs.FinMap.{get}
use Rattle.std.specs.List.{list_any, range_with_len}
use Rattle.std.specs.Prelude.{All, is_some}
use Rattle.std.proofs.lemmas.Bool.{cases_Bool}
use Rattle.std.proofs.lemmas.List.{length-map}
use Rattle.std.proofs.lemmas.List.Elements.{All-head, All-tail, All-weaker}
use Rattle.std.proofs.lemmas.Map.Lookups.{btree_set_from_contains}
use Rattle.qm_docset.specs.Gather.{scored}
use Rattle.qm_postings.specs.Restriction.{keeping, restricted}
use Rattle.qm_postings.specs.Segment.{Document, Segment}
use Rattle.qm_postings.proofs.Restrictions.{frequency-wanted, holds-wanted, kept-in, length_id-restricted, positions-wanted}
use Rattle.qm_schema.specs.Term.{TermKey, term_cmp_antisymmetric, term_cmp_total}
use Rattle.qm_schema.specs.declared.schema.option.IndexRecordOption.TheVariants.{WithFreqsAndPositions}
use Rattle.qm_weight.specs.Looking.{AreAlike, IsAlike, LooksAlike, StandAlike, StandsAlike}
use Rattle.qm_weight.specs.LookingFacts.{matches-alike, prefix_matches-alike, score-alike}
use Rattle.qm_weight.specs.Names.{AreWanted, ClausesName, Names}
use Rattle.qm_weight.specs.Tree.{Tree, Clauses, Placed, all, none, term, phrase, phrase_prefix, boolean, boost, constant, clause, no_clause, begins_with}
use Rattle.qm_weight.specs.Tree.{expansions, held_terms, list, matches, matching, score}
use Rattle.qm_weight.proofs.HeldTerms.{among-filter, among-held, is_held, sorted-filter, sorted-held}

-- ---- the terms that are held

none-pass : (wanted : TermKey → Bool) (q : TermKey) (documents : List Document) → wanted q ≡ false →
    list_any (λ document. is_some (get document.terms q)) (map (keeping wanted) documents) ≡ false
none-pass wanted q [] out = refl
none-pass wanted q (x ∷ documents) out =
    let here : is_some (get (keeping wanted x).terms q) ≡ false = ap is_some (kept-in wanted x q ∙ ap (λ b. cond b (get x.terms q) None) out) in
    λ i. here i || none-pass wanted q documents out i

same-pass : (wanted : TermKey → Bool) (q : TermKey) (documents : List Document) → wanted q ≡ true →
    list_any (λ document. is_some (get document.terms q)) (map (keeping wanted) documents) ≡ list_any (λ document. is_some (get document.terms q)) documents
same-pass wanted q [] «in» = refl
same-pass wanted q (x ∷ documents) «in» =
    let here : is_some (get (keeping wanted x).terms q) ≡ is_some (get x.terms q) =
    ap is_some (kept-in wanted x q ∙ ap (λ b. cond b (get x.terms q) None) «in») in
    λ i. here i || same-pass wanted q documents «in» i

held-restricted : (wanted : TermKey → Bool) (s : Segment) (q : TermKey) → is_held (restricted wanted s) q ≡ (wanted q && is_held s q)
held-restricted wanted s q = elim (cases_Bool (wanted q)) [
  | inl is ↦ same-pass wanted q s.documents is ∙ sym (ap (λ b. b && is_held s q) is)
  | inr out ↦ none-pass wanted q s.documents out ∙ sym (ap (λ b. b && is_held s q) out)
]

held_terms-restricted : (wanted : TermKey → Bool) (s : Segment) → held_terms (restricted wanted s) ≡ filter wanted (held_terms s)
held_terms-restricted wanted s =
    btree_set_from_contains term_cmp_total (record { keys = held_terms (restricted wanted s) }) (record { keys = filter wanted (held_terms s) })
    (sorted-held (restricted wanted s)) (sorted-filter wanted (held_terms s) (sorted-held s)) (λ q.
    among-held (restricted wanted s) q ∙ held-restricted wanted s q
    ∙ sym (among-filter wanted q (held_terms s) ∙ ap (λ b. wanted q && b) (among-held s q))) term_cmp_antisymmetric

filters-swap : (p q : TermKey → Bool) (xs : List TermKey) → filter p (filter q xs) ≡ filter q (filter p xs)
filters-swap p q [] = refl
filters-swap p q (x ∷ xs) = go (p x) (q x) refl refl (filters-swap p q xs)
  where
    go : (b c : Bool) → p x ≡ b → q x ≡ c → filter p (filter q xs) ≡ filter q (filter p xs) →
        filter p (if c then x ∷ filter q xs else filter q xs) ≡ filter q (if b then x ∷ filter p xs else filter p xs)
    go true true p_is q_is rest =
        (λ i. if p_is i then x ∷ filter p (filter q xs) else filter p (filter q xs)) ∙ ap (λ l. x ∷ l) rest
        ∙ sym (λ i. if q_is i then x ∷ filter q (filter p xs) else filter q (filter p xs))
    go true false p_is q_is rest = rest ∙ sym (λ i. if q_is i then x ∷ filter q (filter p xs) else filter q (filter p xs))
    go false true p_is q_is rest = (λ i. if p_is i then x ∷ filter p (filter q xs) else filter p (filter q xs)) ∙ rest
    go false false p_is q_is rest = rest

-- where the first ones are wanted, they are the first of those that are
first-wanted : (wanted : TermKey → Bool) (n : ℕ) (xs : List TermKey) → All (λ t. wanted t ≡ true) (take n xs) → take n (filter wanted xs) ≡ take n xs
first-wanted wanted zero xs each = refl
first-wanted wanted (suc n) [] each = refl
first-wanted wanted (suc n) (x ∷ xs) each =
    let is = All-head (λ t. wanted t ≡ true) x (take n xs) each in
    (λ i. take (suc n) (if is i then x ∷ filter wanted xs else filter wanted xs))
    ∙ ap (λ l. x ∷ l) (first-wanted wanted n xs (All-tail (λ t. wanted t ≡ true) x (take n xs) each))

expansions-restricted : (wanted : TermKey → Bool) (s : Segment) (prefix : TermKey) (most : ℕ) →
    All (λ t. wanted t ≡ true) (expansions s prefix most) → expansions (restricted wanted s) prefix most ≡ expansions s prefix most
expansions-restricted wanted s prefix most each =
    ap (λ ts. take most (filter (begins_with prefix) ts)) (held_terms-restricted wanted s)
    ∙ ap (take most) (filters-swap (begins_with prefix) wanted (held_terms s))
    ∙ first-wanted wanted most (filter (begins_with prefix) (held_terms s)) each

-- ---- the tree

module _ (wanted : TermKey → Bool) (s : Segment) where
  module _ (d : ℕ) where
    wanted-alike : (t : TermKey) → wanted t ≡ true → LooksAlike (restricted wanted s) d s d t
    wanted-alike t is = record {
      held = holds-wanted wanted s t is d;
      often = λ option. frequency-wanted wanted s t is option d;
    }

    wanted-stands : (t : TermKey) → wanted t ≡ true → StandsAlike (restricted wanted s) d s d t
    wanted-stands t is = positions-wanted wanted s t is WithFreqsAndPositions d

    all-stand : (terms : List Placed) → AreWanted wanted terms → StandAlike (restricted wanted s) d s d terms
    all-stand terms are = All-weaker (λ (t : Placed). wanted t.term ≡ true) (λ (t : Placed). StandsAlike (restricted wanted s) d s d t.term)
        (λ t is. wanted-stands t.term is) terms are

    mutual
      named-alike : (tree : Tree) → Names wanted s tree → IsAlike (restricted wanted s) d s d tree
      named-alike all named = tt
      named-alike none named = tt
      named-alike (term t option weight) named = wanted-alike t named
      named-alike (phrase terms slop weight) named = all-stand terms named
      named-alike (phrase_prefix full prefix most weight) named =
          let same = expansions-restricted wanted s prefix.term most named.1 in
          let each = subst (All (λ t. wanted t ≡ true)) (sym same) named.1 in (
            all-stand full named.0,
            prefix_matches-alike (restricted wanted s) d s d full prefix most (all-stand full named.0) same
                (All-weaker (λ t. wanted t ≡ true) (LooksAlike (restricted wanted s) d s d) wanted-alike _ each)
                (All-weaker (λ t. wanted t ≡ true) (StandsAlike (restricted wanted s) d s d) wanted-stands _ each),
          )
      named-alike (boolean scoring minimum combiner clauses) named = clauses-alike clauses named
      named-alike (boost k inside) named = named-alike inside named
      named-alike (constant k inside) named = named-alike inside named

      clauses-alike : (clauses : Clauses) → ClausesName wanted s clauses → AreAlike (restricted wanted s) d s d clauses
      clauses-alike no_clause named = tt
      clauses-alike (clause occur inside clauses) named = (named-alike inside named.0, clauses-alike clauses named.1)

  module _ (tree : Tree) (named : Names wanted s tree) where
    pub matches-restricted : (d : ℕ) → matches tree (restricted wanted s) d ≡ matches tree s d
    matches-restricted d = matches-alike (restricted wanted s) d s d tree (named-alike d tree named)

    pub score-restricted : (b d : ℕ) → score tree b (restricted wanted s) d ≡ score tree b s d
    score-restricted b d =
        score-alike (restricted wanted s) d s d (λ field. length_id-restricted wanted s field d) tree b (named-alike d tree named)

    pub matching-restricted : matching tree (restricted wanted s) ≡ matching tree s
    matching-restricted =
        ap (λ n. filter (matches tree (restricted wanted s)) (range_with_len 0 n)) (length-map s.documents (keeping wanted))
        ∙ (λ i. filter (λ d. matches-restricted d i) (range_with_len 0 (length s.documents)))

    -- so it lists the same documents with the same scores
    pub list-restricted : (b : ℕ) → list tree b (restricted wanted s) ≡ list tree b s
    list-restricted b =
        ap (map (λ d. scored d (score tree b (restricted wanted s) d))) matching-restricted
        ∙ (λ i. map (λ d. scored d (score-restricted b d i)) (matching tree s))
