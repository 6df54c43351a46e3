-- A tree that asks for no positions says the same of a segment without them.
use Rattle.std.proofs.Common.{◌≡◌, ℕ, Bool, true, false, ◌||◌, List, [], ◌∷◌, length, map, filter, take, refl, ap, sym, ◌∙◌, arith}
use Rattle.std.specs.FinMap.{get}
use Rattle.std.specs.List.{list_any, range_with_len}
use Rattle.std.specs.Prelude.{is_some}
use Rattle.std.proofs.lemmas.Bool.{false≢true, or_parts}
use Rattle.std.proofs.lemmas.List.{length-map}
use Rattle.std.proofs.lemmas.Map.Lookups.{btree_set_from_contains}
use Rattle.qm_docset.specs.Gather.{scored}
use Rattle.qm_postings.specs.Restriction.{unplaced, unplaced_document}
use Rattle.qm_postings.specs.Segment.{Document, Segment}
use Rattle.qm_postings.proofs.Unplaced.{frequency-unplaced, holds-unplaced, length_id-unplaced}
use Rattle.qm_schema.specs.Term.{TermKey, term_cmp_antisymmetric, term_cmp_total}
use Rattle.qm_weight.specs.Looking.{AreAlike, IsAlike, LooksAlike}
use Rattle.qm_weight.specs.LookingFacts.{matches-alike, prefix_alone-alike, score-alike}
use Rattle.qm_weight.specs.Names.{asks_places, clauses_ask_places}
use Rattle.qm_weight.specs.Tree.{Tree, Clauses, all, none, term, phrase, phrase_prefix, boolean, boost, constant, clause, no_clause, begins_with}
use Rattle.qm_weight.specs.Tree.{expansions, held_terms, list, matches, score}
use Rattle.qm_weight.proofs.HeldTerms.{among-held, sorted-held}

same-pass : (q : TermKey) (documents : List Document) →
    list_any (λ document. is_some (get document.terms q)) (map unplaced_document documents) ≡ list_any (λ document. is_some (get document.terms q)) documents
same-pass q [] = refl
same-pass q (x ∷ documents) =
    let one : Segment = record { schema = []; block_len = 0; documents = x ∷ []; deleted = [] } in
    λ i. holds-unplaced one q 0 i || same-pass q documents i

held_terms-unplaced : (s : Segment) → held_terms (unplaced s) ≡ held_terms s
held_terms-unplaced s =
    btree_set_from_contains term_cmp_total (record { keys = held_terms (unplaced s) }) (record { keys = held_terms s })
    (sorted-held (unplaced s)) (sorted-held s)
    (λ q. among-held (unplaced s) q ∙ same-pass q s.documents ∙ sym (among-held s q)) term_cmp_antisymmetric

expansions-unplaced : (s : Segment) (prefix : TermKey) (most : ℕ) → expansions (unplaced s) prefix most ≡ expansions s prefix most
expansions-unplaced s prefix most = ap (λ ts. take most (filter (begins_with prefix) ts)) (held_terms-unplaced s)

module _ (s : Segment) where
  module _ (d : ℕ) where
    looks : (t : TermKey) → LooksAlike (unplaced s) d s d t
    looks t = record { held = holds-unplaced s t d; often = λ option. frequency-unplaced s option t d }

    mutual
      unplaced-alike : (tree : Tree) → asks_places tree ≡ false → IsAlike (unplaced s) d s d tree
      unplaced-alike all asks = tt
      unplaced-alike none asks = tt
      unplaced-alike (term t option weight) asks = looks t
      unplaced-alike (phrase terms slop weight) asks = absurd (false≢true (sym asks))
      unplaced-alike (phrase_prefix [] prefix most weight) asks =
          (λ k t within. absurd (omega (arith, within)), prefix_alone-alike (unplaced s) d s d prefix most (expansions-unplaced s prefix.term most) (λ k t within. looks _))
      unplaced-alike (phrase_prefix (t ∷ full) prefix most weight) asks = absurd (false≢true (sym asks))
      unplaced-alike (boolean scoring minimum combiner clauses) asks = clauses-alike clauses asks
      unplaced-alike (boost k inside) asks = unplaced-alike inside asks
      unplaced-alike (constant k inside) asks = unplaced-alike inside asks

      clauses-alike : (clauses : Clauses) → clauses_ask_places clauses ≡ false → AreAlike (unplaced s) d s d clauses
      clauses-alike no_clause asks = tt
      clauses-alike (clause occur inside clauses) asks =
          let both = or_parts (asks_places inside) (clauses_ask_places clauses) asks in (unplaced-alike inside both.0, clauses-alike clauses both.1)

  module _ (tree : Tree) (asks : asks_places tree ≡ false) where
    pub matches-unplaced : (d : ℕ) → matches tree (unplaced s) d ≡ matches tree s d
    matches-unplaced d = matches-alike (unplaced s) d s d tree (unplaced-alike d tree asks)

    pub score-unplaced : (b d : ℕ) → score tree b (unplaced s) d ≡ score tree b s d
    score-unplaced b d = score-alike (unplaced s) d s d (λ field. length_id-unplaced s field d) tree b (unplaced-alike d tree asks)

    -- so it lists the same documents with the same scores
    pub list-unplaced : (b : ℕ) → list tree b (unplaced s) ≡ list tree b s
    list-unplaced b =
        ap (λ n. map (λ d. scored d (score tree b (unplaced s) d)) (filter (matches tree (unplaced s)) (range_with_len 0 n)))
        (length-map s.documents unplaced_document)
        ∙ (λ i. map (λ d. scored d (score-unplaced b d i)) (filter (λ d. matches-unplaced d i) (range_with_len 0 (length s.documents))))
