-- What a tree says of a document follows from what it looks at there; so of all documents it follows from the schema and the
-- documents alone.
use Rattle.std.specs.Prelude.{◌≡◌, ℕ, ◌-◌, ◌*◌, ◌+◌, ◌&&◌, ◌||◌, if◌then◌else◌, List, [], ◌∷◌, All, Option, None, Some, filter, length, map, min, nat_lt}
use Rattle.std.specs.List.{count_by, list_any, range_with_len, sum}
use Rattle.std.proofs.Common.{ap, refl, sym, ◌∙◌}
use Rattle.std.proofs.lemmas.List.Elements.{All-head, All-tail}
use Rattle.qm_docset.specs.Gather.{scored}
use Rattle.qm_phrase.specs.Starts.{starts_held}
use Rattle.qm_postings.specs.Positions.{is_in, shifted}
use Rattle.qm_postings.specs.Segment.{Segment, holds}
use Rattle.qm_schema.specs.Term.{TermKey}
use Rattle.qm_schema.specs.declared.occur.Occur.{Occur}
use Rattle.qm_schema.specs.declared.occur.Occur.TheVariants.{Should, Must, MustNot}
use Rattle.qm_term.specs.Bm25.{Weighing, bm25, boosted_by}
use Rattle.qm_weight.specs.Looking.{AreAlike, HaveAlikeLengths, IsAlike, LooksAlike, StandAlike, StandsAlike}
use Rattle.qm_weight.specs.Tree.{Tree, Clauses, Placed, all, none, term, phrase, phrase_prefix, boolean, boost, constant, clause, no_clause, boolean_matches}
use Rattle.qm_weight.specs.Tree.{clause_matches, clause_scores, combined, common_places, expansions, field_of, followed, full_places, greatest_offset, list, matches}
use Rattle.qm_weight.specs.Tree.{matching, occurs_as, phrase_count, term_places, prefix_matches, prefix_score, score, weighed_score}

module _ (s : Segment) (d : ℕ) (u : Segment) (e : ℕ) where
  -- ---- phrases

  term_places-alike : (greatest : ℕ) (t : Placed) → StandsAlike s d u e t.term → term_places s d greatest t ≡ term_places u e greatest t
  term_places-alike greatest t alike = ap (shifted (greatest - t.offset)) alike

  all_places-alike : (greatest : ℕ) (terms : List Placed) → StandAlike s d u e terms → map (term_places s d greatest) terms ≡ map (term_places u e greatest) terms
  all_places-alike greatest [] alike = refl
  all_places-alike greatest (t ∷ terms) alike =
      let here = term_places-alike greatest t (All-head (λ (t : Placed). StandsAlike s d u e t.term) t terms alike) in
      let others = all_places-alike greatest terms (All-tail (λ (t : Placed). StandsAlike s d u e t.term) t terms alike) in
      λ i. here i ∷ others i

  phrase_count-alike : (terms : List Placed) (slop : ℕ) → StandAlike s d u e terms → phrase_count s terms slop d ≡ phrase_count u terms slop e
  phrase_count-alike terms slop alike = ap (starts_held slop) (all_places-alike (greatest_offset terms) terms alike)

  full_places-alike : (full : List Placed) (prefix : Placed) → StandAlike s d u e full → full_places s full prefix d ≡ full_places u full prefix e
  full_places-alike full prefix alike = ap common_places (all_places-alike (greatest_offset (prefix ∷ full)) full alike)

  -- ---- prefixes, where both segments expand them to the same terms

  followed-alike : (full : List Placed) (prefix : Placed) (x : TermKey) → StandAlike s d u e full → StandsAlike s d u e x →
      followed s full prefix d x ≡ followed u full prefix e x
  followed-alike full prefix x alike own =
      let here = term_places-alike (greatest_offset (prefix ∷ full)) (record prefix { term = x }) own in
      λ i. count_by (λ y. is_in y (here i)) (full_places-alike full prefix alike i)

  all_followed-alike : (full : List Placed) (prefix : Placed) (xs : List TermKey) → StandAlike s d u e full → All (StandsAlike s d u e) xs →
      map (followed s full prefix d) xs ≡ map (followed u full prefix e) xs
  all_followed-alike full prefix [] alike each = refl
  all_followed-alike full prefix (x ∷ xs) alike each =
      let here = followed-alike full prefix x alike (All-head (StandsAlike s d u e) x xs each) in
      let others = all_followed-alike full prefix xs alike (All-tail (StandsAlike s d u e) x xs each) in
      λ i. here i ∷ others i

  any_holds-alike : (xs : List TermKey) → All (LooksAlike s d u e) xs → list_any (λ x. holds s x d) xs ≡ list_any (λ x. holds u x e) xs
  any_holds-alike [] each = refl
  any_holds-alike (x ∷ xs) each =
      let here = (All-head (LooksAlike s d u e) x xs each).held in
      let others = any_holds-alike xs (All-tail (LooksAlike s d u e) x xs each) in
      λ i. here i || others i

  -- a prefix alone
  pub prefix_alone-alike : (prefix : Placed) (most : ℕ) → expansions s prefix.term most ≡ expansions u prefix.term most →
      All (LooksAlike s d u e) (expansions s prefix.term most) → prefix_matches s [] prefix most d ≡ prefix_matches u [] prefix most e
  prefix_alone-alike prefix most same each =
      any_holds-alike (expansions s prefix.term most) each ∙ ap (list_any (λ x. holds u x e)) same

  -- behind full terms or not
  pub prefix_matches-alike : (full : List Placed) (prefix : Placed) (most : ℕ) → StandAlike s d u e full →
      expansions s prefix.term most ≡ expansions u prefix.term most → All (LooksAlike s d u e) (expansions s prefix.term most) →
      All (StandsAlike s d u e) (expansions s prefix.term most) → prefix_matches s full prefix most d ≡ prefix_matches u full prefix most e
  prefix_matches-alike [] prefix most alike same each stand = prefix_alone-alike prefix most same each
  prefix_matches-alike (t ∷ full) prefix most alike same each stand =
      ap (λ ns. nat_lt 0 (min 4294967295 (sum ns))) (all_followed-alike (t ∷ full) prefix (expansions s prefix.term most) alike stand)
      ∙ ap (λ xs. nat_lt 0 (min 4294967295 (sum (map (followed u (t ∷ full) prefix e) xs)))) same

  -- ---- a tree

  mutual
    pub matches-alike : (tree : Tree) → IsAlike s d u e tree → matches tree s d ≡ matches tree u e
    matches-alike all alike = refl
    matches-alike none alike = refl
    matches-alike (term t option weight) alike = alike.held
    matches-alike (phrase terms slop weight) alike = ap (nat_lt 0) (phrase_count-alike terms slop alike)
    matches-alike (phrase_prefix full prefix most weight) alike = alike.1
    matches-alike (boolean scoring minimum combiner clauses) alike =
        let must = clause_matches-alike clauses Must alike in
        let should = clause_matches-alike clauses Should alike in
        let must_not = clause_matches-alike clauses MustNot alike in
        λ i. boolean_matches minimum (must i) (should i) (must_not i)
    matches-alike (boost k inside) alike = matches-alike inside alike
    matches-alike (constant k inside) alike = matches-alike inside alike

    clause_matches-alike : (clauses : Clauses) (wanted : Occur) → AreAlike s d u e clauses → clause_matches clauses wanted s d ≡ clause_matches clauses wanted u e
    clause_matches-alike no_clause wanted alike = refl
    clause_matches-alike (clause occur inside clauses) wanted alike =
        let here = matches-alike inside alike.0 in
        let others = clause_matches-alike clauses wanted alike.1 in
        λ i. if occurs_as wanted occur then here i ∷ others i else others i

  module _ (lengths : HaveAlikeLengths s d u e) where
    weighed_score-alike : (weight : Option Weighing) (b field n m : ℕ) → n ≡ m → weighed_score s weight b field d n ≡ weighed_score u weight b field e m
    weighed_score-alike None b field n m same = refl
    weighed_score-alike (Some weight) b field n m same = λ i. bm25 (boosted_by b weight) (lengths field i) (same i)

    prefix_score-alike : (full : List Placed) (prefix : Placed) (weight : Option Weighing) (b : ℕ) → StandAlike s d u e full →
        prefix_score s full prefix weight b d ≡ prefix_score u full prefix weight b e
    prefix_score-alike [] prefix weight b alike = refl
    prefix_score-alike (t ∷ []) prefix None b alike = refl
    prefix_score-alike (t ∷ []) prefix (Some weight) b alike = refl
    prefix_score-alike (t ∷ v ∷ full) prefix weight b alike =
        weighed_score-alike weight b t.term.field _ _ (ap length (full_places-alike (t ∷ v ∷ full) prefix alike))

    mutual
      pub score-alike : (tree : Tree) (b : ℕ) → IsAlike s d u e tree → score tree b s d ≡ score tree b u e
      score-alike all b alike = refl
      score-alike none b alike = refl
      score-alike (term t option weight) b alike = weighed_score-alike weight b t.field _ _ (alike.often option)
      score-alike (phrase terms slop weight) b alike = weighed_score-alike weight b (field_of terms) _ _ (phrase_count-alike terms slop alike)
      score-alike (phrase_prefix full prefix most weight) b alike = prefix_score-alike full prefix weight b alike.0
      score-alike (boolean scoring minimum combiner clauses) b alike =
          let must = clause_scores-alike clauses Must b alike in
          let should = clause_scores-alike clauses Should b alike in
          λ i. sum (must i) + combined combiner (should i)
      score-alike (boost k inside) b alike = score-alike inside (b * k) alike
      score-alike (constant k inside) b alike = refl

      clause_scores-alike : (clauses : Clauses) (wanted : Occur) (b : ℕ) → AreAlike s d u e clauses →
          clause_scores clauses wanted b s d ≡ clause_scores clauses wanted b u e
      clause_scores-alike no_clause wanted b alike = refl
      clause_scores-alike (clause occur inside clauses) wanted b alike =
          let here = matches-alike inside alike.0 in
          let scored_here = score-alike inside b alike.0 in
          let others = clause_scores-alike clauses wanted b alike.1 in
          λ i. if occurs_as wanted occur && here i then scored_here i ∷ others i else others i

-- ---- the schema and the documents decide, whatever the tree

-- a segment of these documents
abbrev plain : Segment → Segment
plain s = record { schema = s.schema; block_len = 0; documents = s.documents; deleted = [] }

module _ (s : Segment) (d : ℕ) where
  mutual
    alike-plain : (tree : Tree) → IsAlike s d (plain s) d tree
    alike-plain all = tt
    alike-plain none = tt
    alike-plain (term t option weight) = record { held = refl; often = λ option. refl }
    alike-plain (phrase terms slop weight) = λ k t within. refl
    alike-plain (phrase_prefix [] prefix most weight) = (λ k t within. refl, refl)
    alike-plain (phrase_prefix (t ∷ full) prefix most weight) = (λ k t within. refl, refl)
    alike-plain (boolean scoring minimum combiner clauses) = clauses_alike-plain clauses
    alike-plain (boost k inside) = alike-plain inside
    alike-plain (constant k inside) = alike-plain inside

    clauses_alike-plain : (clauses : Clauses) → AreAlike s d (plain s) d clauses
    clauses_alike-plain no_clause = tt
    clauses_alike-plain (clause occur inside clauses) = (alike-plain inside, clauses_alike-plain clauses)

  matches-plain : (tree : Tree) → matches tree s d ≡ matches tree (plain s) d
  matches-plain tree = matches-alike s d (plain s) d tree (alike-plain tree)

  score-plain : (tree : Tree) (b : ℕ) → score tree b s d ≡ score tree b (plain s) d
  score-plain tree b = score-alike s d (plain s) d (λ field. refl) tree b (alike-plain tree)

module _ (s t : Segment) (schema : s.schema ≡ t.schema) (documents : s.documents ≡ t.documents) (tree : Tree) where
  same_plain : plain s ≡ plain t
  same_plain = ap (λ f. record (plain s) { schema = f }) schema ∙ ap (λ ds. record (plain t) { documents = ds }) documents

  pub matches-documents : (d : ℕ) → matches tree s d ≡ matches tree t d
  matches-documents d = matches-plain s d tree ∙ ap (λ a. matches tree a d) same_plain ∙ sym (matches-plain t d tree)

  pub score-documents : (b d : ℕ) → score tree b s d ≡ score tree b t d
  score-documents b d = score-plain s d tree b ∙ ap (λ a. score tree b a d) same_plain ∙ sym (score-plain t d tree b)

  pub matching-documents : matching tree s ≡ matching tree t
  matching-documents =
      ap (λ ds. filter (matches tree s) (range_with_len 0 (length ds))) documents
      ∙ (λ i. filter (λ d. matches-documents d i) (range_with_len 0 (length t.documents)))

  pub list-documents : (b : ℕ) → list tree b s ≡ list tree b t
  list-documents b = ap (map (λ d. scored d (score tree b s d))) matching-documents ∙ (λ i. map (λ d. scored d (score-documents b d i)) (matching tree t))
