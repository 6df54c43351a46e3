-- What the cursors of terms list together is the list of the clauses, where all of these should match, or must.
use Rattle.std.specs.Prelude.{◌≡◌, ℕ, ◌+◌, ◌<◌, ◌≤◌, max, nat_le, Bool, true, false, if◌then◌else◌, IsTrue}
use Rattle.std.specs.Prelude.{All, List, [], ◌∷◌, ◌++◌, Option, None, Some, length, map, sum, take}
use Rattle.std.proofs.Common.{Result, Ok, Err, IfErr, IsErrOf, arith, refl, sym, ap, subst, ◌∙◌, get_or, inl, inr, length-append}
use Rattle.std.proofs.lemmas.Bool.{cases_Bool, cases_eq, leb-true}
use Rattle.std.proofs.lemmas.List.{map-append}
use Rattle.std.proofs.lemmas.List.Elements.{All-cons, All-head, All-nil, All-tail}
use Rattle.std.proofs.lemmas.List.Sums.{sum_by-cons}
use Rattle.qm_docset.specs.Entry.{Entry, greatest_score}
use Rattle.qm_docset.specs.Gather.{entries_of, gather, scored, scores_at}
use Rattle.qm_docset.specs.GatherFacts.{entries_of-here, entries_of-nil, entries_of-other, scores_at-cons}
use Rattle.qm_docset.specs.Lists.{ArePlaced, bounds, lists}
use Rattle.qm_docset.specs.declared.docset.DocSet.{Ghosts}
use Rattle.qm_docset.specs.declared.numbers.TheConstants.{TERMINATED}
use Rattle.qm_combine.specs.Union.{IsBoundOrMemory, ListsGathered, total_top}
use Rattle.qm_postings.specs.Segment.{Segment}
use Rattle.qm_schema.specs.declared.error.QueryError.{QueryError}
use Rattle.qm_schema.specs.declared.error.QueryError.TheVariants.{Memory, ScoreBound}
use Rattle.qm_schema.specs.declared.occur.Occur.{Occur}
use Rattle.qm_schema.specs.declared.occur.Occur.TheVariants.{Should, Must, MustNot}
use Rattle.qm_scorer.specs.Bare.{bare}
use Rattle.qm_scorer.specs.BareFacts.{bare-cons, bare-nil}
use Rattle.qm_weight.specs.ClauseScorers.{clause_trees, without_must_not}
use Rattle.qm_weight.specs.LeafScorers.{IsLeafOf}
use Rattle.qm_weight.specs.Scorers.{IsListOf, IsRefusalOf, IsScorerOf}
use Rattle.qm_scorer.specs.AnyCombiner.{any_combined}
use Rattle.qm_weight.specs.TermUnions.{AreFound, AreTreeCursors, CombinesAs, ListTogether, there}
use Rattle.qm_weight.specs.Tree.{Clauses, Fits, Tree, boolean, clause, is_scoring, matches, no_clause, occurs_as, score}
use Rattle.qm_weight.specs.Weights.{clauses_by, combiner_of, rule_tree}
use Rattle.qm_weight.specs.declared.boolean_weight.rule.BooleanRule.{BooleanRule}
use Rattle.qm_weight.proofs.Booleans.{combined-some, is_wanted, list-unscored, list-wanted, must-missing, must-wanted, none-said, wanted-test}
use Rattle.qm_weight.proofs.ClauseSteps.{more_clauses}
use Rattle.qm_weight.proofs.Rows.{AreSaid, AreSaid-cons, AreSaid-nil, IsListing, IsListing-gather, IsListing-same, no_length, number-here, one_said}
use Rattle.qm_weight.proofs.TreeRows.{both_true, bounds-of, listing-of, most-of, on-should, tree_bounds, tree_scores, trees_scoring}

-- ---- cursor by cursor

-- a document and its score are all that is seen of an entry
scores-seen : (d : ℕ) (es : List Entry) → map (λ e. e.score) (entries_of d (bare es)) ≡ map (λ e. e.score) (entries_of d es)
scores-seen d [] = ap (λ es. map (λ e. e.score) (entries_of d es)) bare-nil
scores-seen d (e ∷ es) =
    let shown = scored e.document e.score in
    ap (λ xs. map (λ x. x.score) (entries_of d xs)) (bare-cons e es) ∙ elim (cases_eq e.document d) [
      | inl q ↦
          ap (map (λ x. x.score)) (entries_of-here d shown (bare es) q) ∙ ap (λ r. e.score ∷ r) (scores-seen d es)
          ∙ sym (ap (map (λ x. x.score)) (entries_of-here d e es q))
      | inr q ↦
          ap (map (λ x. x.score)) (entries_of-other d shown (bare es) q) ∙ scores-seen d es ∙ sym (ap (map (λ x. x.score)) (entries_of-other d e es q))
    ]

one_or_fewer : (p : Bool) (x : ℕ) → length (if p then x ∷ [] else []) ≤ 1
one_or_fewer true x = omega arith
one_or_fewer false x = omega arith

occurs-same : (kind : Occur) → occurs_as kind kind ≡ true
occurs-same Should = refl
occurs-same Must = refl
occurs-same MustNot = refl

pub there-push : {S : Type 0} (found : List (Option S)) (s : Option S) → there (found ++ s ∷ []) ≡ there found ++ there (s ∷ [])
there-push [] s = refl
there-push (None ∷ found) s = there-push found s
there-push (Some x ∷ found) s = ap (λ l. x ∷ l) (there-push found s)

module _ {S : Type 0} (D : Ghosts S) (b : ℕ) (segment : Segment) where
  found-push : (trees : List Tree) (found : List (Option S)) (t : Tree) (s : Option S) → AreFound D b segment trees found →
      IsLeafOf D t b segment s → AreFound D b segment (trees ++ t ∷ []) (found ++ s ∷ [])
  found-push [] [] t s h one = (one, tt)
  found-push [] (f ∷ found) t s h one = absurd h
  found-push (u ∷ trees) [] t s h one = absurd h
  found-push (u ∷ trees) (f ∷ found) t s h one = (h.0, found-push trees found t s h.1 one)

  -- one tree more
  pub cursors-push : (trees : List Tree) (t : Tree) (cursors pushed : List S) (s : Option S) → AreTreeCursors D trees b segment cursors →
      IsLeafOf D t b segment s → pushed ≡ cursors ++ there (s ∷ []) → AreTreeCursors D (trees ++ t ∷ []) b segment pushed
  cursors-push trees t cursors pushed s h one added =
      (h.0 ++ s ∷ [], found-push trees h.0 t s h.1 one, added ∙ ap (λ l. l ++ there (s ∷ [])) h.2 ∙ sym (there-push h.0 s))

  -- ---- what they say together

  let_go : (n : ℕ) (On : Type 0) (said : ℕ → List ℕ) (ess fss : List (List Entry)) → ((d : ℕ) → scores_at d fss ≡ scores_at d ess) →
      AreSaid n On said ess → AreSaid n On said fss
  let_go n On said ess fss same h = record {
    number = λ d below. ap length (same d) ∙ h.number d below;
    past = λ d past. same d ∙ h.past d past;
    scores = λ on d below. same d ∙ h.scores on d below;
  }

  pub said-found : (trees : List Tree) (found : List (Option S)) → AreFound D b segment trees found →
      AreSaid (length segment.documents) (IsTrue (trees_scoring trees)) (tree_scores trees b segment) (lists D (there found))
  said-found [] [] h = AreSaid-nil (length segment.documents) (IsTrue true)
  said-found [] (f ∷ found) h = absurd h
  said-found (t ∷ trees) [] h = absurd h
  said-found (t ∷ trees) (None ∷ found) h =
      let n = length segment.documents in
      let nothing : IsListing n (matches t segment) (IsTrue (is_scoring t)) (score t b segment) [] = record {
        documents = h.0.documents;
        scores = h.0.scores;
      } in
      let_go n _ _ ([] ∷ lists D (there found)) (lists D (there found))
      (λ d. sym (scores_at-cons d [] (lists D (there found)) ∙ ap (λ r. map (λ e. e.score) r ++ scores_at d (lists D (there found))) (entries_of-nil d)))
      (AreSaid-cons n (matches t segment) (IsTrue (is_scoring t)) (IsTrue (trees_scoring trees)) _ (score t b segment) []
      nothing (tree_scores trees b segment) (lists D (there found)) (said-found trees found h.1)
      (λ both. (both_true (is_scoring t) (trees_scoring trees) both).0) (λ both. (both_true (is_scoring t) (trees_scoring trees) both).1))
  said-found (t ∷ trees) (Some s ∷ found) h =
      let n = length segment.documents in
      let own : IsListing n (matches t segment) (IsTrue (is_scoring t)) (score t b segment) (bare (D.entries s)) = record {
        documents = h.0.list.documents;
        scores = h.0.list.scores;
      } in
      let_go n _ _ (bare (D.entries s) ∷ lists D (there found)) (D.entries s ∷ lists D (there found))
      (λ d. scores_at-cons d (D.entries s) (lists D (there found)) ∙ ap (λ r. r ++ scores_at d (lists D (there found))) (sym (scores-seen d (D.entries s)))
      ∙ sym (scores_at-cons d (bare (D.entries s)) (lists D (there found))))
      (AreSaid-cons n (matches t segment) (IsTrue (is_scoring t)) (IsTrue (trees_scoring trees)) _ (score t b segment)
      (bare (D.entries s)) own (tree_scores trees b segment) (lists D (there found)) (said-found trees found h.1)
      (λ both. (both_true (is_scoring t) (trees_scoring trees) both).0) (λ both. (both_true (is_scoring t) (trees_scoring trees) both).1))

  -- a tree that matches nothing says of no document what it scores
  nothing-said : (t : Tree) (d : ℕ) → d < length segment.documents → IsListOf t b segment [] → one_said (matches t segment) (score t b segment) d ≡ []
  nothing-said t d below h =
      no_length _ (sym (number-here (length segment.documents) (matches t segment) (IsTrue (is_scoring t)) (score t b segment) []
      (listing-of t b segment [] h) d below) ∙ ap (λ es. length (map (λ e. e.score) es)) (entries_of-nil d))

  -- so where a cursor is not there, fewer trees match a document than there are
  fewer-found : (trees : List Tree) (found : List (Option S)) (d : ℕ) → d < length segment.documents → AreFound D b segment trees found →
      length (there found) < length trees → length (tree_scores trees b segment d) < length trees
  fewer-found [] [] d below h less = absurd (omega (arith, less))
  fewer-found [] (f ∷ found) d below h less = absurd h
  fewer-found (t ∷ trees) [] d below h less = absurd h
  fewer-found (t ∷ trees) (None ∷ found) d below h less =
      omega (arith, ap (λ l. length (l ++ tree_scores trees b segment d)) (nothing-said t d below h.0), most-of b segment d trees)
  fewer-found (t ∷ trees) (Some s ∷ found) d below h less =
      let one = one_said (matches t segment) (score t b segment) d in
      let others = fewer-found trees found d below h.1 (omega (arith, less)) in
      omega (arith, others, length-append one (tree_scores trees b segment d), one_or_fewer (matches t segment d) (score t b segment d))

  tops-found : (trees : List Tree) (found : List (Option S)) → AreFound D b segment trees found →
      total_top (bounds D (there found)) ≤ tree_bounds trees b
  tops-found [] [] h = omega arith
  tops-found [] (f ∷ found) h = absurd h
  tops-found (t ∷ trees) [] h = absurd h
  tops-found (t ∷ trees) (None ∷ found) h = omega (arith, tops-found trees found h.1)
  tops-found (t ∷ trees) (Some s ∷ found) h =
      omega (arith, h.0.top, tops-found trees found h.1, sum_by-cons (λ l. l.top) (D.limits s) (bounds D (there found)))

  placed-found : (trees : List Tree) (found : List (Option S)) → AreFound D b segment trees found → ArePlaced D (there found)
  placed-found [] [] h = record { valid = All-nil D.valid; placed = All-nil D.placed }
  placed-found [] (f ∷ found) h = absurd h
  placed-found (t ∷ trees) [] h = absurd h
  placed-found (t ∷ trees) (None ∷ found) h = placed-found trees found h.1
  placed-found (t ∷ trees) (Some s ∷ found) h =
      let others = placed-found trees found h.1 in
      record {
        valid = All-cons D.valid s (there found) h.0.placed.valid others.valid;
        placed = All-cons D.placed s (there found) h.0.placed.placed others.placed;
      }

  few-found : (trees : List Tree) (found : List (Option S)) → AreFound D b segment trees found → length (there found) ≤ length trees
  few-found [] [] h = omega arith
  few-found [] (f ∷ found) h = absurd h
  few-found (t ∷ trees) [] h = absurd h
  few-found (t ∷ trees) (None ∷ found) h = omega (arith, few-found trees found h.1)
  few-found (t ∷ trees) (Some s ∷ found) h = omega (arith, few-found trees found h.1)

  -- of trees there are no more cursors than there are trees
  few-cursors : (trees : List Tree) (cursors : List S) → AreTreeCursors D trees b segment cursors → length cursors ≤ length trees
  few-cursors trees cursors h = omega (arith, ap length h.2, few-found trees h.0 h.1)

  -- the cursors of trees stand on their first documents
  pub placed-cursors : (trees : List Tree) (cursors : List S) → AreTreeCursors D trees b segment cursors → ArePlaced D cursors
  placed-cursors trees cursors h = subst (ArePlaced D) (sym h.2) (placed-found trees h.0 h.1)

  -- their bounds together are within those of the trees
  tops-cursors : (trees : List Tree) (cursors : List S) → AreTreeCursors D trees b segment cursors → total_top (bounds D cursors) ≤ tree_bounds trees b
  tops-cursors trees cursors h = omega (arith, ap (λ ss. total_top (bounds D ss)) h.2, tops-found trees h.0 h.1)

  -- and so a score where the clauses fit
  pub fitting-should : (rule : BooleanRule) (clauses : Clauses) (cursors : List S) → AreTreeCursors D (clause_trees clauses Should) b segment cursors →
      Fits (rule_tree rule clauses) b → total_top (bounds D cursors) ≤ greatest_score
  fitting-should rule clauses cursors h fits =
      omega (arith, tops-cursors (clause_trees clauses Should) cursors h, bounds-of clauses b, fits.0.bound_fits)

  pub fitting-must : (rule : BooleanRule) (clauses : Clauses) (cursors : List S) → AreTreeCursors D (clause_trees clauses Must) b segment cursors →
      Fits (rule_tree rule clauses) b → total_top (bounds D cursors) ≤ greatest_score
  fitting-must rule clauses cursors h fits =
      omega (arith, tops-cursors (clause_trees clauses Must) cursors h, bounds-of clauses b, fits.0.bound_fits)

  -- what they list
  said-cursors : (trees : List Tree) (cursors : List S) → AreTreeCursors D trees b segment cursors →
      AreSaid (length segment.documents) (IsTrue (trees_scoring trees)) (tree_scores trees b segment) (lists D cursors)
  said-cursors trees cursors h =
      subst (λ ss. AreSaid (length segment.documents) (IsTrue (trees_scoring trees)) (tree_scores trees b segment) (lists D ss)) (sym h.2)
      (said-found trees h.0 h.1)

-- ---- clauses that all occur alike

-- there is no clause that occurs otherwise
abbrev pub AreAlone : Occur → Clauses → Type 0
AreAlone kind clauses = (other : Occur) → occurs_as other kind ≡ false → clause_trees clauses other ≡ []

module _ {X : Type 0} (occur : X → Occur) (tree : X → Tree) (kind : Occur) where
  pub all-alone : (xs : List X) → All (λ x. occur x ≡ kind) xs → AreAlone kind (clauses_by occur tree xs)
  all-alone [] h = λ wanted other. refl
  all-alone (x ∷ xs) h =
      let P : X → Type 0 = λ y. occur y ≡ kind in
      λ wanted other.
      let rest = clause_trees (clauses_by occur tree xs) wanted in
      ap (λ o. if occurs_as wanted o then tree x ∷ rest else rest) (All-head P x xs h)
      ∙ ap (λ v. if v then tree x ∷ rest else rest) other ∙ all-alone xs (All-tail P x xs h) wanted other

  -- the trees of these are all trees
  pub all-trees : (xs : List X) → All (λ x. occur x ≡ kind) xs → clause_trees (clauses_by occur tree xs) kind ≡ map tree xs
  all-trees [] h = refl
  all-trees (x ∷ xs) h =
      let P : X → Type 0 = λ y. occur y ≡ kind in
      let rest = clause_trees (clauses_by occur tree xs) kind in
      ap (λ o. if occurs_as kind o then tree x ∷ rest else rest) (All-head P x xs h)
      ∙ ap (λ v. if v then tree x ∷ rest else rest) (occurs-same kind) ∙ ap (λ r. tree x ∷ r) (all-trees xs (All-tail P x xs h))

  -- so the cursors of all are those of these
  pub all-cursors : {S : Type 0} (D : Ghosts S) (b : ℕ) (segment : Segment) (xs : List X) (cursors : List S) → All (λ x. occur x ≡ kind) xs →
      AreTreeCursors D (map tree xs) b segment cursors → AreTreeCursors D (clause_trees (clauses_by occur tree xs) kind) b segment cursors
  all-cursors D b segment xs cursors all found = subst (λ ts. AreTreeCursors D ts b segment cursors) (sym (all-trees xs all)) found

-- no clause must not match
all_wanted : (clauses : Clauses) → clause_trees clauses MustNot ≡ [] → without_must_not clauses ≡ clauses
all_wanted no_clause h = refl
all_wanted (clause Must tree clauses) h = ap (clause Must tree) (all_wanted clauses h)
all_wanted (clause Should tree clauses) h = ap (clause Should tree) (all_wanted clauses h)
all_wanted (clause MustNot tree clauses) h = absurd (omega (arith, ap length h))

-- ---- one clause more

pub cursors-step : {S X : Type 0} (D : Ghosts S) (tree : X → Tree) (b : ℕ) (segment : Segment) (xs : List X) (i : ℕ)
    (x : X) (cursors after : List S) (s : Option S) →
    x ≡ get_or xs i x → i < length xs → AreTreeCursors D (map tree (take i xs)) b segment cursors →
    IsLeafOf D (tree x) b segment s → after ≡ cursors ++ there (s ∷ []) → AreTreeCursors D (map tree (take (i + 1) xs)) b segment after
cursors-step D tree b segment xs i x cursors after s is within h one added =
    let trees : map tree (take (i + 1) xs) ≡ map tree (take i xs) ++ tree x ∷ [] =
    ap (map tree) (more_clauses xs i x is within) ∙ map-append tree (take i xs) (x ∷ []) in
    subst (λ ts. AreTreeCursors D ts b segment after) (sym trees) (cursors-push D b segment (map tree (take i xs)) (tree x) cursors after s h one added)

-- ---- what enough of the cursors have, which is their union where one is enough

module _ {S : Type 0} (D : Ghosts S) (rule : BooleanRule) (clauses : Clauses) (b : ℕ) (segment : Segment)
    (few : length segment.documents ≤ TERMINATED) (alone : AreAlone Should clauses) (least : ℕ) (needed : max rule.minimum_number_should_match 1 ≡ least)
    (cursors : List S) (found : AreTreeCursors D (clause_trees clauses Should) b segment cursors) where
  -- what the cursors list together is the list of the clauses, where their scores are combined as the rule has it
  pub list-united : (combined : List ℕ → ℕ) → (IsTrue rule.scoring_enabled → CombinesAs rule.score_combiner combined) →
      IsListOf (rule_tree rule clauses) b segment (gather least combined (lists D cursors))
  list-united combined same =
      let n = length segment.documents in
      let mt = clause_trees clauses Must in
      let st = clause_trees clauses Should in
      let minimum = rule.minimum_number_should_match in
      let combiner = rule.score_combiner in
      let es = gather least combined (lists D cursors) in
      let some : 1 ≤ least = omega (arith, needed) in
      let none = ap length (alone Must refl) in
      let whole = all_wanted clauses (alone MustNot refl) in
      let said = said-cursors D b segment st cursors found in
      let made = IsListing-gather n (IsTrue (trees_scoring st)) (tree_scores st b segment) (lists D cursors) said least combined some few in
      let tests : (d : ℕ) → nat_le least (length (tree_scores st b segment d)) ≡ is_wanted minimum (length mt) (tree_scores mt b segment d)
      (tree_scores st b segment d) = λ d. ap (λ k. nat_le k (length (tree_scores st b segment d))) (sym needed)
      ∙ wanted-test minimum clauses b segment d none in
      let listed : IsListOf (boolean rule.scoring_enabled minimum (combiner_of combiner) (without_must_not clauses)) b segment es =
      elim (cases_Bool rule.scoring_enabled) [
        | inl on ↦
            list-wanted rule.scoring_enabled minimum combiner clauses b segment es (IsListing-same n _ _ _ _ _ _ es (λ k. on-should clauses k)
            (λ d below. tests d)
            (λ k d below passed. omega (
              arith,
              same on (tree_scores st b segment d),
              combined-some combiner (tree_scores st b segment d) (omega (arith, some, leb-true _ _ passed)),
              ap sum (none-said mt b segment d none),
            )) made)
        | inr off ↦
            list-unscored rule.scoring_enabled minimum combiner clauses b segment es off (IsListing-same n _ _ _ ⊥ _ (λ d. 0) es (λ none. absurd none)
            (λ d below. tests d) (λ none. absurd none) made)
      ] in
      subst (λ cs. IsListOf (boolean rule.scoring_enabled minimum (combiner_of combiner) cs) b segment es) whole listed

  -- so a placed scorer of it is one of the clauses
  pub united : {U : Type 0} (E : Ghosts U) (combined : List ℕ → ℕ) → (IsTrue rule.scoring_enabled → CombinesAs rule.score_combiner combined) → (s : U) →
      ListsGathered E D least combined cursors s → IsScorerOf E (rule_tree rule clauses) b segment s
  united E combined same s made = record {
    list = subst (λ es. IsListOf (rule_tree rule clauses) b segment es) (sym made.entries) (list-united combined same);
    top = omega (arith, ap (λ l. l.top) made.limits, tops-cursors D b segment (clause_trees clauses Should) cursors found, bounds-of clauses b);
    placed = record { valid = made.valid; placed = made.placed };
  }

  -- where one is enough they are cursors of which a run by blocks is one over the clauses
  pub together : ListTogether D least (any_combined rule.score_combiner) (rule_tree rule clauses) b segment cursors
  together = record {
    placed = placed-cursors D b segment (clause_trees clauses Should) cursors found;
    list = list-united (any_combined rule.score_combiner) (λ on scores. refl);
    within = fitting-should D b segment rule clauses cursors found;
  }

-- ---- what all of the cursors have

module _ {S : Type 0} (D : Ghosts S) (rule : BooleanRule) (clauses : Clauses) (b : ℕ) (segment : Segment)
    (few : length segment.documents ≤ TERMINATED) (alone : AreAlone Must clauses)
    (cursors : List S) (found : AreTreeCursors D (clause_trees clauses Must) b segment cursors) where
  -- where all are there, that is the list of the clauses, each document with the sum of its scores
  list-shared : rule.minimum_number_should_match ≡ 0 → 1 ≤ length cursors → length (clause_trees clauses Must) ≤ length cursors →
      IsListOf (rule_tree rule clauses) b segment (gather (length cursors) sum (lists D cursors))
  list-shared none_needed some all =
      let n = length segment.documents in
      let mt = clause_trees clauses Must in
      let minimum = rule.minimum_number_should_match in
      let combiner = rule.score_combiner in
      let es = gather (length cursors) sum (lists D cursors) in
      let same : length cursors ≡ length mt = omega (arith, all, few-cursors D b segment mt cursors found) in
      let made = IsListing-gather n (IsTrue (trees_scoring mt)) (tree_scores mt b segment) (lists D cursors) (said-cursors D b segment mt cursors found)
      (length cursors) sum some few in
      let listed = subst (λ k. IsListing n (λ d. nat_le k (length (tree_scores mt b segment d))) (IsTrue (trees_scoring mt))
      (λ d. sum (tree_scores mt b segment d)) es) same made in
      subst (λ cs. IsListOf (boolean rule.scoring_enabled minimum (combiner_of combiner) cs) b segment es) (all_wanted clauses (alone MustNot refl))
      (list-wanted rule.scoring_enabled minimum combiner clauses b segment es (must-wanted minimum combiner clauses b segment es none_needed
      (ap length (alone Should refl)) (omega (arith, some, same)) listed))

  -- where one is not there, no document is listed
  pub list-missing : length cursors < length (clause_trees clauses Must) → IsListOf (rule_tree rule clauses) b segment []
  list-missing less =
      let minimum = rule.minimum_number_should_match in
      let combiner = rule.score_combiner in
      subst (λ cs. IsListOf (boolean rule.scoring_enabled minimum (combiner_of combiner) cs) b segment []) (all_wanted clauses (alone MustNot refl))
      (list-wanted rule.scoring_enabled minimum combiner clauses b segment [] (must-missing minimum combiner clauses b segment
      (λ d below. fewer-found D b segment (clause_trees clauses Must) found.0 d below found.1 (omega (arith, less, ap length found.2)))))

  -- so a run over all is one over the clauses
  pub all-together : rule.minimum_number_should_match ≡ 0 → 1 ≤ length cursors → length (clause_trees clauses Must) ≤ length cursors →
      ListTogether D (length cursors) sum (rule_tree rule clauses) b segment cursors
  all-together none_needed some all = record {
    placed = placed-cursors D b segment (clause_trees clauses Must) cursors found;
    list = list-shared none_needed some all;
    within = fitting-must D b segment rule clauses cursors found;
  }

-- what refuses a run over cursors whose bounds together are a score where the tree fits
pub refused-together : {S : Type 0} (D : Ghosts S) (tree : Tree) (b : ℕ) (cursors : List S) →
    (Fits tree b → total_top (bounds D cursors) ≤ greatest_score) → {X : Type 0} (r : Result X QueryError) → IfErr r IsBoundOrMemory →
    (IsErrOf r ScoreBound → greatest_score < total_top (bounds D cursors)) → IfErr r (IsRefusalOf tree b)
refused-together D tree b cursors within (Ok x) only past = tt
refused-together D tree b cursors within (Err ScoreBound) only past = λ fits. absurd (omega (arith, past refl, within fits))
refused-together D tree b cursors within (Err Memory) only past = tt
refused-together D tree b cursors within (Err e) only past = absurd only
