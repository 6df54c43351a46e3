-- Scorers of terms among those of a Boolean's clauses are the cursors of these clauses.
use Rattle.std.specs.Prelude.{◌≡◌, ℕ, ◌≤◌, false, All, List, [], ◌∷◌, ◌++◌, length, map, sum}
use Rattle.std.proofs.Common.{arith, refl, ap, ◌∙◌, true≢false}
use Rattle.std.proofs.lemmas.List.{map-append}
use Rattle.std.proofs.lemmas.List.Elements.{All-head, All-tail}
use Rattle.qm_docset.specs.declared.docset.DocSet.{Ghosts}
use Rattle.qm_docset.specs.declared.numbers.TheConstants.{TERMINATED}
use Rattle.qm_postings.specs.Segment.{Segment}
use Rattle.qm_schema.specs.declared.occur.Occur.{Occur}
use Rattle.qm_schema.specs.declared.occur.Occur.TheVariants.{Should, Must, MustNot}
use Rattle.qm_scorer.specs.AnyCombiner.{any_combined}
use Rattle.qm_scorer.specs.Tree.{IsTree, IsTreePlaced, tree_entries, tree_limits}
use Rattle.qm_scorer.specs.declared.any_scorer.AnyScorer.{AnyScorer, Empty, Term}
use Rattle.qm_weight.specs.ClauseScorers.{AreClauseScorers, AreScorersOf, clause_trees, members_of}
use Rattle.qm_weight.specs.TermRows.{IsOfAllTerms, IsOfTerms, IsTermOrEmpty, term_in, terms_of}
use Rattle.qm_weight.specs.TermUnions.{AreFound, AreTreeCursors, ListTogether, there}
use Rattle.qm_weight.specs.Tree.{Clauses, Tree, occurs_as}
use Rattle.qm_weight.specs.Weights.{boolean_tree, clauses_from}
use Rattle.qm_weight.specs.declared.boolean_weight.BooleanWeight.{BooleanWeight}
use Rattle.qm_weight.specs.declared.boolean_weight.clauses.ClauseScorers.{ClauseScorers}
use Rattle.qm_weight.specs.declared.boolean_weight.rule.BooleanRule.{BooleanRule}
use Rattle.qm_weight.proofs.TermRuns.{of_terms}
use Rattle.qm_weight.proofs.TermUnions.{AreAlone, all-together, there-push, together}
use Rattle.qm_weight.proofs.TreeRows.{length-of}

pub terms-push : {S : Type 0} (taken : List (AnyScorer S)) (x : AnyScorer S) → terms_of (taken ++ x ∷ []) ≡ terms_of taken ++ there (term_in x ∷ [])
terms-push taken x = ap there (map-append term_in taken (x ∷ [])) ∙ there-push (map term_in taken) (term_in x)

module _ {S : Type 0} (D : Ghosts S) where
  -- the ghost members of a tree of scorers over these cursors
  abbrev of_trees : Ghosts (AnyScorer S)
  of_trees = record {
    entries = tree_entries D;
    limits = tree_limits D;
    keeps = λ _ _. Unit {0};
    placed = IsTreePlaced D;
    valid = IsTree D;
  }

  -- each is a leaf's own scorer, or lists nothing
  pub found-terms : (b : ℕ) (segment : Segment) (trees : List Tree) (members : List (AnyScorer S)) → AreScorersOf of_trees b segment trees members →
      All IsTermOrEmpty members → AreFound of_terms b segment trees (map term_in members)
  found-terms b segment [] [] rows terms = tt
  found-terms b segment [] (s ∷ members) rows terms = absurd rows
  found-terms b segment (t ∷ trees) [] rows terms = absurd rows
  found-terms b segment (t ∷ trees) (Term s ∷ members) rows terms = (
    record { list = rows.0.list; top = rows.0.top; placed = record { valid = rows.0.placed.valid; placed = tt } },
    found-terms b segment trees members rows.1 (All-tail IsTermOrEmpty (Term s) members terms),
  )
  found-terms b segment (t ∷ trees) (Empty s ∷ members) rows terms =
      (rows.0.list, found-terms b segment trees members rows.1 (All-tail IsTermOrEmpty (Empty s) members terms))
  found-terms b segment (t ∷ trees) (s ∷ members) rows terms = absurd (All-head IsTermOrEmpty s members terms)

  no_trees : (b : ℕ) (segment : Segment) (trees : List Tree) (members : List (AnyScorer S)) → AreScorersOf of_trees b segment trees members →
      length members ≡ 0 → trees ≡ []
  no_trees b segment [] [] rows none = refl
  no_trees b segment [] (s ∷ members) rows none = absurd rows
  no_trees b segment (t ∷ trees) [] rows none = absurd rows
  no_trees b segment (t ∷ trees) (s ∷ members) rows none = absurd (omega (arith, none))

  -- the trees of the other clauses, where these have no scorers
  alone_among : (clauses : Clauses) (b : ℕ) (segment : Segment) (scorers : ClauseScorers S) (kind : Occur) →
      AreClauseScorers of_trees clauses b segment scorers →
      ((other : Occur) → occurs_as other kind ≡ false → length (members_of other scorers) ≡ 0) → AreAlone kind clauses
  alone_among clauses b segment scorers kind rows none =
      λ other differs. no_trees b segment (clause_trees clauses other) (members_of other scorers) (rows other) (none other differs)

  should_alone : (rule : BooleanRule) (scorers : ClauseScorers S) → IsOfTerms rule scorers →
      (other : Occur) → occurs_as other Should ≡ false → length (members_of other scorers) ≡ 0
  should_alone rule scorers seen Should differs = absurd (true≢false differs)
  should_alone rule scorers seen Must differs = seen.no_must
  should_alone rule scorers seen MustNot differs = seen.no_must_not

  must_alone : (rule : BooleanRule) (scorers : ClauseScorers S) → IsOfAllTerms rule scorers →
      (other : Occur) → occurs_as other Must ≡ false → length (members_of other scorers) ≡ 0
  must_alone rule scorers seen Should differs = seen.no_should
  must_alone rule scorers seen Must differs = absurd (true≢false differs)
  must_alone rule scorers seen MustNot differs = seen.no_must_not

  -- so the scorers of terms are the cursors of their clauses
  found_among : (clauses : Clauses) (b : ℕ) (segment : Segment) (scorers : ClauseScorers S) (kind : Occur) →
      AreClauseScorers of_trees clauses b segment scorers → All IsTermOrEmpty (members_of kind scorers) →
      AreTreeCursors of_terms (clause_trees clauses kind) b segment (terms_of (members_of kind scorers))
  found_among clauses b segment scorers kind rows terms = (
    map term_in (members_of kind scorers),
    found-terms b segment (clause_trees clauses kind) (members_of kind scorers) (rows kind) terms,
    refl,
  )

  module _ (w : BooleanWeight) (b : ℕ) (segment : Segment) (few : length segment.documents ≤ TERMINATED) (scorers : ClauseScorers S)
      (rows : AreClauseScorers of_trees (clauses_from w.weights.items) b segment scorers) where
    -- so a run by blocks over the scorers of terms is one over the Boolean
    pub terms-together : IsOfTerms w.rule scorers →
        ListTogether of_terms 1 (any_combined w.rule.score_combiner) (boolean_tree w) b segment (terms_of scorers.should.items)
    terms-together seen =
        let clauses = clauses_from w.weights.items in
        together of_terms w.rule clauses b segment few (alone_among clauses b segment scorers Should rows (should_alone w.rule scorers seen)) 1
        (omega (arith, seen.least)) (terms_of scorers.should.items) (found_among clauses b segment scorers Should rows seen.terms)

    -- and one over the documents that all have
    pub all_terms-together : IsOfAllTerms w.rule scorers →
        ListTogether of_terms (length (terms_of scorers.must.items)) sum (boolean_tree w) b segment (terms_of scorers.must.items)
    all_terms-together seen =
        let clauses = clauses_from w.weights.items in
        let many = length-of of_trees b segment (clause_trees clauses Must) scorers.must.items (rows Must) in
        all-together of_terms w.rule clauses b segment few (alone_among clauses b segment scorers Must rows (must_alone w.rule scorers seen))
        (terms_of scorers.must.items) (found_among clauses b segment scorers Must rows seen.terms) seen.least
        (omega (arith, seen.some, seen.present)) (omega (arith, many, seen.present))
