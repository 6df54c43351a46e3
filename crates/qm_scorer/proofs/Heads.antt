-- The document that a placed tree stands on is the first that it lists.
use Rattle.std.specs.Prelude.{◌≡◌, ℕ, ◌*◌, ◌<◌, ◌≤◌, List, [], ◌∷◌, map, All}
use Rattle.std.proofs.Common.{arith, refl, sym, ap, ◌∙◌, subst}
use Rattle.std.proofs.lemmas.List.Elements.{All-cons, All-head, All-nil, All-tail}
use Rattle.qm_docset.specs.Entry.{AreEntries, greatest_score, head_document, head_score}
use Rattle.qm_docset.specs.Gather.{common_entries}
use Rattle.qm_docset.specs.declared.docset.DocSet.{Ghosts}
use Rattle.qm_docset.specs.declared.numbers.TheConstants.{TERMINATED}
use Rattle.qm_combine.proofs.Leading.{head_document-together}
use Rattle.qm_combine.specs.HeldSum.{held_sum}
use Rattle.qm_combine.specs.Rescored.{rescored}
use Rattle.qm_combine.specs.RescoredFacts.{head_document-rescored}
use Rattle.qm_combine.specs.WithoutFacts.{head_document-without}
use Rattle.qm_scorer.specs.Bare.{IsBounded}
use Rattle.qm_scorer.specs.BareFacts.{head_document-bare}
use Rattle.qm_scorer.specs.MoveFacts.{product-fits}
use Rattle.qm_scorer.specs.Tree.{IsRow, IsRowPlaced, IsTree, IsTreePlaced, StandAt, row_limits, row_lists, tree_entries, tree_head, tree_limits}
use Rattle.qm_scorer.specs.TreeFacts.{tree-ascends}
use Rattle.qm_scorer.specs.declared.any_scorer.AnyScorer.{AnyScorer, Row_of-AnyScorer, end_of-AnyScorer, more_of-AnyScorer, items-the_row-AnyScorer}
use Rattle.qm_scorer.specs.declared.any_scorer.AnyScorer.{All as Every, BitSet, Boost', Const', Disjunction', Empty, Exclude', Intersection', Own, Phrase}
use Rattle.qm_scorer.specs.declared.any_scorer.AnyScorer.{PhrasePrefix, RequiredOptional', Term, Union'}

-- what holds of what is read of each holds of each
pub All-unmap : {X Y : Type 0} (P : Y → Type 0) (f : X → Y) (xs : List X) → All P (map f xs) → All (λ x. P (f x)) xs
All-unmap P f [] h = All-nil (λ x. P (f x))
All-unmap P f (x ∷ xs) h = All-cons (λ y. P (f y)) x xs (All-head P (f x) (map f xs) h) (All-unmap P f xs (All-tail P (f x) (map f xs) h))

-- ---- a row of trees as the list of its items

module _ {S : Type 0} (D : Ghosts S) where
  pub row_lists-items : (n : _) (row : Row_of-AnyScorer S n) → row_lists D row ≡ map (tree_entries D) (items-the_row-AnyScorer S n row)
  row_lists-items n end_of-AnyScorer = refl
  row_lists-items n (more_of-AnyScorer x others) = ap (λ r. tree_entries D x ∷ r) (row_lists-items _ others)

  pub row_limits-items : (n : _) (row : Row_of-AnyScorer S n) → row_limits D row ≡ map (tree_limits D) (items-the_row-AnyScorer S n row)
  row_limits-items n end_of-AnyScorer = refl
  row_limits-items n (more_of-AnyScorer x others) = ap (λ r. tree_limits D x ∷ r) (row_limits-items _ others)

  pub IsRow-items : (n : _) (row : Row_of-AnyScorer S n) → IsRow D row → All (IsTree D) (items-the_row-AnyScorer S n row)
  IsRow-items n end_of-AnyScorer h = All-nil (IsTree D)
  IsRow-items n (more_of-AnyScorer x others) h = All-cons (IsTree D) x _ h.0 (IsRow-items _ others h.1)

  pub items-IsRow : (n : _) (row : Row_of-AnyScorer S n) → All (IsTree D) (items-the_row-AnyScorer S n row) → IsRow D row
  items-IsRow n end_of-AnyScorer h = tt
  items-IsRow n (more_of-AnyScorer x others) h = (All-head (IsTree D) x _ h, items-IsRow _ others (All-tail (IsTree D) x _ h))

  pub IsRowPlaced-items : (n : _) (row : Row_of-AnyScorer S n) → IsRowPlaced D row → All (IsTreePlaced D) (items-the_row-AnyScorer S n row)
  IsRowPlaced-items n end_of-AnyScorer h = All-nil (IsTreePlaced D)
  IsRowPlaced-items n (more_of-AnyScorer x others) h = All-cons (IsTreePlaced D) x _ h.0 (IsRowPlaced-items _ others h.1)

  pub items-IsRowPlaced : (n : _) (row : Row_of-AnyScorer S n) → All (IsTreePlaced D) (items-the_row-AnyScorer S n row) → IsRowPlaced D row
  items-IsRowPlaced n end_of-AnyScorer h = tt
  items-IsRowPlaced n (more_of-AnyScorer x others) h = (All-head (IsTreePlaced D) x _ h, items-IsRowPlaced _ others (All-tail (IsTreePlaced D) x _ h))

-- ---- where trees stand

module _ {S : Type 0} (D : Ghosts S) where
  -- a leader that stands on a document with all others stands on the first that all have
  head_document-led : ((s : S) → D.valid s → AreEntries 0 (D.limits s) (D.entries s)) → (leader : AnyScorer S) (n : _) (row : Row_of-AnyScorer S n) → IsTree
      D leader → IsRow D row → (head_document (tree_entries D leader) < TERMINATED → StandAt D (head_document (tree_entries D leader)) (row_lists D row)) →
      head_document (tree_entries D leader) ≡ head_document (common_entries held_sum (tree_entries D leader ∷ row_lists D row))
  head_document-led own leader n row h others together =
      let items = items-the_row-AnyScorer S n row in
      let same = row_lists-items D n row in
      let Stands : AnyScorer S → Type 0 = λ x. IsTree D x × (head_document (tree_entries D x) ≡ head_document (tree_entries D leader)) in
      let all = IsRow-items D n row others in
      let here : head_document (tree_entries D leader) < TERMINATED → All Stands items = λ below k d less. (
        all k d less,
        All-unmap (λ es. head_document es ≡ head_document (tree_entries D leader)) (tree_entries D) items
            (subst (All (λ es. head_document es ≡ head_document (tree_entries D leader))) same (together below)) k d less,
      ) in
      head_document-together (IsTree D) (tree_limits D) (tree_entries D) (tree-ascends D own) held_sum
      (IsTree D) _ (tree_entries D leader) items (tree-ascends D own leader h) all here
      ∙ ap (λ ess. head_document (common_entries held_sum (tree_entries D leader ∷ ess))) (sym same)

  -- where it is placed it stands on the first of its documents
  pub tree-head : ((s : S) → D.valid s → AreEntries 0 (D.limits s) (D.entries s)) → (x : AnyScorer S) →
      IsTree D x → IsTreePlaced D x → tree_head D x ≡ head_document (tree_entries D x)
  tree-head own (Empty s) h here = refl
  tree-head own (Every s) h here = sym (head_document-bare _)
  tree-head own (Own s) h here = sym (head_document-bare _)
  tree-head own (Term s) h here = sym (head_document-bare _)
  tree-head own (BitSet s) h here = sym (head_document-bare _)
  tree-head own (Phrase s) h here = sym (head_document-bare _)
  tree-head own (PhrasePrefix s) h here = sym (head_document-bare _)
  tree-head own (Boost' p inner boost top) h here = tree-head own inner h.0 here ∙ sym (head_document-rescored _ _)
  tree-head own (Const' p inner score) h here = tree-head own inner h.0 here ∙ sym (head_document-rescored _ _)
  tree-head own (RequiredOptional' p required optional top) h here = tree-head own required h.0 here ∙ sym (head_document-rescored _ _)
  tree-head own (Exclude' p inner out top) h here = tree-head own inner h.0 here.0 ∙ sym (head_document-without _ 0 _ _ (tree-ascends D own inner h.0) here.1)
  tree-head own (Union' p room row window ahead doc span top) h here = h.2.standing.first
  tree-head own (Disjunction' p room row heads shape current) h here = h.2.first
  tree-head own (Intersection' p leader room row num_docs top) h here = tree-head own leader h.0 here.0
      ∙ head_document-led own leader _ row h.0 h.1 (λ below. (here.1 below).1)

  pub tree-here : ((s : S) → D.valid s → AreEntries 0 (D.limits s) (D.entries s)) → (x : AnyScorer S) →
      IsTree D x → IsTreePlaced D x → tree_head D x < TERMINATED → head_document (tree_entries D x) < TERMINATED
  tree-here own x h placed here = omega (arith, tree-head own x h placed)

  -- a product that is bounded is a score
  pub boost-fits : ((s : S) → D.valid s → AreEntries 0 (D.limits s) (D.entries s)) → (x : AnyScorer S) (boost top : ℕ) → IsTree D x → IsTreePlaced D x →
      tree_head D x < TERMINATED → IsBounded top (rescored (λ e. e.score * boost) (tree_entries D x)) → head_score (tree_entries D x) * boost ≤ greatest_score
  boost-fits own x boost top h placed here bounded = product-fits boost top (tree_entries D x) (tree-here own x h placed here) bounded
