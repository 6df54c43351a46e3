-- What a call leaves of a tree: each record says what one kind of call answers and what the tree is after
-- it. `tree` is the tree before the call and `after` the tree after it.
use Rattle.std.specs.Prelude.{◌≡◌, ℕ, ◌≤◌, List, [], drop, length, min, take}
use Rattle.qm_docset.specs.Cursor.{IsSeekAnswer, OnFound}
use Rattle.qm_docset.specs.Entry.{Entry, documents, from, greatest_score, head_document, head_score}
use Rattle.qm_docset.specs.declared.docset.DocSet.{Ghosts}
use Rattle.qm_docset.specs.declared.docset.SeekDangerResult.{SeekDangerResult}
use Rattle.qm_combine.specs.Added.{IsTakenIn}
use Rattle.qm_combine.specs.declared.union.window.Window.{Window}
use Rattle.qm_scorer.specs.AnyCombiner.{any_step}
use Rattle.qm_scorer.specs.Tree.{IsTree, IsTreePlaced, tree_entries, tree_head, tree_top}
use Rattle.qm_scorer.specs.declared.any_combiner.AnyCombiner.{AnyCombiner}
use Rattle.qm_scorer.specs.declared.any_scorer.AnyScorer.{AnyScorer, size-AnyScorer}

module _ {S : Type 0} (D : Ghosts S) where
  -- ---- moves, scores and windows: the tree is no deeper than before, so a call may go on with it

  -- it dropped what lies below a target
  pub record Moved (target : ℕ) (tree after : AnyScorer S) : Type 0 where
    pub entries : tree_entries D after ≡ from target (tree_entries D tree)
    pub top : tree_top D after ≡ tree_top D tree
    pub valid : IsTree D after
    pub depth : size-AnyScorer S after ≤ size-AnyScorer S tree

  -- .. and went to the first document that is left, which is the answer
  pub record Sought (target : ℕ) (tree after : AnyScorer S) (doc : ℕ) : Type 0 where
    pub head : doc ≡ head_document (tree_entries D after)
    pub entries : tree_entries D after ≡ from target (tree_entries D tree)
    pub top : tree_top D after ≡ tree_top D tree
    pub valid : IsTree D after
    pub placed : IsTreePlaced D after
    pub depth : size-AnyScorer S after ≤ size-AnyScorer S tree

  -- .. and said whether the target is the first that is left; where it is not, the tree may stand nowhere
  pub record Answered (target : ℕ) (tree after : AnyScorer S) (answer_is : SeekDangerResult) : Type 0 where
    pub answer : IsSeekAnswer target (tree_entries D after) answer_is
    pub entries : tree_entries D after ≡ from target (tree_entries D tree)
    pub top : tree_top D after ≡ tree_top D tree
    pub valid : IsTree D after
    pub placed : OnFound answer_is (IsTreePlaced D after)
    pub depth : size-AnyScorer S after ≤ size-AnyScorer S tree

  -- .. and added to a window what it had below, where the target is called a bound
  pub record Swept (window_before window_after : Window AnyCombiner) (bound : ℕ) (tree after : AnyScorer S) (doc : ℕ) : Type 0 where
    pub head : doc ≡ head_document (tree_entries D after)
    pub entries : tree_entries D after ≡ from bound (tree_entries D tree)
    pub top : tree_top D after ≡ tree_top D tree
    pub valid : IsTree D after
    pub placed : IsTreePlaced D after
    pub depth : size-AnyScorer S after ≤ size-AnyScorer S tree
    pub taken : IsTakenIn any_step window_before window_after bound (tree_entries D tree)

  -- it was asked for its score, and stands and lists as before
  pub record Scored (tree after : AnyScorer S) (given : ℕ) : Type 0 where
    pub score : given ≡ head_score (tree_entries D tree)
    pub fits : given ≤ greatest_score
    pub entries : tree_entries D after ≡ tree_entries D tree
    pub top : tree_top D after ≡ tree_top D tree
    pub valid : IsTree D after
    pub placed : IsTreePlaced D after
    pub head : tree_head D after ≡ tree_head D tree
    pub depth : size-AnyScorer S after ≤ size-AnyScorer S tree

  -- ---- steps, buffers and counts

  -- it went to its next document, which is the answer
  pub record Stepped (tree after : AnyScorer S) (doc : ℕ) : Type 0 where
    pub head : doc ≡ head_document (tree_entries D after)
    pub entries : tree_entries D after ≡ drop 1 (tree_entries D tree)
    pub top : tree_top D after ≡ tree_top D tree
    pub valid : IsTree D after
    pub placed : IsTreePlaced D after

  -- its next documents, at most 64, were put into a buffer, and it stands behind them; their number is the answer
  pub record Filled (buffer : List ℕ) (tree after : AnyScorer S) (count_is : ℕ) : Type 0 where
    pub count : count_is ≡ min 64 (length (tree_entries D tree))
    pub documents : take count_is buffer ≡ documents (take 64 (tree_entries D tree))
    pub entries : tree_entries D after ≡ drop 64 (tree_entries D tree)
    pub top : tree_top D after ≡ tree_top D tree
    pub valid : IsTree D after
    pub placed : IsTreePlaced D after

  -- those of its documents that count were counted, and none is left
  pub record Counted (number : List Entry → ℕ) (tree after : AnyScorer S) (count_is : ℕ) : Type 0 where
    pub count : count_is ≡ number (tree_entries D tree)
    pub entries : tree_entries D after ≡ []
    pub top : tree_top D after ≡ tree_top D tree
    pub valid : IsTree D after
    pub placed : IsTreePlaced D after
