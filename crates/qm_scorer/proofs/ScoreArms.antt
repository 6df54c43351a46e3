-- What a tree is after its leaf or its node was asked for a score, by what that call ensures.
use Rattle.std.proofs.Common.{arith, refl, ◌≡◌, ℕ, ◌*◌, ◌<◌, ◌≤◌, ℤ, pos, List, sym, ap, subst, ◌∙◌}
use Rattle.std.specs.declared.boxed.Box.{Box}
use lib.Signed.{mag}
use Rattle.qm_docset.specs.Entry.{Entry, greatest_score, head_document, head_score}
use Rattle.qm_docset.specs.Exclusion.{has_document}
use Rattle.qm_docset.specs.declared.docset.DocSet.{Ghosts}
use Rattle.qm_docset.specs.declared.numbers.TheConstants.{TERMINATED}
use Rattle.qm_combine.specs.Rescored.{rescored}
use Rattle.qm_combine.specs.Without.{without}
use Rattle.qm_combine.specs.WithoutFacts.{IsKept}
use Rattle.qm_scorer.specs.Bare.{IsBounded, bare}
use Rattle.qm_scorer.specs.BareFacts.{head_score-bare}
use Rattle.qm_scorer.specs.Group.{IsGroupNode, group_entries, group_lists}
use Rattle.qm_scorer.specs.Intersection.{AreTogether, AreTrees, common_list}
use Rattle.qm_scorer.specs.Moves.{Scored}
use Rattle.qm_scorer.specs.MoveFacts.{IsBounded-same}
use Rattle.qm_scorer.specs.Tree.{IsOnKept, IsTree, IsTreePlaced, gathered_list, joined_entries, kept_entries, tree_entries, tree_head, tree_top}
use Rattle.qm_scorer.specs.declared.any_scorer.AnyScorer.{AnyScorer, size-AnyScorer}
use Rattle.qm_scorer.specs.declared.any_scorer.AnyScorer.TheVariants.{Boost, Const, Disjunction, Exclude, Intersection, RequiredOptional, Union}
use Rattle.qm_scorer.specs.declared.boost_node.BoostNode.{BoostNode, size-BoostNode}
use Rattle.qm_scorer.specs.declared.const_node.ConstNode.{ConstNode, size-ConstNode}
use Rattle.qm_scorer.specs.declared.exclude_node.ExcludeNode.{ExcludeNode, size-ExcludeNode}
use Rattle.qm_scorer.specs.declared.group_node.GroupNode.{GroupNode, size-GroupNode}
use Rattle.qm_scorer.specs.declared.group_node.Shape.{Shape}
use Rattle.qm_scorer.specs.declared.intersection_node.IntersectionNode.{IntersectionNode, size-IntersectionNode}
use Rattle.qm_scorer.specs.declared.optional_node.OptionalNode.{OptionalNode, size-OptionalNode}
use Rattle.qm_scorer.specs.United.{union_list}
use Rattle.qm_scorer.specs.declared.union_node.UnionNode.{UnionNode}
use Rattle.qm_scorer.proofs.Depth.{size-Boost, size-Const, size-Disjunction, size-Exclude, size-RequiredOptional}
use Rattle.qm_scorer.proofs.IntersectionArms.{left-depth, left-entries, left-head, left-top, left-valid, lent-entries}
use Rattle.qm_scorer.proofs.Opened.{closed-Disjunction, entries-Disjunction, entries-Union, placed-Intersection}

-- a score that fits its type is a score of a cursor
pub score_fits : (z : ℤ) (n : ℕ) → z ≡ pos n → mag z < 9223372036854775808 → n ≤ greatest_score
score_fits z n is fits =
    let below : n < 9223372036854775808 = subst (λ (y : ℤ). mag y < 9223372036854775808) is fits in
    omega (arith, below)

module _ {S : Type 0} (D : Ghosts S) where
  -- the same of the trees that these two are
  pub scored-as : {tree after : AnyScorer S} {n : ℕ} (old new : AnyScorer S) → tree ≡ old → after ≡ new → Scored D old new n → Scored D tree after n
  scored-as {tree} {after} {n} old new is left h = subst (λ t. Scored D t after n) (sym is) (subst (λ a. Scored D old a n) (sym left) h)

  -- ---- leaves, of which a tree knows the documents and the scores alone

  module _ {L : Type 0} (made : L → AnyScorer S) (listed : L → List Entry) (lists : (s : L) → tree_entries D (made s) ≡ bare (listed s)) (heads : (s : L) →
      tree_head D (made s) ≡ head_document (listed s)) (deep : (new old : L) → size-AnyScorer S (made new) ≤ size-AnyScorer S (made old)) where
    pub scored-leaf : {tree after : AnyScorer S} {lent : L} {n : ℕ} (leaf new : L) → lent ≡ leaf → tree ≡ made leaf →
        tree_head D tree < TERMINATED → n ≡ head_score (listed lent) → head_score (listed lent) ≤ greatest_score → listed new ≡ listed lent →
        tree_top D (made new) ≡ tree_top D (made lent) → IsTree D (made new) → IsTreePlaced D (made new) → after ≡ made new → Scored D tree after n
    scored-leaf {tree} {after} {lent} {n} leaf new same is here score fits kept top valid placed left =
        let below : head_document (listed leaf) < TERMINATED = subst (λ d. d < TERMINATED) (ap (tree_head D) is ∙ heads leaf) here in
        let list : listed new ≡ listed leaf = kept ∙ ap listed same in
        scored-as (made leaf) (made new) is left (record {
          score = score ∙ ap (λ s. head_score (listed s)) same ∙ sym (head_score-bare (listed leaf) below) ∙ sym (ap head_score (lists leaf));
          fits = subst (λ m. m ≤ greatest_score) (sym score) fits;
          entries = lists new ∙ ap bare list ∙ sym (lists leaf);
          top = top ∙ ap (λ s. tree_top D (made s)) same;
          valid = valid;
          placed = placed;
          head = heads new ∙ ap head_document list ∙ sym (heads leaf);
          depth = deep new leaf;
        })

  -- ---- nodes over trees

  pub asked-Boost : {tree : AnyScorer S} {lent : BoostNode S} (node : Box (BoostNode S) _) → tree ≡ Boost node → lent ≡ node.value →
      IsTree D tree → IsTreePlaced D tree → tree_head D tree < TERMINATED → IsTree D lent.inner × (IsTreePlaced D lent.inner ×
      ((tree_head D lent.inner < TERMINATED) × IsBounded lent.top (rescored (λ e. e.score * lent.boost) (tree_entries D lent.inner))))
  asked-Boost node is same valid placed here =
      let h = subst (IsTree D) is valid in
      subst (λ (m : BoostNode S). IsTree D m.inner ×
      (IsTreePlaced D m.inner × ((tree_head D m.inner < TERMINATED) × IsBounded m.top (rescored (λ e. e.score * m.boost) (tree_entries D m.inner)))))
      (sym same) (h.0, (subst (IsTreePlaced D) is placed, (subst (λ t. tree_head D t < TERMINATED) is here, h.1)))

  pub scored-Boost : {lent : BoostNode S} {n : ℕ} (node : Box (BoostNode S) _) (after : BoostNode S) → lent ≡ node.value → IsTree D (Boost node) →
      n ≡ head_score (rescored (λ e. e.score * lent.boost) (tree_entries D lent.inner)) → n ≤ greatest_score → tree_entries D after.inner
      ≡ tree_entries D lent.inner → IsTree D after.inner → IsTreePlaced D after.inner → tree_head D after.inner ≡ tree_head D lent.inner → after.boost
      ≡ lent.boost → after.top ≡ lent.top → size-BoostNode S after ≤ size-BoostNode S lent → Scored D (Boost node) (Boost (record node { value = after })) n
  scored-Boost node after same valid score fits entries inner placed head boost top depth =
      let boosts : after.boost ≡ node.value.boost = boost ∙ ap (λ (m : BoostNode S). m.boost) same in
      let tops : after.top ≡ node.value.top = top ∙ ap (λ (m : BoostNode S). m.top) same in
      let list : tree_entries D after.inner ≡ tree_entries D node.value.inner = entries ∙ ap (λ (m : BoostNode S). tree_entries D m.inner) same in
      let whole : tree_entries D (Boost (record node { value = after })) ≡ tree_entries D (Boost node) = (λ i. rescored (λ e. e.score * boosts i) (list i)) in
      record {
        score = score ∙ ap (λ (m : BoostNode S). head_score (rescored (λ e. e.score * m.boost) (tree_entries D m.inner))) same;
        fits = fits;
        entries = whole;
        top = tops;
        valid = (
          inner,
          subst (λ b. IsBounded b (tree_entries D (Boost (record node { value = after }))))
              (sym tops) (IsBounded-same node.value.top (tree_entries D (Boost node)) _ whole valid.1),
        );
        placed = placed;
        head = head ∙ ap (λ (m : BoostNode S). tree_head D m.inner) same;
        depth = size-Boost node after (subst (λ m. size-BoostNode S after ≤ size-BoostNode S m) same depth);
      }

  pub asked-Const : {tree : AnyScorer S} {lent : ConstNode S} (node : Box (ConstNode S) _) → tree ≡ Const node →
      lent ≡ node.value → IsTree D tree → IsTreePlaced D tree → tree_head D tree < TERMINATED → IsTree D lent.inner ×
      (IsTreePlaced D lent.inner × ((tree_head D lent.inner < TERMINATED) × IsBounded lent.score (rescored (λ _. lent.score) (tree_entries D lent.inner))))
  asked-Const node is same valid placed here =
      let h = subst (IsTree D) is valid in
      subst (λ (m : ConstNode S). IsTree D m.inner ×
      (IsTreePlaced D m.inner × ((tree_head D m.inner < TERMINATED) × IsBounded m.score (rescored (λ _. m.score) (tree_entries D m.inner)))))
      (sym same) (h.0, (subst (IsTreePlaced D) is placed, (subst (λ t. tree_head D t < TERMINATED) is here, h.1)))

  pub scored-Const : {lent : ConstNode S} {n : ℕ} (node : Box (ConstNode S) _) (after : ConstNode S) → lent ≡ node.value → IsTree D (Const node) →
      n ≡ head_score (rescored (λ _. lent.score) (tree_entries D lent.inner)) → n ≤ greatest_score → tree_entries D after.inner ≡ tree_entries D lent.inner →
      IsTree D after.inner → IsTreePlaced D after.inner → tree_head D after.inner ≡ tree_head D lent.inner → after.score ≡ lent.score →
      size-ConstNode S after ≤ size-ConstNode S lent → Scored D (Const node) (Const (record node { value = after })) n
  scored-Const node after same valid score fits entries inner placed head one depth =
      let scores : after.score ≡ node.value.score = one ∙ ap (λ (m : ConstNode S). m.score) same in
      let list : tree_entries D after.inner ≡ tree_entries D node.value.inner = entries ∙ ap (λ (m : ConstNode S). tree_entries D m.inner) same in
      let whole : tree_entries D (Const (record node { value = after })) ≡ tree_entries D (Const node) = (λ i. rescored (λ _. scores i) (list i)) in
      record {
        score = score ∙ ap (λ (m : ConstNode S). head_score (rescored (λ _. m.score) (tree_entries D m.inner))) same;
        fits = fits;
        entries = whole;
        top = scores;
        valid = (
          inner,
          subst (λ b. IsBounded b (tree_entries D (Const (record node { value = after }))))
              (sym scores) (IsBounded-same node.value.score (tree_entries D (Const node)) _ whole valid.1),
        );
        placed = placed;
        head = head ∙ ap (λ (m : ConstNode S). tree_head D m.inner) same;
        depth = size-Const node after (subst (λ m. size-ConstNode S after ≤ size-ConstNode S m) same depth);
      }

  pub asked-RequiredOptional : {tree : AnyScorer S} {lent : OptionalNode S} (node : Box (OptionalNode S) _) → tree ≡ RequiredOptional node → lent ≡ node.value →
      IsTree D tree → IsTreePlaced D tree → tree_head D tree < TERMINATED → IsTree D lent.required × (IsTreePlaced D lent.required × ((tree_head D lent.required
      < TERMINATED) × (IsTree D lent.optional × (IsTreePlaced D lent.optional × IsBounded lent.top (joined_entries D lent.required lent.optional)))))
  asked-RequiredOptional node is same valid placed here =
      let h = subst (IsTree D) is valid in
      subst (λ (m : OptionalNode S). IsTree D m.required × (IsTreePlaced D m.required × ((tree_head D m.required < TERMINATED) ×
      (IsTree D m.optional × (IsTreePlaced D m.optional × IsBounded m.top (joined_entries D m.required m.optional))))))
      (sym same) (h.0, (subst (IsTreePlaced D) is placed, (subst (λ t. tree_head D t < TERMINATED) is here, (h.1, (h.2, h.3)))))

  pub scored-RequiredOptional : {lent : OptionalNode S} {n : ℕ} (node : Box (OptionalNode S) _) (after : OptionalNode S) → lent ≡ node.value →
      IsTree D (RequiredOptional node) → n ≡ head_score (joined_entries D lent.required lent.optional) → n ≤ greatest_score →
      joined_entries D after.required after.optional ≡ joined_entries D lent.required lent.optional → IsTree D after.required → IsTreePlaced D after.required →
      IsTree D after.optional → IsTreePlaced D after.optional → tree_head D after.required ≡ tree_head D lent.required → after.top ≡ lent.top →
      size-OptionalNode S after ≤ size-OptionalNode S lent → Scored D (RequiredOptional node) (RequiredOptional (record node { value = after })) n
  scored-RequiredOptional node after same valid score fits entries required placed optional stands head top depth =
      let tops : after.top ≡ node.value.top = top ∙ ap (λ (m : OptionalNode S). m.top) same in
      let whole : tree_entries D (RequiredOptional (record node { value = after })) ≡ tree_entries D (RequiredOptional node) = entries
      ∙ ap (λ (m : OptionalNode S). joined_entries D m.required m.optional) same in
      record {
        score = score ∙ ap (λ (m : OptionalNode S). head_score (joined_entries D m.required m.optional)) same;
        fits = fits;
        entries = whole;
        top = tops;
        valid = (
          required,
          optional,
          stands,
          subst (λ b. IsBounded b (tree_entries D (RequiredOptional (record node { value = after }))))
              (sym tops) (IsBounded-same node.value.top (tree_entries D (RequiredOptional node)) _ whole valid.3),
        );
        placed = placed;
        head = head ∙ ap (λ (m : OptionalNode S). tree_head D m.required) same;
        depth = size-RequiredOptional node after (subst (λ m. size-OptionalNode S after ≤ size-OptionalNode S m) same depth);
      }

  pub asked-Exclude : {tree : AnyScorer S} {lent : ExcludeNode S} (node : Box (ExcludeNode S) _) → tree ≡ Exclude node →
      lent ≡ node.value → IsTree D tree → IsTreePlaced D tree → tree_head D tree < TERMINATED → IsTree D lent.inner ×
      (IsTreePlaced D lent.inner × (IsOnKept D lent.inner lent.out × (tree_head D lent.inner < TERMINATED)))
  asked-Exclude node is same valid placed here =
      let h = subst (IsTree D) is valid in
      let p = subst (IsTreePlaced D) is placed in
      subst (λ (m : ExcludeNode S). IsTree D m.inner × (IsTreePlaced D m.inner × (IsOnKept D m.inner m.out × (tree_head D m.inner < TERMINATED))))
      (sym same) (h.0, (p.0, (p.1, subst (λ t. tree_head D t < TERMINATED) is here)))

  pub scored-Exclude : {lent : ExcludeNode S} {n : ℕ} (node : Box (ExcludeNode S) _) (after : ExcludeNode S) → lent ≡ node.value → IsTree D (Exclude node) →
      IsTreePlaced D (Exclude node) → n ≡ head_score (kept_entries D lent.inner lent.out) → n ≤ greatest_score → tree_entries D after.inner
      ≡ tree_entries D lent.inner → IsTree D after.inner → IsTreePlaced D after.inner → tree_head D after.inner ≡ tree_head D lent.inner → after.out
      ≡ lent.out → after.top ≡ lent.top → size-ExcludeNode S after ≤ size-ExcludeNode S lent
      → Scored D (Exclude node) (Exclude (record node { value = after })) n
  scored-Exclude node after same valid stands score fits entries inner placed head out top depth =
      let outs : after.out ≡ node.value.out = out ∙ ap (λ (m : ExcludeNode S). m.out) same in
      let tops : after.top ≡ node.value.top = top ∙ ap (λ (m : ExcludeNode S). m.top) same in
      let list : tree_entries D after.inner ≡ tree_entries D node.value.inner = entries ∙ ap (λ (m : ExcludeNode S). tree_entries D m.inner) same in
      let whole : tree_entries D (Exclude (record node { value = after })) ≡ tree_entries D (Exclude node) =
      (λ i. without (has_document (tree_entries D (outs i))) (list i)) in
      let kept : IsOnKept D after.inner after.out = subst (IsKept (has_document (tree_entries D after.out))) (sym list)
      (subst (λ o. IsKept (has_document (tree_entries D o)) (tree_entries D node.value.inner)) (sym outs) stands.1) in
      record {
        score = score ∙ ap (λ (m : ExcludeNode S). head_score (kept_entries D m.inner m.out)) same;
        fits = fits;
        entries = whole;
        top = tops;
        valid = (
          inner,
          subst (IsTree D) (sym outs) valid.1,
          subst (λ b. IsBounded b (tree_entries D (Exclude (record node { value = after }))))
              (sym tops) (IsBounded-same node.value.top (tree_entries D (Exclude node)) _ whole valid.2),
        );
        placed = (placed, kept);
        head = head ∙ ap (λ (m : ExcludeNode S). tree_head D m.inner) same;
        depth = size-Exclude node after (subst (λ m. size-ExcludeNode S after ≤ size-ExcludeNode S m) same depth);
      }

  -- ---- nodes over rows of trees

  pub scored-Union : {lent : UnionNode S} {n : ℕ} (node : Box (UnionNode S) _) (after : UnionNode S) → lent ≡ node.value → IsTree D (Union node)
      → n ≡ head_score (union_list D lent) → n ≤ greatest_score → after ≡ lent → Scored D (Union node) (Union (record node { value = after })) n
  scored-Union {lent} {n} node after same valid score fits kept =
      let is : after ≡ node.value = kept ∙ same in
      let made : Scored D (Union node) (Union node) n = record {
        score = score ∙ ap (λ m. head_score (union_list D m)) same ∙ sym (ap head_score (entries-Union D node));
        fits = fits;
        entries = refl;
        top = refl;
        valid = valid;
        placed = tt;
        head = refl;
        depth = omega arith;
      } in
      subst (λ (m : UnionNode S). Scored D (Union node) (Union (record node { value = m })) n) (sym is) made

  pub scored-Disjunction : {lent : GroupNode S} {n : ℕ} (node : Box (GroupNode S) _) (after : GroupNode S) → lent ≡ node.value →
      n ≡ head_score (group_entries D lent) → n ≤ greatest_score → group_lists D after ≡ group_lists D lent → IsGroupNode D after → after.shape ≡ lent.shape →
      after.current ≡ lent.current → size-GroupNode S after ≤ size-GroupNode S lent
      → Scored D (Disjunction node) (Disjunction (record node { value = after })) n
  scored-Disjunction {lent} node after same score fits lists valid shape current depth =
      let before : tree_entries D (Disjunction node) ≡ group_entries D lent = entries-Disjunction D node ∙ ap (group_entries D) (sym same) in
      let new = record node { value = after } in
      record {
        score = score ∙ sym (ap head_score before);
        fits = fits;
        entries = entries-Disjunction D new ∙ (λ i. gathered_list (shape i) (lists i)) ∙ sym before;
        top = ap (λ (s : Shape). s.top) shape ∙ ap (λ (m : GroupNode S). m.shape.top) same;
        valid = closed-Disjunction D new valid;
        placed = tt;
        head = current ∙ ap (λ (m : GroupNode S). m.current) same;
        depth = size-Disjunction node new (subst (λ m. size-GroupNode S after ≤ size-GroupNode S m) same depth);
      }

  pub scored-Intersection : {tree : AnyScorer S} {lent : IntersectionNode S} {n : ℕ} (node : Box (IntersectionNode S) _) (after : IntersectionNode S) →
      tree ≡ Intersection node → lent ≡ node.value → IsTree D tree → n ≡ head_score (common_list D lent) → n ≤ greatest_score → common_list D after
      ≡ common_list D lent → AreTrees D after → AreTogether D after → tree_head D after.leader ≡ tree_head D lent.leader → after.top ≡ lent.top →
      size-IntersectionNode S after ≤ size-IntersectionNode S lent → Scored D (Intersection node) (Intersection (record node { value = after })) n
  scored-Intersection node after is same valid score fits entries trees placed head top depth = record {
    score = score ∙ ap head_score (lent-entries D node is same) ∙ ap (λ t. head_score (tree_entries D t)) is;
    fits = fits;
    entries = left-entries D (λ es. es) node after same entries;
    top = left-top D node after same top;
    valid = left-valid D (λ es. es) IsBounded-same node after is same valid entries top trees;
    placed = placed-Intersection D (record node { value = after }) placed;
    head = left-head D node after same head;
    depth = left-depth node after same depth;
  }
