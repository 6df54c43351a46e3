-- A tree goes on by seeks of what stands below it.
use Rattle.std.proofs.Common.{rules, drop, true≢false, ◌≡◌, ◌+◌, ◌*◌, ◌<◌, ◌≤◌, [], ◌∷◌, ◌++◌, All, get_or, length, map, set, take, true, arith, refl, sym, ap}
use Rattle.std.proofs.Common.{subst, ◌∙◌, inl, inr, ℕ, List, max, min, nat_abs, to_z, w64, fold}
use denote.Param.Weighed.{at_most, most}
use Rattle.std.proofs.lemmas.Bool.{cases_lt}
use Rattle.std.proofs.lemmas.Grind.{take-set_at}
use Rattle.std.proofs.lemmas.List.{get_or-set_same, length-map, length-set, take_all, with_items_is}
use Rattle.std.proofs.lemmas.List.Elements.{All-push, All-set, All-get_or}
use Rattle.qm_docset.specs.Cursor.{IsSeekAnswer}
use Rattle.qm_docset.specs.Entry.{Limits, from, head_document, head_score, Entry, greatest_score}
use Rattle.qm_docset.specs.CursorFacts.{head_document-reached}
use Rattle.qm_docset.specs.EntryFacts.{from-from, from-next, from-reached, head_document-bounds, AreEntries-from_low}
use Rattle.qm_docset.specs.Exclusion.{has_document}
use Rattle.qm_docset.specs.Gather.{common_entries, scores_at, gather}
use Rattle.qm_docset.specs.RowFacts.{from-row}
use Rattle.qm_docset.specs.declared.numbers.TheConstants.{TERMINATED}
use Rattle.qm_docset.proofs.ExclusionLemmas.{has_document-before, has_document-head}
use Rattle.qm_docset.proofs.Gathering.{head_document-from}
use Rattle.qm_combine.specs.HeldSum.{held_sum}
use Rattle.qm_combine.specs.RescoredFacts.{IsSeekAnswer-rescored, head_score-rescored, head_score-le}
use Rattle.qm_combine.specs.SharedSeek.{StandOn}
use Rattle.qm_combine.specs.Union.{least_head, total_top, united_limits}
use Rattle.qm_combine.specs.Without.{without}
use Rattle.qm_combine.specs.WithoutFacts.{IsKept, from-without, head_document-le, head_document-past, head_document-without, without-stepped}
use Rattle.qm_combine.specs.WithoutFacts.{head_score-without}
use Rattle.qm_combine.proofs.EachMember.{map-map-set_same, take-map-set_more, map-set_same, All-same_lists, get_or-map-map, score_cast}
use Rattle.qm_combine.proofs.Leading.{IsSeekAnswer-shared, common_entries-caught_up, common_entries-cut, common_entries-passed, common_entries-sought}
use Rattle.qm_combine.proofs.Leading.{head_document-together, leader_bound-common_entries, head_score-together}
use Rattle.qm_combine.proofs.Uniting.{least_head-push, least_head-most, scores_at-more}
use Rattle.qm_term.specs.TermScorer.{scored_left}
use Rattle.qm_scorer.specs.Group.{IsGroupNode, group_lists}
use Rattle.qm_scorer.specs.Tree.{AreMemberHeads, HasRoom, IsTree, IsTreePlaced, tree_entries, tree_limits}
use Rattle.qm_scorer.specs.Tree.{HasUnionParts, kept_score, tree_head}
use Rattle.qm_scorer.specs.Tree.{tree_top, union_listing}
use Rattle.qm_scorer.specs.TreeFacts.{tree-ascends}
use Rattle.qm_scorer.specs.LeastDocs.{least_of}
use Rattle.qm_scorer.proofs.GroupHeads.{AreMemberHeads-put, all-reached, head-least, heads-length, least_of-heads, passed-more, scores_at-skipped}
use Rattle.qm_scorer.proofs.Groups.{HasRoom-moved, group-ended, group-enough, group-moved, group-passed, group-reached, group-there, least_head-from}
use Rattle.qm_scorer.proofs.Depth.{most-set, same-Own, same-Term, size-kept, size-led}
use Rattle.qm_scorer.proofs.Depth.{size-members, size-others, size-united}
use Rattle.qm_scorer.proofs.HandedOn.{leaf-scored, leaf-sent}
use Rattle.qm_scorer.proofs.Heads.{tree-head, boost-fits, tree-here}
use Rattle.qm_scorer.proofs.Moving.{asked, both_found, on_found, placed_where, same, still_found}
use Rattle.qm_scorer.proofs.MoveArms.{added, answered-as, answered-leaf, head-rescored, moved-Boost, moved-Const, moved-Disjunction, moved-Exclude}
use Rattle.qm_scorer.proofs.MoveArms.{moved-Intersection, moved-RequiredOptional, moved-Union, sought-as, sought-leaf, swept-leaf}
use Rattle.qm_scorer.proofs.Opened.{entries-Disjunction, entries-Intersection, entries-Union, opened-Disjunction, opened-Union, placed-Intersection}
use Rattle.qm_scorer.specs.declared.any_scorer.AnyScorer.{AnyScorer, size-AnyScorer}
use Rattle.qm_scorer.specs.declared.any_scorer.AnyScorer.TheVariants.{Boost, Const, Disjunction, Exclude, Intersection}
use Rattle.qm_scorer.specs.declared.any_scorer.AnyScorer.TheVariants.{Own, RequiredOptional, Term, Union, outs-Boost, outs-Const}
use Rattle.qm_scorer.specs.declared.any_scorer.AnyScorer.TheVariants.{outs-Disjunction, outs-Exclude, outs-Intersection, outs-RequiredOptional, outs-Union}
use Rattle.qm_scorer.specs.declared.group_node.Shape.{Shape}
use Rattle.qm_scorer.specs.declared.intersection_node.IntersectionNode.{size_is-IntersectionNode}
use Rattle.qm_scorer.proofs.IntersectionArms.{left-document, lent-trees, lent-here, lent-together}
use Rattle.std.proofs.lemmas.Int.{to_z_pos}
use Rattle.qm_docset.specs.GatherFacts.{AreMembers-map, scores_at-nil}
use Rattle.qm_combine.specs.Combiner.{IsCleared}
use Rattle.qm_combine.specs.Window.{window_combiner, window_end, window_has}
use Rattle.qm_combine.proofs.Standing.{answers_first, answers_none, goes_next, goes_on, goes_past}
use Rattle.qm_combine.proofs.TakenIn.{from-all_passed, next-past, step_min}
use Rattle.qm_combine.proofs.Windows.{windowed-ended}
use Rattle.qm_combine.specs.Added.{IsAdded}
use Rattle.qm_scorer.specs.AnyCombiner.{any_cleared, any_combined, AnyHasRoom, any_step}
use Rattle.qm_scorer.specs.Bare.{scores_to}
use Rattle.qm_scorer.specs.United.{IsUnionNode, union_limits, union_lists}
use Rattle.qm_scorer.proofs.Refilling.{IsRefilling, refilled-behind, refilled-entries, refilled-here, refilling-first, refilling-more, refilling-none}
use Rattle.qm_scorer.proofs.Refilling.{refilling-room}
use Rattle.qm_scorer.proofs.Taking.{room-for, taken-next, taken_to-all, taken_to-more, taken_to-none}
use Rattle.qm_scorer.proofs.Uniting.{cut_twice, parts-same, union_listing-made}
use Rattle.qm_scorer.proofs.+moves.Goals.{group_node::seek_group-else-node-target, group_node::seek_group-then-node-target}
use Rattle.std.specs.List.{sum}
use Rattle.std.proofs.lemmas.List.Sums.{fold-append, sum_by-cons, sum_by_more}
use Rattle.qm_scorer.specs.MoveFacts.{head_score-bounded}
use Rattle.qm_combine.specs.Rescored.{with_optional}
use Rattle.qm_combine.proofs.OptionalScores.{scores_at-passed, scores_at-reached, with_optional-reached}
use Rattle.qm_scorer.specs.AnyCombinerFacts.{any-taken}
use Rattle.qm_scorer.specs.declared.group_node.GroupNode.{GroupNode}
use Rattle.qm_scorer.proofs.GroupScores.{group-kept, group-score, room-next}
use Rattle.qm_scorer.proofs.ScoreArms.{asked-Boost, asked-Const, asked-Exclude, asked-RequiredOptional, score_fits, scored-Boost, scored-Const}
use Rattle.qm_scorer.proofs.ScoreArms.{scored-Disjunction, scored-Exclude, scored-Intersection, scored-RequiredOptional, scored-Union, scored-as, scored-leaf}
use Rattle.qm_scorer.specs.declared.any_scorer.AnyScorer as aq
use Rattle.qm_scorer.specs.declared.exclude_node.ExcludeNode as q
use Rattle.qm_scorer.specs.declared.group_node.GroupNode as gq
use Rattle.qm_scorer.specs.declared.intersection_node.IntersectionNode as iq
use Rattle.qm_scorer.specs.declared.union_node.UnionNode as uq
use Rattle.qm_scorer.proofs.+moves.Goals as goal

pub exclude_node::pass_excluded-returns-then-not-contains_document : goal.exclude_node::pass_excluded-returns-then-not-contains_document
exclude_node::pass_excluded-returns-then-not-contains_document g t c =
    let asks = c.contains_document.ensures in
    let ascends = tree-ascends g.S.DocSet g.met.S.DocSet.ascending c.loop-doc.node.inner c.loop-doc.invariant.inner in
    let left = has_document (tree_entries g.S.DocSet c.contains_document.new.scorer) in
    record {
      head = c.loop-doc.invariant.here;
      entries = asked c.loop-doc.doc _ _ _ _ ascends c.loop-doc.invariant.here asks.moved.entries ∙ c.loop-doc.invariant.left;
      inner = c.loop-doc.invariant.inner;
      placed = c.loop-doc.invariant.placed;
      out = asks.moved.valid;
      kept = λ here. ap left (sym c.loop-doc.invariant.here) ∙ same c.loop-doc.doc _ _ asks.moved.entries ∙ sym asks.member ∙ c.if-not-contains_document.true;
      top = c.loop-doc.invariant.top;
      depth = omega (
        arith,
        c.loop-doc.invariant.depth,
        size-kept c.loop-doc.node (record c.loop-doc.node { out = c.contains_document.new.scorer }) (omega arith) asks.moved.depth,
      );
    }

pub exclude_node::pass_excluded-returns : goal.exclude_node::pass_excluded-returns
exclude_node::pass_excluded-returns g t c =
    record {
      head = c.loop-doc.invariant.here;
      entries = c.loop-doc.invariant.left;
      inner = c.loop-doc.invariant.inner;
      placed = c.loop-doc.invariant.placed;
      out = c.loop-doc.invariant.out;
      kept = λ below. absurd (omega (arith, c.loop-doc.invariant.here, c.loop-doc-test.false));
      top = c.loop-doc.invariant.top;
      depth = c.loop-doc.invariant.depth;
    }

pub exclude_node::pass_excluded-loop-doc-smaller : goal.exclude_node::pass_excluded-loop-doc-smaller
exclude_node::pass_excluded-loop-doc-smaller g t c =
    omega (
      arith,
      c.seek_tree-doc.ensures.head,
      ap head_document c.seek_tree-doc.ensures.entries,
      head_document-from (c.loop-doc.doc + 1) (tree_entries g.S.DocSet c.loop-doc.node.inner) (omega arith),
    )

pub exclude_node::pass_excluded-loop-doc-preserved : goal.exclude_node::pass_excluded-loop-doc-preserved
exclude_node::pass_excluded-loop-doc-preserved g t c =
    let es = tree_entries g.S.DocSet c.loop-doc.node.inner in
    let left = has_document (tree_entries g.S.DocSet c.contains_document.new.scorer) in
    let ascends = tree-ascends g.S.DocSet g.met.S.DocSet.ascending c.loop-doc.node.inner c.loop-doc.invariant.inner in
    let here : head_document es < TERMINATED = omega (arith, c.loop-doc.invariant.here) in
    let out : left (head_document es) ≡ true = ap left (sym c.loop-doc.invariant.here)
    ∙ same c.loop-doc.doc _ _ c.contains_document.ensures.moved.entries ∙ sym c.contains_document.ensures.member ∙ c.if-not-contains_document.false in
    let next : tree_entries g.S.DocSet c.seek_tree-doc.new.scorer ≡ drop 1 es = c.seek_tree-doc.ensures.entries
    ∙ ap (λ d. from (d + 1) es) c.loop-doc.invariant.here ∙ from-next 0 _ es ascends in
    let passed = ap (without left) next ∙ without-stepped left es here out
    ∙ asked c.loop-doc.doc _ es _ _ ascends c.loop-doc.invariant.here c.contains_document.ensures.moved.entries ∙ c.loop-doc.invariant.left in
    record {
      here = c.seek_tree-doc.ensures.head;
      left = passed;
      inner = c.seek_tree-doc.ensures.valid;
      placed = c.seek_tree-doc.ensures.placed;
      out = c.contains_document.ensures.moved.valid;
      top = c.loop-doc.invariant.top;
      depth = search (rules, q.the_lemmas);
    }

pub exclude_node::seek_exclude-returns : goal.exclude_node::seek_exclude-returns
exclude_node::seek_exclude-returns g t c =
    let passed = c.pass_excluded.ensures in
    let ascends = tree-ascends g.S.DocSet g.met.S.DocSet.ascending _ passed.inner in
    let old = c.args.node.now in
    record {
      head = passed.head ∙ sym (head_document-without _ 0 _ _ ascends passed.kept);
      entries = passed.entries ∙ ap (without _) c.seek_tree-doc.ensures.entries ∙ from-without _ c.args.target _;
      inner = passed.inner;
      placed = passed.placed;
      out = passed.out;
      kept = passed.kept;
      top = passed.top;
      depth = omega (arith, passed.depth, size-kept old (record old { inner = c.seek_tree-doc.new.scorer }) c.seek_tree-doc.ensures.depth (omega arith));
    }

-- ---- a tree that is asked for a document

pub exclude_node::contains_document-returns-in-Found : goal.exclude_node::contains_document-returns-in-Found
exclude_node::contains_document-returns-in-Found g t c =
    let e = c.danger_tree.ensures in
    let left = tree_entries g.S.DocSet c.danger_tree.new.scorer in
    record {
      member = sym (has_document-head c.args.doc left c.in-Found.ensures.answer.here c.requires.doc) ∙ same c.args.doc _ left c.danger_tree.ensures.entries;
      moved = record { entries = e.entries; top = e.top; valid = e.valid; depth = e.depth };
    }

pub exclude_node::contains_document-returns-in-SeekLowerBound : goal.exclude_node::contains_document-returns-in-SeekLowerBound
exclude_node::contains_document-returns-in-SeekLowerBound g t c =
    let e = c.danger_tree.ensures in
    let left = tree_entries g.S.DocSet c.danger_tree.new.scorer in
    let ascends = tree-ascends g.S.DocSet g.met.S.DocSet.ascending c.danger_tree.new.scorer c.danger_tree.ensures.valid in
    let before : c.args.doc < head_document left =
    omega (arith, c.in-SeekLowerBound.ensures.answer.before_all, c.in-SeekLowerBound.ensures.answer.past c.requires.doc) in
    record {
      member = sym (has_document-before 0 c.args.doc _ left ascends before) ∙ same c.args.doc _ left c.danger_tree.ensures.entries;
      moved = record { entries = e.entries; top = e.top; valid = e.valid; depth = e.depth };
    }

pub exclude_node::danger_exclude-returns-then-contains_document : goal.exclude_node::danger_exclude-returns-then-contains_document
exclude_node::danger_exclude-returns-then-contains_document g t c =
    let es = tree_entries g.S.DocSet c.danger_tree.new.scorer in
    let asks = c.contains_document.ensures in
    let left = has_document (tree_entries g.S.DocSet c.contains_document.new.scorer) in
    let ascends = tree-ascends g.S.DocSet g.met.S.DocSet.ascending c.danger_tree.new.scorer c.danger_tree.ensures.valid in
    let found = c.in-Found.ensures.answer in
    let here : head_document es < TERMINATED = omega (arith, found.below_end, found.here) in
    let out : left (head_document es) ≡ true = ap left found.here ∙ same c.args.target _ _ asks.moved.entries ∙ sym asks.member ∙ c.if-contains_document.true in
    let past = head_document-past left 0 _ es ascends here out in
    record {
      answer = record { before_all = omega (arith, found.here); past = λ below. omega arith; at_end = λ ended. absurd (omega (arith, found.below_end)) };
      entries = asked c.args.target _ _ _ _ ascends (sym found.here) asks.moved.entries
          ∙ ap (without _) c.danger_tree.ensures.entries ∙ from-without _ c.args.target _;
      inner = c.danger_tree.ensures.valid;
      placed = tt;
      out = asks.moved.valid;
      kept = tt;
      top = refl;
      depth = size-kept c.args.node.now _ c.danger_tree.ensures.depth asks.moved.depth;
    }

pub exclude_node::danger_exclude-returns-else-contains_document : goal.exclude_node::danger_exclude-returns-else-contains_document
exclude_node::danger_exclude-returns-else-contains_document g t c =
    let es = tree_entries g.S.DocSet c.danger_tree.new.scorer in
    let asks = c.contains_document.ensures in
    let left = has_document (tree_entries g.S.DocSet c.contains_document.new.scorer) in
    let ascends = tree-ascends g.S.DocSet g.met.S.DocSet.ascending c.danger_tree.new.scorer c.danger_tree.ensures.valid in
    let found = c.in-Found.ensures.answer in
    let kept : IsKept left es = λ here. ap left found.here ∙ same c.args.target _ _ asks.moved.entries ∙ sym asks.member ∙ c.if-contains_document.false in
    record {
      answer = record { below_end = found.below_end; here = head_document-without left 0 _ es ascends kept ∙ found.here };
      entries = asked c.args.target _ _ _ _ ascends (sym found.here) asks.moved.entries
          ∙ ap (without _) c.danger_tree.ensures.entries ∙ from-without _ c.args.target _;
      inner = c.danger_tree.ensures.valid;
      placed = c.in-Found.ensures.placed;
      out = asks.moved.valid;
      kept = kept;
      top = refl;
      depth = size-kept c.args.node.now _ c.danger_tree.ensures.depth asks.moved.depth;
    }

pub exclude_node::danger_exclude-returns-in-SeekLowerBound : goal.exclude_node::danger_exclude-returns-in-SeekLowerBound
exclude_node::danger_exclude-returns-in-SeekLowerBound g t c =
    let es = tree_entries g.S.DocSet c.danger_tree.new.scorer in
    let ascends = tree-ascends g.S.DocSet g.met.S.DocSet.ascending c.danger_tree.new.scorer c.danger_tree.ensures.valid in
    let bound = c.in-SeekLowerBound.ensures.answer in
    let later = head_document-le (has_document (tree_entries g.S.DocSet c.args.node.now.out)) 0 _ es ascends in
    record {
      answer = record { before_all = omega (arith, bound.before_all, later); past = bound.past; at_end = bound.at_end };
      entries = ap (without _) c.danger_tree.ensures.entries ∙ from-without _ c.args.target _;
      inner = c.danger_tree.ensures.valid;
      placed = tt;
      out = c.requires.out;
      kept = tt;
      top = refl;
      depth = size-kept c.args.node.now _ c.danger_tree.ensures.depth (omega arith);
    }

-- ---- a tree that is not sent where it stands there

pub any_scorer::reach_tree-returns-then-doc-target : goal.any_scorer::reach_tree-returns-then-doc-target
any_scorer::reach_tree-returns-then-doc-target g t c =
    let sought = c.seek_tree.ensures in
    record { sought = sought; stands = tree-head g.S.DocSet g.met.S.DocSet.ascending _ sought.valid sought.placed ∙ sym sought.head }

pub any_scorer::reach_tree-returns-else-doc-target : goal.any_scorer::reach_tree-returns-else-doc-target
any_scorer::reach_tree-returns-else-doc-target g t c =
    let scorer = c.args.scorer.now in
    let head = tree-head g.S.DocSet g.met.S.DocSet.ascending scorer c.requires.valid c.requires.placed in
    let there : c.args.target ≤ head_document (tree_entries g.S.DocSet scorer) = omega (arith, c.doc_tree-doc.ensures, head, c.if-doc-target.false) in
    record {
      sought = record {
        head = c.doc_tree-doc.ensures ∙ head;
        entries = sym (from-reached c.args.target 0 _ _ there (tree-ascends g.S.DocSet g.met.S.DocSet.ascending scorer c.requires.valid));
        top = refl;
        valid = c.requires.valid;
        placed = c.requires.placed;
        depth = omega arith;
      };
      stands = sym c.doc_tree-doc.ensures;
    }

-- ---- groups

pub group_node::reach_members-loop-place-init : goal.group_node::reach_members-loop-place-init
group_node::reach_members-loop-place-init g t c =
    let h = c.requires.members in
    let next = c.next_below-place.ensures in
    let long = heads-length (tree_entries g.S.DocSet) c.args.node.now.members.items c.args.node.now.heads h.heads in
    record {
      members = h;
      lists = refl;
      within = omega (arith, next.within.1, long);
      passed = λ k below. next.passed k (omega arith) below;
      shape = refl;
      current = refl;
      depth = omega arith;
    }

pub group_node::reach_members-loop-place-preserved : goal.group_node::reach_members-loop-place-preserved
group_node::reach_members-loop-place-preserved g t c =
    let D = g.S.DocSet in
    let e = tree_entries D in
    let h = c.loop-place.invariant in
    let before = c.loop-place.node in
    let xs = before.members.items in
    let k = c.loop-place.place in
    let d = c.args.target in
    let x = c.seek_tree-doc.new.scorer in
    let doc = c.seek_tree-doc.result in
    let item = c.index_mut.result.now in
    let sought = c.seek_tree-doc.ensures in
    let put = c.put.ensures in
    let next = c.next_below-place-in-loop-place.ensures in
    let here : k < length xs = omega (arith, c.loop-place-test.true, before.members.ok.0) in
    let long = heads-length e xs before.heads h.members.heads in
    let read : e item ≡ e (get_or xs k item) = ap e c.index_mut.ensures.value in
    let cut : from d (e x) ≡ from d (e (get_or xs k item)) = ap (from d) (sought.entries ∙ ap (from d) read) ∙ from-from d d _ (omega arith) in
    let past : d ≤ doc = omega (arith, sought.head, ap head_document sought.entries, head_document-from d (e item) c.requires.target) in
    let smaller = subst (λ (y : AnyScorer g.row.S.Denot). size-AnyScorer g.row.S.Denot x ≤ size-AnyScorer g.row.S.Denot y)
    c.index_mut.ensures.value sought.depth in
    let behind : (j : ℕ) → k + 1 ≤ j → j < c.next_below-place-in-loop-place.result → d ≤ get_or (set before.heads.docs.items k doc) j 0 =
    λ j after below. subst (λ ds. d ≤ get_or ds j 0) put.docs (next.passed j after below) in
    record {
      members = record {
        valid = All-set (IsTree D) xs k x sought.valid h.members.valid;
        placed = All-set (IsTreePlaced D) xs k x sought.placed h.members.placed;
        heads = AreMemberHeads-put e xs before.heads h.members.heads k doc x c.put.new.self put.valid put.docs sought.head;
      };
      lists = map-map-set_same (from d) e xs k x item here cut ∙ h.lists;
      within = omega (arith, next.within.1, ap length put.docs, length-set before.heads.docs.items k doc, long, length-set xs k x);
      passed = λ j below. subst (λ ds. d ≤ get_or ds j 0) (sym put.docs)
          (passed-more before.heads.docs.items d k doc c.next_below-place-in-loop-place.result (omega (arith, here, long)) h.passed past behind j below);
      shape = h.shape;
      current = h.current;
      depth = size-members before _ _ (most-set (size-AnyScorer g.row.S.Denot) xs k x item here smaller) h.depth;
    }

pub group_node::reach_members-loop-place-smaller : goal.group_node::reach_members-loop-place-smaller
group_node::reach_members-loop-place-smaller g t c =
    let before = c.loop-place.node in
    omega (
      arith,
      c.next_below-place-in-loop-place.ensures.within.0,
      c.loop-place-test.true,
      before.members.ok.0,
      length-set before.members.items c.loop-place.place c.seek_tree-doc.new.scorer,
    )

pub group_node::reach_members-seek_tree-doc-requires : goal.group_node::reach_members-seek_tree-doc-requires
group_node::reach_members-seek_tree-doc-requires g t c κs within =
    let D = g.S.DocSet in
    let xs = c.loop-place.node.members.items in
    let x = c.index_mut.result.now in
    let here : c.loop-place.place < length xs = omega (arith, c.loop-place-test.true, c.loop-place.node.members.ok.0) in
    let valid : IsTree D x = subst (IsTree D) (sym c.index_mut.ensures.value) (All-get_or (IsTree D) xs c.loop-place.place x here
    c.loop-place.invariant.members.valid) in
    (search (rules, gq.the_lemmas), (search rules, (valid, c.requires.target)))

pub group_node::reach_members-returns : goal.group_node::reach_members-returns
group_node::reach_members-returns g t c =
    let D = g.S.DocSet in
    let h = c.loop-place.invariant in
    let node = c.loop-place.node in
    let xs = node.members.items in
    let law = tree-ascends D g.met.S.DocSet.ascending in
    let all : length xs ≤ c.loop-place.place = omega (arith, c.loop-place-test.false, node.members.ok.0) in
    let reached = all-reached (tree_entries D) xs node.heads h.members.heads c.args.target (λ k below. h.passed k (omega (arith, below, all))) in
    record {
      least = c.least.ensures ∙ ap least_of h.members.heads.docs ∙ least_of-heads (group_lists D node);
      lists = sym (from-row (tree_entries D) (tree_limits D) c.args.target xs (λ k d below. law _ (h.members.valid k d below)) reached) ∙ h.lists;
      members = h.members;
      shape = h.shape;
      current = h.current;
      depth = h.depth;
    }

pub group_node::next_match-loop-doc-init : goal.group_node::next_match-loop-doc-init
group_node::next_match-loop-doc-init g t c =
    let lists = c.reach_members-doc.ensures.lists in
    let shape = c.reach_members-doc.ensures.shape in
    record {
      least = c.reach_members-doc.ensures.least;
      entries = group-reached g.S.DocSet g.met.S.DocSet.ascending c.args.target c.args.node.now c.reach_members-doc.new.node shape lists c.requires.some;
      members = c.reach_members-doc.ensures.members;
      room = HasRoom-moved c.args.target _ _ _ _ shape lists c.requires.room;
      shape = shape;
      depth = c.reach_members-doc.ensures.depth;
    }

pub group_node::next_match-loop-doc-preserved : goal.group_node::next_match-loop-doc-preserved
group_node::next_match-loop-doc-preserved g t c =
    let before = c.loop-doc.node in
    let ensured = c.reach_members-doc-in-loop-doc.ensures in
    let d = c.loop-doc.doc in
    let some : 1 ≤ before.shape.minimum = subst (λ (s : Shape). 1 ≤ s.minimum) (sym c.loop-doc.invariant.shape) c.requires.some in
    let few : length (scores_at d (group_lists g.S.DocSet before)) < before.shape.minimum =
    elim (cases_lt (length (scores_at d (group_lists g.S.DocSet before))) before.shape.minimum) [
      | inl less ↦ less
      | inr enough ↦ absurd (true≢false (sym (c.has_enough.ensures.1 enough) ∙ c.if-not-has_enough.true))
    ] in
    record {
      least = ensured.least;
      entries = group-passed g.S.DocSet g.met.S.DocSet.ascending d before c.reach_members-doc-in-loop-doc.new.node ensured.shape
          ensured.lists c.loop-doc.invariant.members.valid c.loop-doc.invariant.least some few ∙ c.loop-doc.invariant.entries;
      members = ensured.members;
      room = HasRoom-moved (d + 1) _ _ _ _ ensured.shape ensured.lists c.loop-doc.invariant.room;
      shape = ensured.shape ∙ c.loop-doc.invariant.shape;
      depth = omega (arith, ensured.depth, c.loop-doc.invariant.depth);
    }

pub group_node::next_match-loop-doc-smaller : goal.group_node::next_match-loop-doc-smaller
group_node::next_match-loop-doc-smaller g t c =
    omega (
      arith,
      c.reach_members-doc-in-loop-doc.ensures.least,
      ap least_head c.reach_members-doc-in-loop-doc.ensures.lists,
      least_head-from (c.loop-doc.doc + 1) (group_lists g.S.DocSet c.loop-doc.node) (omega (arith, c.loop-doc-test.true)),
      c.loop-doc-test.true,
    )

pub group_node::next_match-returns-after-loop-doc : goal.group_node::next_match-returns-after-loop-doc
group_node::next_match-returns-after-loop-doc g t c =
    let some = subst (λ (s : Shape). 1 ≤ s.minimum) (sym c.loop-doc.invariant.shape) c.requires.some in
    record {
      head = group-ended g.S.DocSet g.met.S.DocSet.ascending c.loop-doc.node c.loop-doc.doc c.loop-doc.invariant.members.valid c.loop-doc.invariant.least some
          (omega (arith, c.loop-doc-test.false));
      least = c.loop-doc.invariant.least;
      entries = c.loop-doc.invariant.entries;
      members = c.loop-doc.invariant.members;
      room = c.loop-doc.invariant.room;
      shape = c.loop-doc.invariant.shape;
      depth = c.loop-doc.invariant.depth;
    }

pub group_node::next_match-returns-else-not-has_enough : goal.group_node::next_match-returns-else-not-has_enough
group_node::next_match-returns-else-not-has_enough g t c =
    let some = subst (λ (s : Shape). 1 ≤ s.minimum) (sym c.loop-doc.invariant.shape) c.requires.some in
    record {
      head = group-enough g.S.DocSet g.met.S.DocSet.ascending c.loop-doc.node c.loop-doc.doc c.loop-doc.invariant.members.valid
          c.loop-doc.invariant.least some c.loop-doc-test.true (c.has_enough.ensures.0 c.if-not-has_enough.false);
      least = c.loop-doc.invariant.least;
      entries = c.loop-doc.invariant.entries;
      members = c.loop-doc.invariant.members;
      room = c.loop-doc.invariant.room;
      shape = c.loop-doc.invariant.shape;
      depth = c.loop-doc.invariant.depth;
    }

pub group_node::seek_group-next_match-node-requires : goal.group_node::seek_group-next_match-node-requires
group_node::seek_group-next_match-node-requires g t c κs within =
    (search (rules, gq.the_lemmas), (search rules, (c.requires.valid.members, (c.requires.valid.own.some, (c.requires.valid.own.room, c.requires.target)))))

pub group_node::seek_group-returns : goal.group_node::seek_group-returns
group_node::seek_group-returns g t c =
    elim c.if-node-target.branch [
      | group_node::seek_group-then-node-target w ↦
          let made = w.next_match-node.ensures in
          let moved = group-moved g.S.DocSet g.met.S.DocSet.ascending c.args.target c.args.node.now _ c.requires.valid
          (record { valid = made.members.valid; placed = made.members.placed; heads = made.members.heads })
          made.room made.shape made.head made.least made.entries in
          rw w.node-is (record {
            head = made.head;
            entries = made.entries;
            valid = moved;
            shape = made.shape;
            depth = size-members w.next_match-node.new.node _ _ (omega arith) made.depth;
          })
      | group_node::seek_group-else-node-target w ↦
          let there = group-there g.S.DocSet g.met.S.DocSet.ascending c.args.target c.args.node.now c.requires.valid (omega (arith, w.if-node-target.false)) in
          rw w.node-is (record { head = c.requires.valid.own.first; entries = there; valid = c.requires.valid; shape = refl; depth = omega arith })
    ]

-- ---- a tree that is taken through a window

pub union_node::take_tree-returns-in-Term : goal.union_node::take_tree-returns-in-Term
union_node::take_tree-returns-in-Term g t c =
    let e = c.take_in.ensures in
    swept-leaf g.S.DocSet Term (λ s. scored_left s.value) (λ _. refl)
    (same-Term g.row.S.Denot) c.args.window.now c.take_in.new.self c.args.bound c.take_in.result c.in-Term.leaf c.take_in.new.scorer
    c.in-Term.leaf-is c.in-Term.is e.head e.left.entries (ap (λ (l : Limits). l.top) e.left.limits) e.left.valid e.left.placed
    e.taken (search rules)

pub union_node::take_by_steps-loop-doc-init : goal.union_node::take_by_steps-loop-doc-init
union_node::take_by_steps-loop-doc-init g t c =
    let D = g.S.DocSet in
    let m = c.args.member.now in
    let es = tree_entries D m in
    let ascends = tree-ascends D g.met.S.DocSet.ascending m c.requires.valid in
    let here : c.doc_tree-doc.result ≡ head_document es = c.doc_tree-doc.ensures
    ∙ tree-head D g.met.S.DocSet.ascending m c.requires.valid c.requires.placed in
    record {
      here = here;
      left = sym (from-reached (min c.doc_tree-doc.result c.args.bound) 0 _ es (omega (arith, here)) ascends);
      top = refl;
      valid = c.requires.valid;
      placed = c.requires.placed;
      low = omega (arith, here, c.requires.first);
      taken = taken_to-none _ es ascends c.args.window.now c.doc_tree-doc.result here;
      depth = omega arith;
    }

pub union_node::take_by_steps-take_document-requires : goal.union_node::take_by_steps-take_document-requires
union_node::take_by_steps-take_document-requires g t c κs within =
    let D = g.S.DocSet in
    let m = c.args.member.now in
    let h = c.loop-doc.invariant in
    let doc = c.loop-doc.doc in
    let below : doc < TERMINATED = omega (arith, c.if-doc-lt-TERMINATED.true) in
    let start : c.args.window.now.start ≡ c.loop-doc.window.start = sym h.taken.start in
    let room = taken-next c.args.window.now c.loop-doc.window doc (tree_top D c.loop-doc.member) (tree_top D m) (tree_entries D m) h.taken
    (c.requires.room doc) h.top in (
      first_of (omega (arith, c.decreases, h.depth), search (rules, aq.the_lemmas)),
      (
        search rules,
        (h.valid, (h.placed, (h.here, (below, ((omega (arith, start, h.low), omega (arith, start, c.loop-doc-test.true, c.requires.bound)), room))))),
      ),
    )

pub union_node::take_by_steps-loop-doc-smaller : goal.union_node::take_by_steps-loop-doc-smaller
union_node::take_by_steps-loop-doc-smaller g t c =
    omega (
      arith,
      c.loop-doc-test.true,
      c.seek_tree-doc.ensures.head,
      ap head_document c.seek_tree-doc.ensures.entries,
      head_document-from
          (c.loop-doc.doc + 1) (tree_entries g.S.DocSet c.take_document.new.member) (omega arith),
    )

pub union_node::take_by_steps-loop-doc-preserved : goal.union_node::take_by_steps-loop-doc-preserved
union_node::take_by_steps-loop-doc-preserved g t c =
    let D = g.S.DocSet in
    let m = c.args.member.now in
    let es = tree_entries D m in
    let ascends = tree-ascends D g.met.S.DocSet.ascending m c.requires.valid in
    let doc = c.loop-doc.doc in
    let next = c.seek_tree-doc.result in
    let inv = c.loop-doc.invariant in
    let sought = c.seek_tree-doc.ensures in
    let asked = c.take_document.ensures in
    let below : doc < TERMINATED = omega (arith, c.if-doc-lt-TERMINATED.true) in
    let left : tree_entries D c.loop-doc.member ≡ from doc es = inv.left ∙ ap (λ n. from n es) (omega (arith, c.loop-doc-test.true)) in
    let here : doc ≡ head_document (from doc es) = inv.here ∙ ap head_document left in
    let rest : tree_entries D c.seek_tree-doc.new.scorer ≡ drop 1 (from doc es) =
    sought.entries ∙ ap (from (doc + 1)) (asked.entries ∙ left) ∙ ap (λ n. from (n + 1) (from doc es)) here
    ∙ from-next 0 _ (from doc es) (AreEntries-from_low doc 0 _ es ascends) in
    let goes : next ≡ head_document (drop 1 (from doc es)) = sought.head ∙ ap head_document rest in
    let past = next-past _ es ascends doc next here below goes in
    let score = ap head_score left in
    record {
      here = sought.head;
      left = rest ∙ step_min _ es ascends doc next here below goes c.args.bound c.loop-doc-test.true;
      top = sought.top ∙ asked.top ∙ inv.top;
      valid = sought.valid;
      placed = sought.placed;
      low = omega (arith, inv.low, past);
      taken = taken_to-more _ es ascends c.args.window.now c.loop-doc.window c.take_document.new.window doc next _ inv.taken asked.added score here below goes;
      depth = omega (arith, sought.depth, asked.depth, inv.depth);
    }

-- one document of a tree

pub union_node::take_document-returns-then-keeps_no_states-clause-added : goal.union_node::take_document-returns-then-keeps_no_states-clause-added
union_node::take_document-returns-then-keeps_no_states-clause-added g t c =
    c.mark.ensures.added _

pub union_node::take_document-add-requires-clause-room : goal.union_node::take_document-add-requires-clause-room
union_node::take_document-add-requires-clause-room g t c =
    let D = g.S.DocSet in
    let m = c.args.member.now in
    let n : ℕ = nat_abs (to_z w64 c.score_tree-score.result) in
    let is : n ≡ c.score_tree-score.result = ap nat_abs (to_z_pos w64 c.score_tree-score.result (omega (arith, c.score_tree-score.ensures.fits))) in
    let within = head_score-le 0 _ _ (tree-ascends D g.met.S.DocSet.ascending m c.requires.valid) in
    room-for _ n (tree_top D m) c.requires.room (omega (arith, is, c.score_tree-score.ensures.score, within))

pub union_node::take_document-returns-else-keeps_no_states-clause-added : goal.union_node::take_document-returns-else-keeps_no_states-clause-added
union_node::take_document-returns-else-keeps_no_states-clause-added g t c =
    let score = ap nat_abs (to_z_pos w64 c.score_tree-score.result (omega (arith, c.score_tree-score.ensures.fits))) ∙ c.score_tree-score.ensures.score in
    subst (IsAdded any_step c.args.window.now _ c.args.doc) score c.add.ensures

pub union_node::take_by_steps-returns-else-doc-lt-TERMINATED : goal.union_node::take_by_steps-returns-else-doc-lt-TERMINATED
union_node::take_by_steps-returns-else-doc-lt-TERMINATED g t c =
    let D = g.S.DocSet in
    let m = c.args.member.now in
    let es = tree_entries D m in
    let ascends = tree-ascends D g.met.S.DocSet.ascending m c.requires.valid in
    let inv = c.loop-doc.invariant in
    record {
      head = inv.here;
      entries = inv.left ∙ from-all_passed _ es ascends c.loop-doc.doc c.args.bound (omega (arith, c.if-doc-lt-TERMINATED.false));
      top = inv.top;
      valid = inv.valid;
      placed = inv.placed;
      depth = inv.depth;
      taken = taken_to-all _ es ascends c.args.window.now _ c.loop-doc.doc c.args.bound (omega (arith, c.if-doc-lt-TERMINATED.false))
          (inv.here ∙ ap head_document inv.left) inv.taken;
    }

pub union_node::take_by_steps-returns-after-loop-doc : goal.union_node::take_by_steps-returns-after-loop-doc
union_node::take_by_steps-returns-after-loop-doc g t c =
    let D = g.S.DocSet in
    let m = c.args.member.now in
    let es = tree_entries D m in
    let ascends = tree-ascends D g.met.S.DocSet.ascending m c.requires.valid in
    let inv = c.loop-doc.invariant in
    record {
      head = inv.here;
      entries = inv.left ∙ ap (λ n. from n es) (omega (arith, c.loop-doc-test.false));
      top = inv.top;
      valid = inv.valid;
      placed = inv.placed;
      depth = inv.depth;
      taken = taken_to-all _ es ascends c.args.window.now _ c.loop-doc.doc c.args.bound (omega (arith, c.loop-doc-test.false))
          (inv.here ∙ ap head_document inv.left) inv.taken;
    }

-- ---- a union

pub union_node::refill-loop-i-init : goal.union_node::refill-loop-i-init
union_node::refill-loop-i-init g t c =
    let D = g.S.DocSet in
    let law = tree-ascends D g.met.S.DocSet.ascending in
    let n = c.args.node.now in
    let e = c.reset_until_last.ensures in
    record {
      unvisited = (refl, λ k d low. refl);
      refilling = refilling-none (tree_entries D) (tree_limits D) (IsTree D) (IsTreePlaced D) law n.members.items (window_combiner n.window) n.doc
          (n.doc + c.args.span) n.window c.reset_until_last.new.self c.requires.members.valid c.requires.members.placed refl
          (record { start = e.start; documents = e.documents; until = e.until; combiner = e.combiner });
      doc = refl;
      top = refl;
      depth = search (rules, uq.the_lemmas);
    }

pub union_node::refill-take_tree-requires : goal.union_node::refill-take_tree-requires
union_node::refill-take_tree-requires g t c κs within =
    let D = g.S.DocSet in
    let law = tree-ascends D g.met.S.DocSet.ascending in
    let n = c.args.node.now in
    let i = c.loop-i.i in
    let xs = c.loop-i.node.members.items in
    let h = c.loop-i.invariant.refilling in
    let inside : i < length xs = omega (arith, c.loop-i.invariant.unvisited.0, c.loop-i-test.true, c.len-i-end.ensures, n.members.ok.0) in
    let item = c.index_mut.result.now in
    let read : item ≡ get_or xs i item = c.index_mut.ensures.value in
    let w = c.loop-i.node.window in
    let valid = subst (IsTree D) (sym read) (h.valid i item inside) in
    let placed = subst (IsTreePlaced D) (sym read) (h.placed i item inside) in
    let first = refilling-first (tree_entries D) (tree_limits D) (IsTree D) (IsTreePlaced D) law n.members.items (window_combiner n.window) n.doc
    (n.doc + c.args.span) xs i c.loop-i.least w h item inside read c.requires.first in
    let room = refilling-room (tree_entries D) (tree_limits D) (IsTree D) (IsTreePlaced D) law n.members.items (window_combiner n.window) n.doc
    (n.doc + c.args.span) xs i c.loop-i.least w h item inside read c.requires.members.valid c.requires.room c.requires.cleared in
    (search (rules, uq.the_lemmas), (search rules, (valid, (placed, (omega (arith, h.start, c.requires.span.1), (first, room))))))

pub union_node::refill-loop-i-preserved : goal.union_node::refill-loop-i-preserved
union_node::refill-loop-i-preserved g t c =
    let D = g.S.DocSet in
    let law = tree-ascends D g.met.S.DocSet.ascending in
    let n = c.args.node.now in
    let i = c.loop-i.i in
    let xs = c.loop-i.node.members.items in
    let h = c.loop-i.invariant.refilling in
    let inside : i < length xs = omega (arith, c.loop-i.invariant.unvisited.0, c.loop-i-test.true, c.len-i-end.ensures, n.members.ok.0) in
    let item = c.index_mut.result.now in
    let read : item ≡ get_or xs i item = c.index_mut.ensures.value in
    let x = c.take_tree.new.member in
    let e = c.take_tree.ensures in
    let smaller = subst (λ (y : AnyScorer g.row.S.Denot). size-AnyScorer g.row.S.Denot x ≤ size-AnyScorer g.row.S.Denot y) read e.depth in
    let made = refilling-more (tree_entries D) (tree_limits D) (IsTree D) (IsTreePlaced D) law n.members.items (window_combiner n.window) n.doc
    (n.doc + c.args.span) xs i c.loop-i.least c.loop-i.node.window h item inside read x c.take_tree.result c.take_tree.new.window e.valid e.placed
    (ap scores_to e.top) e.entries e.head e.taken in
    record {
      unvisited = search (rules, uq.the_lemmas);
      refilling = subst (λ l. IsRefilling (tree_entries D) (tree_limits D) (IsTree D) (IsTreePlaced D) law n.members.items (window_combiner n.window) n.doc
          (n.doc + c.args.span) (set xs i x) (i + 1) l c.take_tree.new.window) (sym c.min-least.ensures) made;
      doc = c.loop-i.invariant.doc;
      top = c.loop-i.invariant.top;
      depth = size-united c.loop-i.node _ _ (most-set (size-AnyScorer g.row.S.Denot) xs i x item inside smaller) c.loop-i.invariant.depth;
    }

pub union_node::refill-returns-clause-entries : goal.union_node::refill-returns-clause-entries
union_node::refill-returns-clause-entries g t c =
    let D = g.S.DocSet in
    let law = tree-ascends D g.met.S.DocSet.ascending in
    let n = c.args.node.now in
    let xs = c.loop-i.node.members.items in
    let h = c.loop-i.invariant.refilling in
    let ended : length xs ≤ c.loop-i.i = omega (arith, c.loop-i.invariant.unvisited.0, c.loop-i-test.false, c.len-i-end.ensures, n.members.ok.0) in
    ap (λ d. union_listing c.loop-i.node.window d (union_lists D c.loop-i.node)) c.loop-i.invariant.doc
    ∙ refilled-entries (tree_entries D) (tree_limits D) (IsTree D) (IsTreePlaced D) law n.members.items (window_combiner n.window) n.doc
    (n.doc + c.args.span) xs c.loop-i.i c.loop-i.least c.loop-i.node.window h ended c.requires.members.valid c.requires.first (omega arith)
    c.requires.cleared

pub union_node::refill-returns-clause-behind : goal.union_node::refill-returns-clause-behind
union_node::refill-returns-clause-behind g t c =
    let D = g.S.DocSet in
    let law = tree-ascends D g.met.S.DocSet.ascending in
    let n = c.args.node.now in
    let xs = c.loop-i.node.members.items in
    let h = c.loop-i.invariant.refilling in
    let ended : length xs ≤ c.loop-i.i = omega (arith, c.loop-i.invariant.unvisited.0, c.loop-i-test.false, c.len-i-end.ensures, n.members.ok.0) in
    refilled-behind (tree_entries D) (tree_limits D) (IsTree D) (IsTreePlaced D) law n.members.items (window_combiner n.window) n.doc
    (n.doc + c.args.span) xs c.loop-i.i c.loop-i.least c.loop-i.node.window h ended c.requires.members.valid c.requires.first

pub union_node::refill-returns-clause-here : goal.union_node::refill-returns-clause-here
union_node::refill-returns-clause-here g t c =
    let D = g.S.DocSet in
    let law = tree-ascends D g.met.S.DocSet.ascending in
    let n = c.args.node.now in
    let xs = c.loop-i.node.members.items in
    let h = c.loop-i.invariant.refilling in
    let ended : length xs ≤ c.loop-i.i = omega (arith, c.loop-i.invariant.unvisited.0, c.loop-i-test.false, c.len-i-end.ensures, n.members.ok.0) in
    refilled-here (tree_entries D) (tree_limits D) (IsTree D) (IsTreePlaced D) law n.members.items (window_combiner n.window) n.doc
    (n.doc + c.args.span) xs c.loop-i.i c.loop-i.least c.loop-i.node.window h ended c.requires.members.valid c.requires.first c.requires.some
    (omega (arith, c.requires.span.0))

pub union_node::go_on-returns-then-node-eq-TERMINATED : goal.union_node::go_on-returns-then-node-eq-TERMINATED
union_node::go_on-returns-then-node-eq-TERMINATED g t c =
    let D = g.S.DocSet in
    let n = c.args.node.now in
    let law = tree-ascends D g.met.S.DocSet.ascending in
    let members = AreMembers-map (tree_limits D) (tree_entries D) n.members.items (λ k d inside. law _ (c.requires.members.valid k d inside)) in
    let none : union_listing n.window n.ahead (union_lists D n) ≡ gather 1 (any_combined (window_combiner n.window)) (union_lists D n) =
    windowed-ended 1 (omega arith) (window_has n.window) (kept_score n.window) (any_combined (window_combiner n.window)) _ _ members n.ahead c.requires.behind
    (λ d here. let below = c.requires.behind d here in omega (arith, c.requires.ahead)) in
    let own = union_listing-made (tree_entries D) (tree_limits D) (IsTree D) law n.members.items n.window (window_combiner n.window) n.ahead n.ahead n.top
    (union_limits D n) (union_lists D n) c.requires.members.valid c.requires.parts refl c.requires.ahead none
    (λ below. absurd (omega (arith, c.if-node-eq-TERMINATED.true))) (omega arith) c.requires.ahead c.requires.behind in
    record {
      head = sym c.if-node-eq-TERMINATED.true ∙ own.standing.first;
      entries = none;
      limits = refl;
      valid = record { members = record { valid = c.requires.members.valid; placed = c.requires.members.placed }; own = own };
      top = refl;
      depth = search (rules, uq.the_lemmas);
    }

pub union_node::go_on-refill-node-requires : goal.union_node::go_on-refill-node-requires
union_node::go_on-refill-node-requires g t c κs within =
    let n = c.args.node.now in
    let below : n.ahead < TERMINATED = omega (arith, c.requires.ahead, least_head-most (union_lists g.S.DocSet n), c.if-node-eq-TERMINATED.false) in (
      search (rules, uq.the_lemmas),
      (
        search rules,
        (
          record { valid = c.requires.members.valid; placed = c.requires.members.placed },
          (c.requires.parts.fits, (c.requires.parts.until, (c.requires.parts.start, (c.requires.ahead, (below, c.requires.span))))),
        ),
      ),
    )

pub union_node::go_on-returns : goal.union_node::go_on-returns
union_node::go_on-returns g t c =
    let D = g.S.DocSet in
    let law = tree-ascends D g.met.S.DocSet.ascending in
    let old = c.args.node.now in
    let n = c.refill-node.new.node in
    let r = c.refill-node.ensures in
    let p = c.requires.parts in
    let parts : HasUnionParts n.window n.top (union_limits D n) = record {
      fits = omega (arith, ap total_top r.limits, p.fits);
      bound = r.top ∙ p.bound ∙ ap (λ ls. max 1 (total_top ls)) (sym r.limits);
      start = subst (IsCleared any_cleared) (sym r.combiner) p.start;
      until = r.until;
    } in
    let first = r.behind old.ahead r.here in
    let own = union_listing-made (tree_entries D) (tree_limits D) (IsTree D) law old.members.items n.window
    (window_combiner old.window) n.doc c.refill-node.result n.top (union_limits D n) (union_lists D n) c.requires.members.valid parts r.limits
    (r.doc ∙ c.requires.ahead) r.entries (λ _. ap (window_has n.window) r.doc ∙ r.here) (omega (arith, r.doc, first)) r.least r.behind in
    record {
      head = own.standing.first;
      entries = r.entries;
      limits = r.limits;
      valid = record { members = record { valid = r.members.valid; placed = r.members.placed }; own = own };
      top = r.top;
      depth = search (rules, uq.the_lemmas);
    }

pub union_node::reach_each-loop-i-preserved : goal.union_node::reach_each-loop-i-preserved
union_node::reach_each-loop-i-preserved g t c =
    let i = c.loop-i.i in
    let xs = c.loop-i.node.members.items in
    let x = c.reach_tree.new.scorer in
    let d = c.args.target in
    let long = c.loop-i.invariant.unvisited.0 in
    let here : i < length xs = omega (arith, long, c.loop-i-test.true, c.len-i-end.ensures, c.args.node.now.members.ok.0) in
    let item = c.index_mut.result.now in
    let read : tree_entries g.S.DocSet item ≡ tree_entries g.S.DocSet (get_or xs i item) = ap (tree_entries g.S.DocSet) (c.index_mut.ensures.value) in
    let cut : from d (tree_entries g.S.DocSet x) ≡ from d (tree_entries g.S.DocSet (get_or xs i c.index_mut.result.now)) =
    ap (from d) (c.reach_tree.ensures.sought.entries ∙ ap (from d) read) ∙ from-from d d _ (omega arith) in
    let Stands : AnyScorer g.row.S.Denot → Type 0 = λ m. d ≤ head_document (tree_entries g.S.DocSet m) in
    let grown : take (i + 1) (set xs i x) ≡ take i xs ++ x ∷ [] = take-set_at xs i (i + 1) x (omega arith) here in
    let past : Stands x = rw c.reach_tree.ensures.sought.entries (head_document-from d _ c.requires.target) in
    let more = take-map-set_more (tree_entries g.S.DocSet) xs i x here in
    let pushed = least_head-push (take i (map (tree_entries g.S.DocSet) xs)) (tree_entries g.S.DocSet x) in
    let smaller = subst (λ (y : AnyScorer g.row.S.Denot). size-AnyScorer g.row.S.Denot x ≤ size-AnyScorer g.row.S.Denot y)
    c.index_mut.ensures.value c.reach_tree.ensures.sought.depth in
    record {
      unvisited = search (rules, uq.the_lemmas);
      valid = All-set (IsTree g.S.DocSet) xs i x c.reach_tree.ensures.sought.valid c.loop-i.invariant.valid;
      placed = All-set (IsTreePlaced g.S.DocSet) xs i x c.reach_tree.ensures.sought.placed c.loop-i.invariant.placed;
      lists = map-map-set_same (from d) (tree_entries g.S.DocSet) xs i x c.index_mut.result.now here cut ∙ c.loop-i.invariant.lists;
      limits = map-set_same (tree_limits g.S.DocSet) xs i x c.index_mut.result.now here
          (ap scores_to (c.reach_tree.ensures.sought.top ∙ ap (tree_top g.S.DocSet) c.index_mut.ensures.value)) ∙ c.loop-i.invariant.limits;
      reached = rw grown (All-push Stands (take i xs) x c.loop-i.invariant.reached past);
      least = omega (arith, ap least_head more, pushed, c.loop-i.invariant.least, c.reach_tree.ensures.sought.head, c.min-least.ensures);
      window = c.loop-i.invariant.window;
      top = c.loop-i.invariant.top;
      depth = size-united c.loop-i.node _ _ (most-set (size-AnyScorer g.row.S.Denot) xs i x c.index_mut.result.now here smaller) c.loop-i.invariant.depth;
    }

pub union_node::reach_each-returns : goal.union_node::reach_each-returns
union_node::reach_each-returns g t c =
    let xs = c.loop-i.node.members.items in
    let long : length xs ≤ c.loop-i.i = omega (arith, c.loop-i.invariant.unvisited.0, c.loop-i-test.false, c.len-i-end.ensures, c.args.node.now.members.ok.0) in
    let whole : take c.loop-i.i xs ≡ xs = take_all c.loop-i.i xs long in
    let reached = subst (All (λ x. c.args.target ≤ head_document (tree_entries g.S.DocSet x))) whole c.loop-i.invariant.reached in
    let law = tree-ascends g.S.DocSet g.met.S.DocSet.ascending in
    record {
      least = c.loop-i.invariant.least
          ∙ ap least_head (take_all c.loop-i.i (map (tree_entries g.S.DocSet) xs) (omega (arith, length-map xs (tree_entries g.S.DocSet), long)));
      lists = sym (from-row (tree_entries g.S.DocSet) (tree_limits g.S.DocSet) c.args.target xs
          (λ k d below. law _ (c.loop-i.invariant.valid k d below)) reached) ∙ c.loop-i.invariant.lists;
      limits = c.loop-i.invariant.limits;
      members = record { valid = c.loop-i.invariant.valid; placed = c.loop-i.invariant.placed };
      window = c.loop-i.invariant.window;
      top = c.loop-i.invariant.top;
      depth = c.loop-i.invariant.depth;
    }

pub union_node::seek_union-returns-then-target-node-clause-entries : goal.union_node::seek_union-returns-then-target-node-clause-entries
union_node::seek_union-returns-then-target-node-clause-entries g t c =
    let h = c.requires.valid.own.standing in
    sym (from-reached c.args.target 0 _ _ (omega (arith, h.first, c.if-target-node.true)) h.ascending)

pub union_node::seek_union-returns-in-Some : goal.union_node::seek_union-returns-in-Some
union_node::seek_union-returns-in-Some g t c =
    let D = g.S.DocSet in
    let law = tree-ascends D g.met.S.DocSet.ascending in
    let n = c.args.node.now in
    let members = AreMembers-map (tree_limits D) (tree_entries D) n.members.items (λ k d inside. law _ (c.requires.valid.members.valid k d inside)) in
    let h = c.requires.valid.own in
    let went = goes_next 1 (omega arith) (window_has n.window) (kept_score n.window) n.doc n.ahead (any_combined (window_combiner n.window))
    (united_limits (union_limits D n)) _ _ members h.standing c.args.target c.in-Some.doc (window_end n.window) (omega (arith, c.if-target-node.false))
    (answers_first n.window c.args.target c.in-Some.doc c.in-Some.ensures) in
    record {
      head = went.1.first;
      entries = went.0;
      valid = record {
        members = record { valid = c.requires.valid.members.valid; placed = c.requires.valid.members.placed };
        own =
            record { parts = h.parts; standing = went.1 };
      };
      top = refl;
      depth = search (rules, uq.the_lemmas);
    }

pub union_node::seek_union-go_on-requires : goal.union_node::seek_union-go_on-requires
union_node::seek_union-go_on-requires g t c κs within =
    let h = c.requires.valid in (
      search (rules, uq.the_lemmas),
      (
        search rules,
        (
          record { valid = h.members.valid; placed = h.members.placed },
          (h.own.parts, (c.next_span-span.ensures, (h.own.standing.next, h.own.standing.behind))),
        ),
      ),
    )

pub union_node::seek_union-returns-then-target-node-2-clause-entries : goal.union_node::seek_union-returns-then-target-node-2-clause-entries
union_node::seek_union-returns-then-target-node-2-clause-entries g t c =
    let D = g.S.DocSet in
    let law = tree-ascends D g.met.S.DocSet.ascending in
    let n = c.args.node.now in
    let members = AreMembers-map (tree_limits D) (tree_entries D) n.members.items (λ k d inside. law _ (c.requires.valid.members.valid k d inside)) in
    c.go_on.ensures.entries
    ∙ goes_on 1 (omega arith) (window_has n.window) (kept_score n.window) n.doc n.ahead (any_combined (window_combiner n.window))
    (united_limits (union_limits D n)) _ _ members
    c.requires.valid.own.standing c.args.target (omega (arith, c.if-target-node.false)) (omega (arith, c.if-target-node-2.true))
    (answers_none n.window c.args.target c.in_default.ensures)

pub union_node::seek_union-go_on-requires-2 : goal.union_node::seek_union-go_on-requires-2
union_node::seek_union-go_on-requires-2 g t c κs within =
    let D = g.S.DocSet in
    let law = tree-ascends D g.met.S.DocSet.ascending in
    let n = c.args.node.now in
    let e = c.reach_each-node.ensures in
    let reached : c.args.target ≤ c.reach_each-node.result =
    omega (arith, e.least, ap least_head e.lists, least_head-from c.args.target (union_lists D n) c.requires.target) in
    let behind : (d : ℕ) → window_has c.reach_each-node.new.node.window d ≡ true → d < c.reach_each-node.result = λ d here. elim (cases_lt d c.args.target) [
      | inl below ↦ omega (arith, reached)
      | inr past ↦ absurd (true≢false (sym here ∙ ap (λ w. window_has w d) e.window ∙ answers_none n.window c.args.target c.in_default.ensures d past))
    ] in (
      search (rules, uq.the_lemmas),
      (
        search rules,
        (
          record { valid = e.members.valid; placed = e.members.placed },
          (parts-same e.window e.top e.limits c.requires.valid.own.parts, ((omega arith, omega arith), (e.least, behind))),
        ),
      ),
    )

pub union_node::seek_union-returns-clause-entries : goal.union_node::seek_union-returns-clause-entries
union_node::seek_union-returns-clause-entries g t c =
    let D = g.S.DocSet in
    let law = tree-ascends D g.met.S.DocSet.ascending in
    let n = c.args.node.now in
    let members = AreMembers-map (tree_limits D) (tree_entries D) n.members.items (λ k d inside. law _ (c.requires.valid.members.valid k d inside)) in
    let e = c.reach_each-node.ensures in
    let new = c.reach_each-node.new.node in
    let h = c.requires.valid.own in
    let after = AreMembers-map (tree_limits D) (tree_entries D) new.members.items (λ k d inside. law _ (e.members.valid k d inside)) in
    let kept : map (from c.args.target) (union_lists D new) ≡ map (from c.args.target) (union_lists D n) = ap (map (from c.args.target)) e.lists
    ∙ cut_twice c.args.target (union_lists D n) in
    let reached : c.args.target ≤ least_head (union_lists D new) =
    omega (arith, ap least_head e.lists, least_head-from c.args.target (union_lists D n) c.requires.target) in
    c.go_on-2.ensures.entries ∙ ap (λ w. gather 1 (any_combined (window_combiner w)) (union_lists D new)) e.window
    ∙ goes_past 1 (omega arith) (window_has n.window) (kept_score n.window) n.doc n.ahead (any_combined (window_combiner n.window))
    (united_limits (union_limits D n)) _ _ members h.standing c.args.target _ _ after (omega (arith, c.if-target-node.false))
    (answers_none n.window c.args.target c.in_default.ensures) reached kept

-- ---- intersections

pub intersection_node::danger_others-loop-i-preserved : goal.intersection_node::danger_others-loop-i-preserved
intersection_node::danger_others-loop-i-preserved g t c =
    let i = c.loop-i.i in
    let xs = c.loop-i.others in
    let x = c.danger_tree.new.scorer in
    let d = c.args.target in
    let here : i < length xs = omega (arith, c.loop-i.auto.others, c.loop-i-test.true) in
    let cut = ap (from d) c.danger_tree.ensures.entries ∙ from-from d d _ (omega arith) in
    let Stands : AnyScorer g.row.S.Denot → Type 0 = λ m. IsTreePlaced g.S.DocSet m × (head_document (tree_entries g.S.DocSet m) ≡ d) in
    let grown : take (i + 1) (set xs i x) ≡ take i xs ++ x ∷ [] = take-set_at xs i (i + 1) x (omega arith) here in
    record {
      valid = All-set (IsTree g.S.DocSet) xs i x c.danger_tree.ensures.valid c.loop-i.invariant.valid;
      lists = map-map-set_same (from d) (tree_entries g.S.DocSet) xs i x c.index-others-i.result here cut ∙ c.loop-i.invariant.lists;
      found = rw grown (All-push Stands (take i xs) x c.loop-i.invariant.found (c.in_default.ensures.placed, c.in_default.ensures.answer.here));
      depth = omega (arith, most-set (size-AnyScorer g.row.S.Denot) xs i x c.index-others-i.result here c.danger_tree.ensures.depth, c.loop-i.invariant.depth);
    }

pub intersection_node::danger_others-danger_tree-requires : goal.intersection_node::danger_others-danger_tree-requires
intersection_node::danger_others-danger_tree-requires g t c κs within =
    let i = c.loop-i.i in
    let xs = c.loop-i.others in
    let here : i < length xs = omega (arith, c.loop-i.auto.others, c.loop-i-test.true) in
    let smaller = at_most (size-AnyScorer g.row.S.Denot) xs i c.index-others-i.result here in (
      omega (arith, c.decreases, smaller, size_is-IntersectionNode g.row.S.Denot c.args.node.now, c.loop-i.invariant.depth),
      (search rules, (c.loop-i.invariant.valid i _ here, omega (arith, c.requires.target))),
    )

pub intersection_node::danger_others-returns-in-SeekLowerBound : goal.intersection_node::danger_others-returns-in-SeekLowerBound
intersection_node::danger_others-returns-in-SeekLowerBound g t c =
    let size = size-AnyScorer g.row.S.Denot in
    let i = c.loop-i.i in
    let xs = c.loop-i.others in
    let x = c.danger_tree.new.scorer in
    let d = c.args.target in
    let here : i < length xs = omega (arith, c.loop-i.auto.others, c.loop-i-test.true) in
    let whole = with_items_is c.args.node.now.others (set xs i x)
    (omega (arith, length-set xs i x, c.loop-i.auto.others, ap length c.as_mut_slice-others.ensures.value, c.args.node.now.others.ok.0)) in
    let answer = c.in-SeekLowerBound.ensures.answer in
    let bounds = head_document-bounds 0 _ _ (omega arith) (tree-ascends g.S.DocSet g.met.S.DocSet.ascending x c.danger_tree.ensures.valid) in
    let there : i < length (set xs i x) = omega (arith, length-set xs i x, here) in
    let held = subst (λ ys. i < length ys) (sym whole) there in
    let read = ap (λ ys. get_or ys i x) whole ∙ get_or-set_same xs i x x here in
    let cut = ap (from d) c.danger_tree.ensures.entries ∙ from-from d d _ (omega arith) in
    let smaller = most-set size xs i x c.index-others-i.result here c.danger_tree.ensures.depth in
    record {
      answer = (answer.past c.requires.target, omega (arith, answer.before_all, bounds.1), (i, x, held, read, answer.before_all));
      lists = ap (λ ys. map (from d) (map (tree_entries g.S.DocSet) ys)) whole
          ∙ map-map-set_same (from d) (tree_entries g.S.DocSet) xs i x c.index-others-i.result here cut ∙ c.loop-i.invariant.lists;
      others = subst (All (IsTree g.S.DocSet)) (sym whole) (All-set (IsTree g.S.DocSet) xs i x c.danger_tree.ensures.valid c.loop-i.invariant.valid);
      leader = refl;
      top = refl;
      depth = size-others c.args.node.now _ (omega arith) (omega (arith, ap (most size) whole, smaller, c.loop-i.invariant.depth));
    }

pub intersection_node::danger_others-returns : goal.intersection_node::danger_others-returns
intersection_node::danger_others-returns g t c =
    let xs = c.loop-i.others in
    let whole = with_items_is c.args.node.now.others xs
    (omega (arith, c.loop-i.auto.others, ap length c.as_mut_slice-others.ensures.value, c.args.node.now.others.ok.0)) in
    let all : take c.loop-i.i xs ≡ xs = take_all c.loop-i.i xs (omega (arith, c.loop-i.auto.others, c.loop-i-test.false)) in
    let Stands : AnyScorer g.row.S.Denot → Type 0 = λ m. IsTreePlaced g.S.DocSet m × (head_document (tree_entries g.S.DocSet m) ≡ c.args.target) in
    record {
      answer = subst (All Stands) (all ∙ sym whole) c.loop-i.invariant.found;
      lists = ap (λ ys. map (from c.args.target) (map (tree_entries g.S.DocSet) ys)) whole ∙ c.loop-i.invariant.lists;
      others = subst (All (IsTree g.S.DocSet)) (sym whole) c.loop-i.invariant.valid;
      leader = refl;
      top = refl;
      depth = size-others c.args.node.now _ (omega arith) (omega (arith, ap (most (size-AnyScorer g.row.S.Denot)) whole, c.loop-i.invariant.depth));
    }

pub intersection_node::align-loop-candidate-preserved : goal.intersection_node::align-loop-candidate-preserved
intersection_node::align-loop-candidate-preserved g t c =
    let law = tree-ascends g.S.DocSet g.met.S.DocSet.ascending in
    let h = c.loop-candidate.invariant in
    let answer = c.in-SeekLowerBound.ensures.answer in
    let old = c.loop-candidate.node in
    let n = c.danger_others.new.node in
    let es = tree_entries g.S.DocSet old.leader in
    let ascends = law old.leader h.leader in
    let there : c.loop-candidate.candidate ≤ head_document es = omega (arith, h.here) in
    let passed = common_entries-passed (IsTree g.S.DocSet) (tree_limits g.S.DocSet) (tree_entries g.S.DocSet) law held_sum c.loop-candidate.candidate
    _ es old.others.items n.others.items there ascends h.others c.in-SeekLowerBound.ensures.others c.in-SeekLowerBound.ensures.lists in
    let caught_up = common_entries-caught_up (IsTree g.S.DocSet) (tree_limits g.S.DocSet)
    (tree_entries g.S.DocSet) law held_sum c.in-SeekLowerBound.bound _ es n.others.items answer.1 ascends c.in-SeekLowerBound.ensures.others answer.2 in
    let cut = ap (λ r. common_entries held_sum (r ∷ map (tree_entries g.S.DocSet) n.others.items))
    (c.seek_tree-candidate.ensures.entries ∙ ap (λ x. from c.in-SeekLowerBound.bound (tree_entries g.S.DocSet x)) c.in-SeekLowerBound.ensures.leader) in
    record {
      here = c.seek_tree-candidate.ensures.head;
      placed = c.seek_tree-candidate.ensures.placed;
      leader = c.seek_tree-candidate.ensures.valid;
      others = c.in-SeekLowerBound.ensures.others;
      entries = cut ∙ caught_up ∙ passed ∙ h.entries;
      top = c.in-SeekLowerBound.ensures.top ∙ h.top;
      depth = search (rules, iq.the_lemmas);
    }

pub intersection_node::align-loop-candidate-smaller : goal.intersection_node::align-loop-candidate-smaller
intersection_node::align-loop-candidate-smaller g t c =
    let answer = c.in-SeekLowerBound.ensures.answer in
    omega (
      arith,
      answer.0,
      c.seek_tree-candidate.ensures.head,
      ap head_document c.seek_tree-candidate.ensures.entries,
      head_document-from c.in-SeekLowerBound.bound (tree_entries g.S.DocSet c.danger_others.new.node.leader) answer.1,
      c.loop-candidate-test.true,
    )

pub intersection_node::align-seek_tree-candidate-requires : goal.intersection_node::align-seek_tree-candidate-requires
intersection_node::align-seek_tree-candidate-requires g t c κs within = (
  search (rules, iq.the_lemmas),
  (
    search rules,
    (subst (IsTree g.S.DocSet) (sym c.in-SeekLowerBound.ensures.leader) c.loop-candidate.invariant.leader, c.in-SeekLowerBound.ensures.answer.1),
  ),
)

pub intersection_node::align-returns : goal.intersection_node::align-returns
intersection_node::align-returns g t c =
    let law = tree-ascends g.S.DocSet g.met.S.DocSet.ascending in
    let h = c.loop-candidate.invariant in
    record {
      head = h.here ∙ head_document-together (IsTree g.S.DocSet) (tree_limits g.S.DocSet) (tree_entries g.S.DocSet) law held_sum (IsTreePlaced g.S.DocSet)
          _ _ c.loop-candidate.node.others.items (law _ h.leader) h.others (λ below. absurd (omega (arith, h.here, c.loop-candidate-test.false)));
      entries = h.entries;
      trees = record { leader = h.leader; others = h.others };
      placed = record { leader = h.placed; others = λ below. absurd (omega (arith, h.here, c.loop-candidate-test.false)) };
      top = h.top;
      depth = h.depth;
    }

pub intersection_node::align-returns-in-Found : goal.intersection_node::align-returns-in-Found
intersection_node::align-returns-in-Found g t c =
    let law = tree-ascends g.S.DocSet g.met.S.DocSet.ascending in
    let h = c.loop-candidate.invariant in
    let old = c.loop-candidate.node in
    let n = c.danger_others.new.node in
    let found = c.in-Found.ensures in
    let here : c.loop-candidate.candidate ≡ head_document (tree_entries g.S.DocSet n.leader) = h.here
    ∙ ap (λ x. head_document (tree_entries g.S.DocSet x)) (sym found.leader) in
    let leads = subst (IsTree g.S.DocSet) (sym found.leader) h.leader in
    let together = subst (λ d. StandOn (IsTreePlaced g.S.DocSet) (tree_entries g.S.DocSet) d n.others.items) here found.answer in
    let there : c.loop-candidate.candidate ≤ head_document (tree_entries g.S.DocSet old.leader) = omega (arith, h.here) in
    record {
      head = here ∙ head_document-together (IsTree g.S.DocSet) (tree_limits g.S.DocSet) (tree_entries g.S.DocSet) law held_sum
          (IsTreePlaced g.S.DocSet) _ _ n.others.items (law n.leader leads) found.others (λ below. together);
      entries = ap (λ x. common_entries held_sum (tree_entries g.S.DocSet x ∷ map (tree_entries g.S.DocSet) n.others.items)) found.leader
          ∙ common_entries-passed (IsTree g.S.DocSet) (tree_limits g.S.DocSet) (tree_entries g.S.DocSet) law held_sum c.loop-candidate.candidate _
          (tree_entries g.S.DocSet old.leader) old.others.items n.others.items there (law _ h.leader) h.others found.others found.lists
          ∙ h.entries;
      trees = record { leader = leads; others = found.others };
      placed = record { leader = subst (IsTreePlaced g.S.DocSet) (sym found.leader) h.placed; others = λ below. together };
      top = found.top ∙ h.top;
      depth = omega (arith, found.depth, h.depth);
    }

pub intersection_node::danger_intersection-returns-in-Found : goal.intersection_node::danger_intersection-returns-in-Found
intersection_node::danger_intersection-returns-in-Found g t c =
    let law = tree-ascends g.S.DocSet g.met.S.DocSet.ascending in
    let old = c.args.node.now in
    let n = c.danger_others.new.node in
    let asks = c.danger_others.ensures in
    let found = c.in-Found.ensures in
    let leads = subst (IsTree g.S.DocSet) (sym asks.leader) found.valid in
    let here : head_document (tree_entries g.S.DocSet n.leader) ≡ c.args.target = ap (λ x. head_document (tree_entries g.S.DocSet x)) asks.leader
    ∙ found.answer.here in
    let cut = ap (tree_entries g.S.DocSet) asks.leader ∙ found.entries in
    record {
      answer = IsSeekAnswer-shared (IsTree g.S.DocSet) (tree_limits g.S.DocSet) (tree_entries g.S.DocSet) law held_sum (IsTreePlaced g.S.DocSet)
          c.args.target _ _ n.others.items c.danger_others.result found.answer.below_end (law n.leader leads) here asks.others asks.answer;
      entries = common_entries-sought (IsTree g.S.DocSet) (tree_limits g.S.DocSet) (tree_entries g.S.DocSet) law held_sum c.args.target _ _ _
          old.others.items n.others.items c.requires.target (law _ c.requires.trees.leader) cut c.requires.trees.others asks.others asks.lists;
      trees = record { leader = leads; others = asks.others };
      placed = placed_where g.S.DocSet c.args.target n (sym here)
          (subst (IsTreePlaced g.S.DocSet) (sym asks.leader) found.placed) c.danger_others.result asks.answer;
      top = asks.top;
      depth = omega (arith, asks.depth, size-led old c.danger_tree.new.scorer found.depth);
    }

pub intersection_node::danger_intersection-returns-in-SeekLowerBound : goal.intersection_node::danger_intersection-returns-in-SeekLowerBound
intersection_node::danger_intersection-returns-in-SeekLowerBound g t c =
    let law = tree-ascends g.S.DocSet g.met.S.DocSet.ascending in
    let old = c.args.node.now in
    let bound = c.in-SeekLowerBound.ensures in
    record {
      answer = record {
        before_all = leader_bound-common_entries (IsTree g.S.DocSet) (tree_limits g.S.DocSet) (tree_entries g.S.DocSet) law held_sum
            c.in-SeekLowerBound.bound _ _ old.others.items bound.answer.before_all (law _ bound.valid) c.requires.trees.others;
        past = bound.answer.past;
        at_end = bound.answer.at_end;
      };
      entries = common_entries-sought (IsTree g.S.DocSet) (tree_limits g.S.DocSet) (tree_entries g.S.DocSet) law held_sum c.args.target _ _ _ old.others.items
          old.others.items c.requires.target (law _ c.requires.trees.leader) bound.entries c.requires.trees.others c.requires.trees.others refl;
      trees = record { leader = bound.valid; others = c.requires.trees.others };
      placed = tt;
      top = refl;
      depth = size-led old c.danger_tree.new.scorer bound.depth;
    }

pub intersection_node::seek_intersection-returns : goal.intersection_node::seek_intersection-returns
intersection_node::seek_intersection-returns g t c =
    let law = tree-ascends g.S.DocSet g.met.S.DocSet.ascending in
    let old = c.args.node.now in
    let aligned = c.align.ensures in
    let sought = c.seek_tree-candidate.ensures in
    let cut = ap (λ es. common_entries held_sum (es ∷ map (tree_entries g.S.DocSet) old.others.items)) sought.entries in
    record {
      head = aligned.head;
      entries = aligned.entries ∙ cut ∙ common_entries-cut (IsTree g.S.DocSet) (tree_limits g.S.DocSet)
          (tree_entries g.S.DocSet) law held_sum c.args.target _ _ old.others.items c.requires.target (law _ c.requires.trees.leader) c.requires.trees.others;
      trees = aligned.trees;
      placed = aligned.placed;
      top = aligned.top;
      depth = omega (arith, aligned.depth, size-led old c.seek_tree-candidate.new.scorer sought.depth);
    }

-- ---- a term, which comes first

pub any_scorer::seek_tree-returns-in-Term : goal.any_scorer::seek_tree-returns-in-Term
any_scorer::seek_tree-returns-in-Term g t c =
    sought-leaf g.S.DocSet Term (λ s. scored_left s.value) (λ _. refl) (same-Term g.row.S.Denot) c.args.target c.seek.result
    c.in-Term.leaf c.seek.new.self c.in-Term.leaf-is c.in-Term.is c.seek.ensures.head c.seek.ensures.entries
    (ap (λ (l : Limits). l.top) c.seek.ensures.limits) c.seek.ensures.valid c.seek.ensures.placed (search rules)

pub any_scorer::danger_tree-returns-in-Term : goal.any_scorer::danger_tree-returns-in-Term
any_scorer::danger_tree-returns-in-Term g t c =
    answered-leaf g.S.DocSet Term (λ s. scored_left s.value) (λ _. refl) (same-Term g.row.S.Denot) c.args.target c.seek_danger.result
    c.in-Term.leaf c.seek_danger.new.self c.in-Term.leaf-is c.in-Term.is c.seek_danger.ensures.answer c.seek_danger.ensures.entries
    (ap (λ (l : Limits). l.top) c.seek_danger.ensures.limits) c.seek_danger.ensures.valid c.seek_danger.ensures.placed (search rules)

-- ---- and one of the caller's own

pub any_scorer::seek_tree-returns-in-Own : goal.any_scorer::seek_tree-returns-in-Own
any_scorer::seek_tree-returns-in-Own g t c =
    let sought = c.seek-in-Own in
    sought-leaf g.S.DocSet Own g.S.DocSet.entries (λ _. refl) (same-Own g.row.S.Denot) c.args.target sought.result
    c.in-Own.leaf sought.new.self c.in-Own.leaf-is c.in-Own.is sought.ensures.head sought.ensures.entries
    (ap (λ (l : Limits). l.top) sought.ensures.limits) sought.ensures.valid sought.ensures.placed (search rules)

pub any_scorer::danger_tree-returns-in-Own : goal.any_scorer::danger_tree-returns-in-Own
any_scorer::danger_tree-returns-in-Own g t c =
    let sought = c.seek_danger-in-Own in
    answered-leaf g.S.DocSet Own g.S.DocSet.entries (λ _. refl) (same-Own g.row.S.Denot) c.args.target sought.result
    c.in-Own.leaf sought.new.self c.in-Own.leaf-is c.in-Own.is sought.ensures.answer sought.ensures.entries
    (ap (λ (l : Limits). l.top) sought.ensures.limits) sought.ensures.valid sought.ensures.placed (search rules)

-- ---- the nodes of the enum
pub any_scorer::seek_other-returns-in-Boost : goal.any_scorer::seek_other-returns-in-Boost
any_scorer::seek_other-returns-in-Boost g t c =
    let node = c.in-Boost.node in
    let lent = rw (c.in-Boost.is, outs-Boost node) at c.deref_mut.ensures.value in
    let moved = moved-Boost g.S.DocSet c.args.target node c.seek_tree.new.scorer lent
    (subst (IsTree g.S.DocSet) c.in-Boost.is c.requires.valid) c.seek_tree.ensures.entries c.seek_tree.ensures.valid c.seek_tree.ensures.depth in
    sought-as g.S.DocSet c.args.target c.seek_tree.result (Boost node)
    (Boost (record node { value = record c.deref_mut.result.now { inner = c.seek_tree.new.scorer } })) c.in-Boost.is
    (rw (c.in-Boost.is, outs-Boost node) refl) moved (head-rescored g.S.DocSet (λ e. e.score * c.deref_mut.result.now.boost)
    (tree_entries g.S.DocSet c.seek_tree.new.scorer) c.seek_tree.ensures.head) c.seek_tree.ensures.placed

pub any_scorer::seek_other-returns-in-Const : goal.any_scorer::seek_other-returns-in-Const
any_scorer::seek_other-returns-in-Const g t c =
    let node = c.in-Const.node in
    let lent = rw (c.in-Const.is, outs-Const node) at c.deref_mut-in-Const.ensures.value in
    let moved = moved-Const g.S.DocSet c.args.target node c.seek_tree-in-Const.new.scorer lent (subst (IsTree g.S.DocSet) c.in-Const.is c.requires.valid)
    c.seek_tree-in-Const.ensures.entries c.seek_tree-in-Const.ensures.valid c.seek_tree-in-Const.ensures.depth in
    sought-as g.S.DocSet c.args.target c.seek_tree-in-Const.result (Const node)
    (Const (record node { value = record c.deref_mut-in-Const.result.now { inner = c.seek_tree-in-Const.new.scorer } })) c.in-Const.is
    (rw (c.in-Const.is, outs-Const node) refl) moved (head-rescored g.S.DocSet (λ _. c.deref_mut-in-Const.result.now.score)
    (tree_entries g.S.DocSet c.seek_tree-in-Const.new.scorer) c.seek_tree-in-Const.ensures.head) c.seek_tree-in-Const.ensures.placed

pub any_scorer::seek_other-returns-in-RequiredOptional : goal.any_scorer::seek_other-returns-in-RequiredOptional
any_scorer::seek_other-returns-in-RequiredOptional g t c =
    let node = c.in-RequiredOptional.node in
    let lent = rw (c.in-RequiredOptional.is, outs-RequiredOptional node) at c.deref_mut-in-RequiredOptional.ensures.value in
    let below = c.seek_tree-in-RequiredOptional.new.scorer in
    let moved = moved-RequiredOptional g.S.DocSet c.args.target node below lent (subst (IsTree g.S.DocSet) c.in-RequiredOptional.is c.requires.valid)
    c.seek_tree-in-RequiredOptional.ensures.entries c.seek_tree-in-RequiredOptional.ensures.valid c.seek_tree-in-RequiredOptional.ensures.depth in
    sought-as g.S.DocSet c.args.target c.seek_tree-in-RequiredOptional.result (RequiredOptional node)
    (RequiredOptional (record node { value = record c.deref_mut-in-RequiredOptional.result.now { required = below } })) c.in-RequiredOptional.is
    (rw (c.in-RequiredOptional.is, outs-RequiredOptional node) refl) moved
    (head-rescored g.S.DocSet (added g.S.DocSet c.deref_mut-in-RequiredOptional.result.now.optional)
    (tree_entries g.S.DocSet below) c.seek_tree-in-RequiredOptional.ensures.head) c.seek_tree-in-RequiredOptional.ensures.placed

pub any_scorer::seek_other-returns-in-Exclude : goal.any_scorer::seek_other-returns-in-Exclude
any_scorer::seek_other-returns-in-Exclude g t c =
    let node = c.in-Exclude.node in
    let lent = rw (c.in-Exclude.is, outs-Exclude node) at c.deref_mut-in-Exclude.ensures.value in
    let new = c.seek_exclude.new.node in
    let moved = moved-Exclude g.S.DocSet c.args.target node new lent (subst (IsTree g.S.DocSet) c.in-Exclude.is c.requires.valid)
    c.seek_exclude.ensures.entries c.seek_exclude.ensures.inner c.seek_exclude.ensures.out c.seek_exclude.ensures.top c.seek_exclude.ensures.depth in
    sought-as g.S.DocSet c.args.target c.seek_exclude.result (Exclude node) (Exclude (record node { value = new })) c.in-Exclude.is
    (rw (c.in-Exclude.is, outs-Exclude node) refl) moved c.seek_exclude.ensures.head (c.seek_exclude.ensures.placed, c.seek_exclude.ensures.kept)

pub any_scorer::seek_other-seek_group-requires : goal.any_scorer::seek_other-seek_group-requires
any_scorer::seek_other-seek_group-requires g t c κs within =
    let node = c.in-Disjunction.node in
    let value = rw (c.in-Disjunction.is, outs-Disjunction c.in-Disjunction.node) at c.deref_mut-in-Disjunction.ensures.value in
    let opened =
    subst (IsGroupNode g.S.DocSet) (sym value) (opened-Disjunction g.S.DocSet node (subst (IsTree g.S.DocSet) c.in-Disjunction.is c.requires.valid)) in
    (search (rules, aq.the_lemmas), (search rules, (opened, c.requires.target)))

pub any_scorer::seek_other-returns-in-Disjunction : goal.any_scorer::seek_other-returns-in-Disjunction
any_scorer::seek_other-returns-in-Disjunction g t c =
    let node = c.in-Disjunction.node in
    let lent = rw (c.in-Disjunction.is, outs-Disjunction node) at c.deref_mut-in-Disjunction.ensures.value in
    let new = record node { value = c.seek_group.new.node } in
    let moved = moved-Disjunction g.S.DocSet c.args.target node c.seek_group.new.node lent c.seek_group.ensures.entries
    c.seek_group.ensures.valid c.seek_group.ensures.shape c.seek_group.ensures.depth in
    sought-as g.S.DocSet c.args.target c.seek_group.result (Disjunction node) (Disjunction new) c.in-Disjunction.is
    (rw (c.in-Disjunction.is, outs-Disjunction node) refl) moved
    (c.seek_group.ensures.head ∙ sym (ap head_document (entries-Disjunction g.S.DocSet new))) tt

pub any_scorer::seek_other-seek_intersection-requires : goal.any_scorer::seek_other-seek_intersection-requires
any_scorer::seek_other-seek_intersection-requires g t c κs within =
    let node = c.in-Intersection.node in
    let lent = rw (c.in-Intersection.is, outs-Intersection node) at c.deref_mut-in-Intersection.ensures.value in
    (search (rules, aq.the_lemmas), (search rules, (lent-trees g.S.DocSet node c.in-Intersection.is lent c.requires.valid, c.requires.target)))

pub any_scorer::seek_other-returns-in-Intersection : goal.any_scorer::seek_other-returns-in-Intersection
any_scorer::seek_other-returns-in-Intersection g t c =
    let node = c.in-Intersection.node in
    let lent = rw (c.in-Intersection.is, outs-Intersection node) at c.deref_mut-in-Intersection.ensures.value in
    let new = c.seek_intersection.new.node in
    let moved = moved-Intersection g.S.DocSet c.args.target node new c.in-Intersection.is lent c.requires.valid
    c.seek_intersection.ensures.entries c.seek_intersection.ensures.trees c.seek_intersection.ensures.top c.seek_intersection.ensures.depth in
    sought-as g.S.DocSet c.args.target c.seek_intersection.result (Intersection node) (Intersection (record node { value = new })) c.in-Intersection.is
    (rw (c.in-Intersection.is, outs-Intersection node) refl) moved (left-document g.S.DocSet node new c.seek_intersection.ensures.head)
    (placed-Intersection g.S.DocSet (record node { value = new }) c.seek_intersection.ensures.placed)

pub any_scorer::danger_other-returns-in-Boost : goal.any_scorer::danger_other-returns-in-Boost
any_scorer::danger_other-returns-in-Boost g t c =
    let node = c.in-Boost.node in
    let lent = rw (c.in-Boost.is, outs-Boost node) at c.deref_mut.ensures.value in
    let moved = moved-Boost g.S.DocSet c.args.target node c.danger_tree.new.scorer lent
    (subst (IsTree g.S.DocSet) c.in-Boost.is c.requires.valid) c.danger_tree.ensures.entries c.danger_tree.ensures.valid c.danger_tree.ensures.depth in
    answered-as g.S.DocSet c.args.target c.danger_tree.result (Boost node)
    (Boost (record node { value = record c.deref_mut.result.now { inner = c.danger_tree.new.scorer } })) c.in-Boost.is
    (rw (c.in-Boost.is, outs-Boost node) refl) moved (IsSeekAnswer-rescored (λ e. e.score * c.deref_mut.result.now.boost) c.args.target
    (tree_entries g.S.DocSet c.danger_tree.new.scorer) _ c.danger_tree.ensures.answer) c.danger_tree.ensures.placed

pub any_scorer::danger_other-returns-in-Const : goal.any_scorer::danger_other-returns-in-Const
any_scorer::danger_other-returns-in-Const g t c =
    let node = c.in-Const.node in
    let lent = rw (c.in-Const.is, outs-Const node) at c.deref_mut-in-Const.ensures.value in
    let moved = moved-Const g.S.DocSet c.args.target node c.danger_tree-in-Const.new.scorer lent (subst (IsTree g.S.DocSet) c.in-Const.is c.requires.valid)
    c.danger_tree-in-Const.ensures.entries c.danger_tree-in-Const.ensures.valid c.danger_tree-in-Const.ensures.depth in
    answered-as g.S.DocSet c.args.target c.danger_tree-in-Const.result (Const node)
    (Const (record node { value = record c.deref_mut-in-Const.result.now { inner = c.danger_tree-in-Const.new.scorer } })) c.in-Const.is
    (rw (c.in-Const.is, outs-Const node) refl) moved (IsSeekAnswer-rescored (λ _. c.deref_mut-in-Const.result.now.score) c.args.target
    (tree_entries g.S.DocSet c.danger_tree-in-Const.new.scorer) _ c.danger_tree-in-Const.ensures.answer) c.danger_tree-in-Const.ensures.placed

pub any_scorer::danger_other-returns-in-RequiredOptional : goal.any_scorer::danger_other-returns-in-RequiredOptional
any_scorer::danger_other-returns-in-RequiredOptional g t c =
    let node = c.in-RequiredOptional.node in
    let lent = rw (c.in-RequiredOptional.is, outs-RequiredOptional node) at c.deref_mut-in-RequiredOptional.ensures.value in
    let below = c.danger_tree-in-RequiredOptional.new.scorer in
    let is = c.danger_tree-in-RequiredOptional.ensures in
    let moved = moved-RequiredOptional g.S.DocSet c.args.target node below lent
    (subst (IsTree g.S.DocSet) c.in-RequiredOptional.is c.requires.valid) is.entries is.valid is.depth in
    answered-as g.S.DocSet c.args.target c.danger_tree-in-RequiredOptional.result (RequiredOptional node)
    (RequiredOptional (record node { value = record c.deref_mut-in-RequiredOptional.result.now { required = below } })) c.in-RequiredOptional.is
    (rw (c.in-RequiredOptional.is, outs-RequiredOptional node) refl) moved (IsSeekAnswer-rescored
    (added g.S.DocSet c.deref_mut-in-RequiredOptional.result.now.optional) c.args.target (tree_entries g.S.DocSet below) _ is.answer) is.placed

pub any_scorer::danger_other-returns-in-Exclude : goal.any_scorer::danger_other-returns-in-Exclude
any_scorer::danger_other-returns-in-Exclude g t c =
    let node = c.in-Exclude.node in
    let lent = rw (c.in-Exclude.is, outs-Exclude node) at c.deref_mut-in-Exclude.ensures.value in
    let new = c.danger_exclude.new.node in
    let moved =
    moved-Exclude g.S.DocSet c.args.target node new lent (subst (IsTree g.S.DocSet) c.in-Exclude.is c.requires.valid) c.danger_exclude.ensures.entries
    c.danger_exclude.ensures.inner c.danger_exclude.ensures.out c.danger_exclude.ensures.top c.danger_exclude.ensures.depth in
    answered-as g.S.DocSet c.args.target c.danger_exclude.result (Exclude node) (Exclude (record node { value = new })) c.in-Exclude.is
    (rw (c.in-Exclude.is, outs-Exclude node) refl) moved c.danger_exclude.ensures.answer
    (both_found _ _ c.danger_exclude.result c.danger_exclude.ensures.placed c.danger_exclude.ensures.kept)

pub any_scorer::danger_by_seek-seek_answer-requires : goal.any_scorer::danger_by_seek-seek_answer-requires
any_scorer::danger_by_seek-seek_answer-requires g t c =
    let sought = c.seek_other-doc.ensures in
    let ascends = tree-ascends g.S.DocSet g.met.S.DocSet.ascending c.args.scorer.now c.requires.valid in
    rw (sought.head, sought.entries) (head_document-reached c.args.target 0 _ _ c.requires.target ascends)

pub any_scorer::danger_by_seek-returns : goal.any_scorer::danger_by_seek-returns
any_scorer::danger_by_seek-returns g t c =
    let sought = c.seek_other-doc.ensures in
    record {
      answer = c.seek_answer.ensures _ (sym sought.head);
      entries = sought.entries;
      top = sought.top;
      valid = sought.valid;
      placed = on_found c.seek_answer.result (λ _. sought.placed);
      depth = sought.depth;
    }

pub any_scorer::danger_other-danger_intersection-requires : goal.any_scorer::danger_other-danger_intersection-requires
any_scorer::danger_other-danger_intersection-requires g t c κs within =
    let node = c.in-Intersection.node in
    let lent = rw (c.in-Intersection.is, outs-Intersection node) at c.deref_mut-in-Intersection.ensures.value in
    (search (rules, aq.the_lemmas), (search rules, (lent-trees g.S.DocSet node c.in-Intersection.is lent c.requires.valid, c.requires.target)))

pub any_scorer::danger_other-returns-in-Intersection : goal.any_scorer::danger_other-returns-in-Intersection
any_scorer::danger_other-returns-in-Intersection g t c =
    let node = c.in-Intersection.node in
    let lent = rw (c.in-Intersection.is, outs-Intersection node) at c.deref_mut-in-Intersection.ensures.value in
    let new = c.danger_intersection.new.node in
    let moved = moved-Intersection g.S.DocSet c.args.target node new c.in-Intersection.is lent c.requires.valid c.danger_intersection.ensures.entries
    c.danger_intersection.ensures.trees c.danger_intersection.ensures.top c.danger_intersection.ensures.depth in
    answered-as g.S.DocSet c.args.target c.danger_intersection.result (Intersection node) (Intersection (record node { value = new })) c.in-Intersection.is
    (rw (c.in-Intersection.is, outs-Intersection node) refl) moved (subst (λ es. IsSeekAnswer c.args.target es c.danger_intersection.result)
    (sym (entries-Intersection g.S.DocSet (record node { value = new }))) c.danger_intersection.ensures.answer)
    (still_found c.danger_intersection.result (placed-Intersection g.S.DocSet (record node { value = new })) c.danger_intersection.ensures.placed)

-- ---- unions, as variants

pub any_scorer::seek_other-seek_union-requires : goal.any_scorer::seek_other-seek_union-requires
any_scorer::seek_other-seek_union-requires g t c κs within =
    let node = c.in-Union.node in
    let value = rw (c.in-Union.is, outs-Union c.in-Union.node) at c.deref_mut-in-Union.ensures.value in
    let opened = subst (IsUnionNode g.S.DocSet) (sym value) (opened-Union g.S.DocSet node (subst (IsTree g.S.DocSet) c.in-Union.is c.requires.valid)) in
    (search (rules, aq.the_lemmas), (search rules, (opened, c.requires.target)))

pub any_scorer::seek_other-returns-in-Union : goal.any_scorer::seek_other-returns-in-Union
any_scorer::seek_other-returns-in-Union g t c =
    let node = c.in-Union.node in
    let lent = rw (c.in-Union.is, outs-Union node) at c.deref_mut-in-Union.ensures.value in
    let new = record node { value = c.seek_union.new.node } in
    let moved = moved-Union g.S.DocSet c.args.target node c.seek_union.new.node lent c.seek_union.ensures.entries
    c.seek_union.ensures.valid c.seek_union.ensures.top c.seek_union.ensures.depth in
    sought-as g.S.DocSet c.args.target c.seek_union.result (Union node) (Union new) c.in-Union.is (rw (c.in-Union.is, outs-Union node) refl) moved
    (c.seek_union.ensures.head ∙ sym (ap head_document (entries-Union g.S.DocSet new))) tt

-- ---- scores

pub boost_node::score_boost-returns-clause-fits : goal.boost_node::score_boost-returns-clause-fits
boost_node::score_boost-returns-clause-fits g t c =
    rw c.score_tree.ensures.score (boost-fits g.S.DocSet g.met.S.DocSet.ascending _ _ _ c.requires.valid c.requires.placed c.requires.here c.requires.bounded)

pub boost_node::score_boost-returns-clause-score : goal.boost_node::score_boost-returns-clause-score
boost_node::score_boost-returns-clause-score g t c =
    let D = g.S.DocSet in
    let boost = c.args.node.now.boost in
    let inner = c.args.node.now.inner in
    let here = tree-here D g.met.S.DocSet.ascending inner c.requires.valid c.requires.placed c.requires.here in
    ap (λ n. n * boost) c.score_tree.ensures.score ∙ sym (head_score-rescored (λ e. e.score * boost) (tree_entries D inner) here)

pub boost_node::score_boost-overflow_mul-result : goal.boost_node::score_boost-overflow_mul-result
boost_node::score_boost-overflow_mul-result g t c =
    let fits : c.score_tree.result * c.args.node.now.boost ≤ greatest_score = rw c.score_tree.ensures.score
    (boost-fits g.S.DocSet g.met.S.DocSet.ascending _ _ _ c.requires.valid c.requires.placed c.requires.here c.requires.bounded) in
    omega (arith, fits)

pub optional_node::score_at-returns-then-reach_tree-doc-clause-score : goal.optional_node::score_at-returns-then-reach_tree-doc-clause-score
optional_node::score_at-returns-then-reach_tree-doc-clause-score g t c =
    let es = tree_entries g.S.DocSet c.args.scorer.now in
    let d = c.args.doc in
    let ascends = tree-ascends g.S.DocSet g.met.S.DocSet.ascending c.args.scorer.now c.requires.valid in
    let here : head_document (from d es) ≡ d = ap head_document (sym c.reach_tree.ensures.sought.entries)
    ∙ sym c.reach_tree.ensures.sought.head ∙ c.if-reach_tree-doc.true in
    let one = ap sum (scores_at-reached d _ es c.requires.here here ascends) in
    omega (arith, c.score_tree.ensures.score, ap head_score c.reach_tree.ensures.sought.entries, one, sum_by-cons (λ n. n) (head_score (from d es)) [])

pub optional_node::score_at-returns-else-reach_tree-doc-clause-score : goal.optional_node::score_at-returns-else-reach_tree-doc-clause-score
optional_node::score_at-returns-else-reach_tree-doc-clause-score g t c =
    let es = tree_entries g.S.DocSet c.args.scorer.now in
    let d = c.args.doc in
    let ascends = tree-ascends g.S.DocSet g.met.S.DocSet.ascending c.args.scorer.now c.requires.valid in
    let there = ap head_document (sym c.reach_tree.ensures.sought.entries) ∙ sym c.reach_tree.ensures.sought.head in
    sym (ap sum (scores_at-passed d _ es c.requires.here (λ here. c.if-reach_tree-doc.false (sym there ∙ here)) ascends))

pub optional_node::score_at-returns-then-reach_tree-doc-clause-moved : goal.optional_node::score_at-returns-then-reach_tree-doc-clause-moved
optional_node::score_at-returns-then-reach_tree-doc-clause-moved g t c =
    let went = c.reach_tree.ensures.sought in
    let asked = c.score_tree.ensures in
    record {
      entries = asked.entries ∙ went.entries;
      top = asked.top ∙ went.top;
      valid = asked.valid;
      depth = omega (arith, asked.depth, went.depth);
    }

pub optional_node::score_at-returns-else-reach_tree-doc-clause-moved : goal.optional_node::score_at-returns-else-reach_tree-doc-clause-moved
optional_node::score_at-returns-else-reach_tree-doc-clause-moved g t c =
    let went = c.reach_tree.ensures.sought in
    record { entries = went.entries; top = went.top; valid = went.valid; depth = went.depth }

together : (d : ℕ) (required optional : List Entry) → d ≡ head_document required → head_document required < TERMINATED →
    head_score required + sum (scores_at d (optional ∷ [])) ≡ head_score (with_optional sum required optional)
together d required optional is here =
    let own = head_score-rescored (λ e. sum (e.score ∷ scores_at e.document (optional ∷ []))) required here in
    omega (
      arith,
      own,
      ap (λ x. sum (scores_at x (optional ∷ []))) is,
      sum_by-cons (λ n. n) (head_score required) (scores_at (head_document required) (optional ∷ [])),
    )

pub optional_node::score_optional-returns-clause-score : goal.optional_node::score_optional-returns-clause-score
optional_node::score_optional-returns-clause-score g t c =
    let rs = tree_entries g.S.DocSet c.args.node.now.required in
    let os = tree_entries g.S.DocSet c.args.node.now.optional in
    let is = c.doc_tree-doc.ensures ∙ tree-head g.S.DocSet g.met.S.DocSet.ascending _ c.requires.required c.requires.placed in
    omega (
      arith,
      c.score_tree.ensures.score,
      c.score_at.ensures.score,
      together c.doc_tree-doc.result rs os is (tree-here g.S.DocSet g.met.S.DocSet.ascending _ c.requires.required c.requires.placed c.requires.here),
    )

pub optional_node::score_optional-returns-clause-fits : goal.optional_node::score_optional-returns-clause-fits
optional_node::score_optional-returns-clause-fits g t c =
    omega (arith, optional_node::score_optional-returns-clause-score g t c, head_score-bounded _ _ c.requires.bounded)

pub optional_node::score_optional-returns-clause-entries : goal.optional_node::score_optional-returns-clause-entries
optional_node::score_optional-returns-clause-entries g t c =
    let rs = tree_entries g.S.DocSet c.args.node.now.required in
    let os = tree_entries g.S.DocSet c.args.node.now.optional in
    let ascends = tree-ascends g.S.DocSet g.met.S.DocSet.ascending c.args.node.now.required c.requires.required in
    let is = c.doc_tree-doc.ensures ∙ tree-head g.S.DocSet g.met.S.DocSet.ascending _ c.requires.required c.requires.placed in
    (λ i. with_optional sum (c.score_tree.ensures.entries i) (c.score_at.ensures.moved.entries i))
    ∙ with_optional-reached sum c.doc_tree-doc.result _ rs os is ascends

pub exclude_node::score_exclude-returns-clause-score : goal.exclude_node::score_exclude-returns-clause-score
exclude_node::score_exclude-returns-clause-score g t c =
    let ascends = tree-ascends g.S.DocSet g.met.S.DocSet.ascending c.args.node.now.inner c.requires.inner in
    c.score_tree.ensures.score ∙ sym (head_score-without _ 0 _ _ ascends c.requires.kept)

-- ---- groups

pub group_node::score_group-loop-place-init : goal.group_node::score_group-loop-place-init
group_node::score_group-loop-place-init g t c =
    let D = g.S.DocSet in
    let node = c.args.node.now in
    let h = c.requires.valid.members in
    let xs = node.members.items in
    let d = node.current in
    let next = c.next_below-place.ensures in
    let law = tree-ascends D g.met.S.DocSet.ascending in
    let long = heads-length (tree_entries D) xs node.heads h.heads in
    let within : c.next_below-place.result ≤ length xs = omega (arith, next.within.1, long) in
    let none = scores_at-skipped (tree_entries D) xs node.heads h.heads (tree_limits D) (λ k x below. law _ (h.valid k x below)) d 0 c.next_below-place.result
    (omega arith) within next.passed in
    record {
      valid = h.valid;
      placed = h.placed;
      heads = h.heads;
      lists = refl;
      within = within;
      here = λ below. next.found (omega (arith, below, long));
      combined = c.clear.ensures ∙ sym (ap (fold any_step (any_cleared node.shape.combiner)) (none ∙ scores_at-nil d));
      shape = refl;
      current = refl;
      depth = omega arith;
    }

pub group_node::score_group-loop-place-preserved : goal.group_node::score_group-loop-place-preserved
group_node::score_group-loop-place-preserved g t c =
    let D = g.S.DocSet in
    let e = tree_entries D in
    let h = c.loop-place.invariant in
    let before = c.loop-place.node in
    let xs = before.members.items in
    let i = c.loop-place.place in
    let d = c.args.node.now.current in
    let start = any_cleared c.args.node.now.shape.combiner in
    let scores = scores_at d (take i (map e xs)) in
    let x = c.score_tree.new.scorer in
    let old = c.index_mut.result.now in
    let next = c.next_below-place-in-loop-place.ensures in
    let law = tree-ascends D g.met.S.DocSet.ascending in
    let here : i < length xs = omega (arith, c.loop-place-test.true, before.members.ok.0) in
    let long = heads-length e xs before.heads h.heads in
    let is = c.index_mut.ensures.value in
    let valid : IsTree D old = subst (IsTree D) (sym is) (All-get_or (IsTree D) xs i old here h.valid) in
    let least : d ≡ least_head (map e xs) = c.requires.valid.own.least ∙ sym (ap least_head h.lists) in
    let on : head_document (e old) ≡ d = ap (λ y. head_document (e y)) is ∙ head-least e xs before.heads h.heads i d old here least (h.here here) in
    let same : e x ≡ e (get_or xs i old) = c.score_tree.ensures.entries ∙ ap e is in
    let still = map-set_same e xs i x old here same in
    let more = scores_at-more e _ xs i d old (law old valid) is here on c.requires.here in
    let added = ap (fold any_step start) more ∙ fold-append any_step start scores (head_score (e old) ∷ []) in
    let within : c.next_below-place-in-loop-place.result ≤ length xs = omega (arith, next.within.1, long) in
    let skipped = scores_at-skipped e xs before.heads h.heads (tree_limits D) (λ k y below. law _ (h.valid k y below)) d (i + 1)
    c.next_below-place-in-loop-place.result next.within.0 within next.passed in
    let smaller = subst (λ (y : AnyScorer g.row.S.Denot). size-AnyScorer g.row.S.Denot x ≤ size-AnyScorer g.row.S.Denot y) is c.score_tree.ensures.depth in
    record {
      valid = All-set (IsTree D) xs i x c.score_tree.ensures.valid h.valid;
      placed = All-set (IsTreePlaced D) xs i x c.score_tree.ensures.placed h.placed;
      heads = subst (AreMemberHeads before.heads) (sym still) h.heads;
      lists = still ∙ h.lists;
      within = omega (arith, within, length-set xs i x);
      here = λ below. next.found (omega (arith, below, long, length-set xs i x));
      combined = c.take_score.ensures ∙ ap (λ s. any_step s c.score_tree.result) h.combined
          ∙ ap (any_step (fold any_step start scores)) c.score_tree.ensures.score ∙ sym added
          ∙ ap (fold any_step start) (sym skipped ∙ ap (λ r. scores_at d (take c.next_below-place-in-loop-place.result r)) (sym still));
      shape = h.shape;
      current = h.current;
      depth = size-members before _ _ (most-set (size-AnyScorer g.row.S.Denot) xs i x old here smaller) h.depth;
    }

pub group_node::score_group-loop-place-smaller : goal.group_node::score_group-loop-place-smaller
group_node::score_group-loop-place-smaller g t c =
    let before = c.loop-place.node in
    omega (
      arith,
      c.next_below-place-in-loop-place.ensures.within.0,
      c.loop-place-test.true,
      before.members.ok.0,
      length-set before.members.items c.loop-place.place c.score_tree.new.scorer,
    )

pub group_node::score_group-take_score-requires-clause-room : goal.group_node::score_group-take_score-requires-clause-room
group_node::score_group-take_score-requires-clause-room g t c =
    let D = g.S.DocSet in
    let e = tree_entries D in
    let h = c.loop-place.invariant in
    let before = c.loop-place.node in
    let xs = before.members.items in
    let i = c.loop-place.place in
    let d = c.args.node.now.current in
    let start = c.args.node.now.shape.combiner in
    let old = c.index_mut.result.now in
    let here : i < length xs = omega (arith, c.loop-place-test.true, before.members.ok.0) in
    let is = c.index_mut.ensures.value in
    let valid : IsTree D old = subst (IsTree D) (sym is) (All-get_or (IsTree D) xs i old here h.valid) in
    let least : d ≡ least_head (map e xs) = c.requires.valid.own.least ∙ sym (ap least_head h.lists) in
    let on : head_document (e old) ≡ d = ap (λ y. head_document (e y)) is ∙ head-least e xs before.heads h.heads i d old here least (h.here here) in
    let room = subst (HasRoom start) (sym h.lists) c.requires.valid.own.room d in
    let next = room-next e _ xs i d old (tree-ascends D g.met.S.DocSet.ascending old valid) is here on c.requires.here in
    let left = any-taken start (scores_at d (map e xs)) (scores_at d (take i (map e xs))) c.score_tree.result room
    (λ fits. omega (arith, c.score_tree.ensures.score, next fits)) in
    subst (λ s. AnyHasRoom s c.score_tree.result) (sym h.combined) left

pub group_node::score_group-score_tree-requires : goal.group_node::score_group-score_tree-requires
group_node::score_group-score_tree-requires g t c κs within =
    let D = g.S.DocSet in
    let e = tree_entries D in
    let h = c.loop-place.invariant in
    let before = c.loop-place.node in
    let xs = before.members.items in
    let i = c.loop-place.place in
    let d = c.args.node.now.current in
    let x = c.index_mut.result.now in
    let here : i < length xs = omega (arith, c.loop-place-test.true, before.members.ok.0) in
    let is = c.index_mut.ensures.value in
    let valid : IsTree D x = subst (IsTree D) (sym is) (All-get_or (IsTree D) xs i x here h.valid) in
    let placed : IsTreePlaced D x = subst (IsTreePlaced D) (sym is) (All-get_or (IsTreePlaced D) xs i x here h.placed) in
    let least : d ≡ least_head (map e xs) = c.requires.valid.own.least ∙ sym (ap least_head h.lists) in
    let stands : head_document (e x) ≡ d = ap (λ y. head_document (e y)) is ∙ head-least e xs before.heads h.heads i d x here least (h.here here) in
    let on : tree_head D x < TERMINATED = omega (arith, tree-head D g.met.S.DocSet.ascending x valid placed, stands, c.requires.here) in
    (search (rules, gq.the_lemmas), (search rules, (valid, (placed, on))))

pub group_node::score_group-returns-clause-score : goal.group_node::score_group-returns-clause-score
group_node::score_group-returns-clause-score g t c =
    let D = g.S.DocSet in
    let h = c.loop-place.invariant in
    let node = c.args.node.now in
    let xs = c.loop-place.node.members.items in
    let lists = map (tree_entries D) xs in
    let long : length lists ≤ c.loop-place.place = omega (arith, length-map xs (tree_entries D), c.loop-place-test.false, c.loop-place.node.members.ok.0) in
    let whole = take_all c.loop-place.place lists long ∙ h.lists in
    let all = h.combined ∙ ap (λ r. fold any_step (any_cleared node.shape.combiner) (scores_at node.current r)) whole in
    let value = group-score D g.met.S.DocSet.ascending node c.loop-place.combiner c.requires.valid c.requires.here all in
    score_cast c.score.result _ c.score.ensures c.score.type_inv ∙ value

pub group_node::score_group-returns-clause-fits : goal.group_node::score_group-returns-clause-fits
group_node::score_group-returns-clause-fits g t c =
    omega (arith, group_node::score_group-returns-clause-score g t c, head_score-bounded _ _ c.requires.valid.own.bounded)

pub group_node::score_group-returns-clause-valid : goal.group_node::score_group-returns-clause-valid
group_node::score_group-returns-clause-valid g t c =
    let h = c.loop-place.invariant in
    group-kept g.S.DocSet g.met.S.DocSet.ascending c.args.node.now c.loop-place.node c.requires.valid h.valid h.placed h.heads h.lists h.shape h.current

-- ---- intersections

pub intersection_node::score_intersection-loop-i-init : goal.intersection_node::score_intersection-loop-i-init
intersection_node::score_intersection-loop-i-init g t c =
    let D = g.S.DocSet in
    let node = c.args.node.now in
    let is = c.as_mut_slice-others.ensures.value in
    let below : head_document (tree_entries D node.leader) < TERMINATED =
    tree-here D g.met.S.DocSet.ascending node.leader c.requires.trees.leader c.requires.placed.leader c.requires.here in
    record {
      valid = subst (All (IsTree D)) (sym is) c.requires.trees.others;
      placed = subst (All (IsTreePlaced D)) (sym is) (λ k d less. (c.requires.placed.others below k d less).0);
      lists = ap (map (tree_entries D)) is;
      summed = omega (arith, c.score_tree-sum.ensures.score, c.score_tree-sum.ensures.fits);
      depth = omega (arith, ap (most (size-AnyScorer g.row.S.Denot)) is);
    }

pub intersection_node::score_intersection-loop-i-preserved : goal.intersection_node::score_intersection-loop-i-preserved
intersection_node::score_intersection-loop-i-preserved g t c =
    let D = g.S.DocSet in
    let e = tree_entries D in
    let h = c.loop-i.invariant in
    let i = c.loop-i.i in
    let xs = c.loop-i.others in
    let x = c.score_tree.new.scorer in
    let old = c.index-others-i.result in
    let here : i < length xs = omega (arith, c.loop-i.auto.others, c.loop-i-test.true) in
    let still = map-set_same e xs i x old here c.score_tree.ensures.entries in
    let scores = map head_score (map e xs) in
    let first = head_score (e c.args.node.now.leader) in
    let one = get_or-map-map head_score e xs i old 0 here in
    let more = sum_by_more (λ n. n) scores i 0 (omega (arith, here, length-map (map e xs) head_score, length-map xs e)) in
    let added : c.min-sum.result ≡ min greatest_score (first + sum (take (i + 1) scores)) =
    omega (arith, one, more, c.score_tree.ensures.score, c.min-sum.ensures, h.summed) in
    let smaller = most-set (size-AnyScorer g.row.S.Denot) xs i x old here c.score_tree.ensures.depth in
    record {
      valid = All-set (IsTree D) xs i x c.score_tree.ensures.valid h.valid;
      placed = All-set (IsTreePlaced D) xs i x c.score_tree.ensures.placed h.placed;
      lists = still ∙ h.lists;
      summed = added ∙ ap (λ r. min greatest_score (first + sum (take (i + 1) (map head_score r)))) (sym still);
      depth = omega (arith, smaller, h.depth);
    }

pub intersection_node::score_intersection-score_tree-requires : goal.intersection_node::score_intersection-score_tree-requires
intersection_node::score_intersection-score_tree-requires g t c κs within =
    let D = g.S.DocSet in
    let e = tree_entries D in
    let h = c.loop-i.invariant in
    let node = c.args.node.now in
    let xs = c.loop-i.others in
    let i = c.loop-i.i in
    let x = get_or xs i c.index-others-i.result in
    let here : i < length xs = omega (arith, c.loop-i.auto.others, c.loop-i-test.true) in
    let below : head_document (tree_entries D node.leader) < TERMINATED =
    tree-here D g.met.S.DocSet.ascending node.leader c.requires.trees.leader c.requires.placed.leader c.requires.here in
    let all = All-same_lists e (λ es. head_document es ≡ head_document (e node.leader)) node.others.items xs h.lists
    (λ k d less. (c.requires.placed.others below k d less).1) in
    let stands : head_document (e x) ≡ head_document (e node.leader) = all i _ here in
    let valid : IsTree D x = h.valid i _ here in
    let placed : IsTreePlaced D x = h.placed i _ here in
    let on : tree_head D x < TERMINATED = omega (arith, tree-head D g.met.S.DocSet.ascending x valid placed, stands, below) in
    let smaller = at_most (size-AnyScorer g.row.S.Denot) xs i c.index-others-i.result here in
    let under = size_is-IntersectionNode g.row.S.Denot node in
    (omega (arith, c.decreases, smaller, under, h.depth), (search rules, (valid, (placed, on))))

pub intersection_node::score_intersection-returns-clause-score : goal.intersection_node::score_intersection-returns-clause-score
intersection_node::score_intersection-returns-clause-score g t c =
    let D = g.S.DocSet in
    let e = tree_entries D in
    let law = tree-ascends D g.met.S.DocSet.ascending in
    let h = c.loop-i.invariant in
    let node = c.args.node.now in
    let xs = c.loop-i.others in
    let below : head_document (tree_entries D node.leader) < TERMINATED =
    tree-here D g.met.S.DocSet.ascending node.leader c.requires.trees.leader c.requires.placed.leader c.requires.here in
    let score = head_score-together (IsTree D) (tree_limits D) e law held_sum (IsTreePlaced D) _ (e node.leader) node.others.items
    (law node.leader c.requires.trees.leader) c.requires.trees.others below (c.requires.placed.others below) in
    let scores = map head_score (map e xs) in
    let long : length scores ≤ c.loop-i.i = omega (arith, length-map (map e xs) head_score, length-map xs e, c.loop-i.auto.others, c.loop-i-test.false) in
    let whole = ap sum (take_all c.loop-i.i scores long ∙ ap (map head_score) h.lists) in
    let cons = sum_by-cons (λ n. n) (head_score (e node.leader)) (map head_score (map e node.others.items)) in
    let total : c.loop-i.sum ≡ held_sum (head_score (e node.leader) ∷ map head_score (map e node.others.items)) = omega (arith, h.summed, whole, cons) in
    total ∙ sym score

pub intersection_node::score_intersection-returns-clause-entries : goal.intersection_node::score_intersection-returns-clause-entries
intersection_node::score_intersection-returns-clause-entries g t c =
    let D = g.S.DocSet in
    let node = c.args.node.now in
    let xs = c.loop-i.others in
    let whole = with_items_is node.others xs (omega (arith, c.loop-i.auto.others, ap length c.as_mut_slice-others.ensures.value, node.others.ok.0)) in
    let lists = ap (map (tree_entries D)) whole ∙ c.loop-i.invariant.lists in
    (λ i. common_entries held_sum (c.score_tree-sum.ensures.entries i ∷ lists i))

pub intersection_node::score_intersection-returns-clause-trees : goal.intersection_node::score_intersection-returns-clause-trees
intersection_node::score_intersection-returns-clause-trees g t c =
    let node = c.args.node.now in
    let xs = c.loop-i.others in
    let whole = with_items_is node.others xs (omega (arith, c.loop-i.auto.others, ap length c.as_mut_slice-others.ensures.value, node.others.ok.0)) in
    record {
      leader = c.score_tree-sum.ensures.valid;
      others = subst (All (IsTree g.S.DocSet)) (sym whole) c.loop-i.invariant.valid;
    }

pub intersection_node::score_intersection-returns-clause-placed : goal.intersection_node::score_intersection-returns-clause-placed
intersection_node::score_intersection-returns-clause-placed g t c =
    let D = g.S.DocSet in
    let e = tree_entries D in
    let h = c.loop-i.invariant in
    let node = c.args.node.now in
    let xs = c.loop-i.others in
    let whole = with_items_is node.others xs (omega (arith, c.loop-i.auto.others, ap length c.as_mut_slice-others.ensures.value, node.others.ok.0)) in
    let below : head_document (tree_entries D node.leader) < TERMINATED =
    tree-here D g.met.S.DocSet.ascending node.leader c.requires.trees.leader c.requires.placed.leader c.requires.here in
    let all = All-same_lists e (λ es. head_document es ≡ head_document (e node.leader)) node.others.items xs h.lists
    (λ k d less. (c.requires.placed.others below k d less).1) in
    let leader = c.score_tree-sum.ensures.entries in
    record {
      leader = c.score_tree-sum.ensures.placed;
      others = λ _. subst (StandOn (IsTreePlaced D) e _) (sym whole) (λ k d less. (h.placed k d less, all k d less ∙ ap head_document (sym leader)));
    }

pub intersection_node::score_intersection-returns-clause-depth : goal.intersection_node::score_intersection-returns-clause-depth
intersection_node::score_intersection-returns-clause-depth g t c =
    let node = c.args.node.now in
    let xs = c.loop-i.others in
    let size = size-AnyScorer g.row.S.Denot in
    let whole = with_items_is node.others xs (omega (arith, c.loop-i.auto.others, ap length c.as_mut_slice-others.ensures.value, node.others.ok.0)) in
    size-others node _ c.score_tree-sum.ensures.depth (omega (arith, ap (most size) whole, c.loop-i.invariant.depth))

-- ---- a term, which comes first

pub any_scorer::score_tree-returns-in-Term : goal.any_scorer::score_tree-returns-in-Term
any_scorer::score_tree-returns-in-Term g t c =
    let leaf = c.in-Term.leaf in
    let scored = c.score in
    let score = score_cast scored.result _ scored.ensures.score scored.type_inv in
    scored-leaf g.S.DocSet Term (λ s. scored_left s.value) (λ _. refl) (λ _. refl) (same-Term g.row.S.Denot) leaf scored.new.self
    c.in-Term.leaf-is c.in-Term.is c.requires.here score (score_fits _ _ scored.ensures.score scored.type_inv) scored.ensures.entries
    (ap (λ (l : Limits). l.top) scored.ensures.limits) scored.ensures.valid scored.ensures.placed (search rules)

pub any_scorer::score_tree-returns-in-Own : goal.any_scorer::score_tree-returns-in-Own
any_scorer::score_tree-returns-in-Own g t c =
    let leaf = c.in-Own.leaf in
    let scored = c.score-in-Own in
    let score = score_cast scored.result _ scored.ensures.score scored.type_inv in
    scored-leaf g.S.DocSet Own g.S.DocSet.entries (λ _. refl) (λ _. refl) (same-Own g.row.S.Denot) leaf scored.new.self
    c.in-Own.leaf-is c.in-Own.is c.requires.here score (score_fits _ _ scored.ensures.score scored.type_inv) scored.ensures.entries
    (ap (λ (l : Limits). l.top) scored.ensures.limits) scored.ensures.valid scored.ensures.placed (search rules)

-- ---- the nodes of the enum

pub any_scorer::score_other-score_boost-requires : goal.any_scorer::score_other-score_boost-requires
any_scorer::score_other-score_boost-requires g t c κs within =
    let node = c.in-Boost.node in
    let lent = rw (c.in-Boost.is, outs-Boost node) at c.deref_mut.ensures.value in
    (search (rules, aq.the_lemmas), (search rules, asked-Boost g.S.DocSet node c.in-Boost.is lent c.requires.valid c.requires.placed c.requires.here))

pub any_scorer::score_other-score_optional-requires : goal.any_scorer::score_other-score_optional-requires
any_scorer::score_other-score_optional-requires g t c κs within =
    let node = c.in-RequiredOptional.node in
    let lent = rw (c.in-RequiredOptional.is, outs-RequiredOptional node) at c.deref_mut-in-RequiredOptional.ensures.value in (
      search (rules, aq.the_lemmas),
      (search rules, asked-RequiredOptional g.S.DocSet node c.in-RequiredOptional.is lent c.requires.valid c.requires.placed c.requires.here),
    )

pub any_scorer::score_other-score_exclude-requires : goal.any_scorer::score_other-score_exclude-requires
any_scorer::score_other-score_exclude-requires g t c κs within =
    let node = c.in-Exclude.node in
    let lent = rw (c.in-Exclude.is, outs-Exclude node) at c.deref_mut-in-Exclude.ensures.value in
    (search (rules, aq.the_lemmas), (search rules, asked-Exclude g.S.DocSet node c.in-Exclude.is lent c.requires.valid c.requires.placed c.requires.here))

pub any_scorer::score_other-score_const-requires : goal.any_scorer::score_other-score_const-requires
any_scorer::score_other-score_const-requires g t c =
    let node = c.in-Const.node in
    let lent = rw (c.in-Const.is, outs-Const node) at c.deref_mut-in-Const.ensures.value in
    let asked = asked-Const g.S.DocSet node c.in-Const.is lent c.requires.valid c.requires.placed c.requires.here in
    record { valid = asked.0; placed = asked.1.0; here = asked.1.1.0; bounded = asked.1.1.1 }

pub any_scorer::score_other-returns-in-Boost : goal.any_scorer::score_other-returns-in-Boost
any_scorer::score_other-returns-in-Boost g t c =
    let D = g.S.DocSet in
    let node = c.in-Boost.node in
    let lent = rw (c.in-Boost.is, outs-Boost node) at c.deref_mut.ensures.value in
    let new = c.score_boost.new.node in
    let is = c.score_boost.ensures in
    scored-as D (Boost node) (Boost (record node { value = new })) c.in-Boost.is (rw (c.in-Boost.is, outs-Boost node) refl) (scored-Boost D node new lent
    (subst (IsTree D) c.in-Boost.is c.requires.valid) is.score is.fits is.entries is.valid is.placed is.head is.boost is.top is.depth)

pub any_scorer::score_other-returns-in-Const : goal.any_scorer::score_other-returns-in-Const
any_scorer::score_other-returns-in-Const g t c =
    let D = g.S.DocSet in
    let node = c.in-Const.node in
    let lent = rw (c.in-Const.is, outs-Const node) at c.deref_mut-in-Const.ensures.value in
    let new = c.score_const.new.node in
    let is = c.score_const.ensures in
    scored-as D (Const node) (Const (record node { value = new })) c.in-Const.is (rw (c.in-Const.is, outs-Const node) refl)
    (scored-Const D node new lent (subst (IsTree D) c.in-Const.is c.requires.valid) is.score is.fits is.entries is.valid is.placed is.head is.same is.depth)

pub any_scorer::score_other-returns-in-RequiredOptional : goal.any_scorer::score_other-returns-in-RequiredOptional
any_scorer::score_other-returns-in-RequiredOptional g t c =
    let D = g.S.DocSet in
    let node = c.in-RequiredOptional.node in
    let lent = rw (c.in-RequiredOptional.is, outs-RequiredOptional node) at c.deref_mut-in-RequiredOptional.ensures.value in
    let new = c.score_optional.new.node in
    let is = c.score_optional.ensures in
    scored-as D (RequiredOptional node) (RequiredOptional (record node { value = new })) c.in-RequiredOptional.is
    (rw (c.in-RequiredOptional.is, outs-RequiredOptional node) refl) (scored-RequiredOptional D node new lent (subst
    (IsTree D) c.in-RequiredOptional.is c.requires.valid) is.score is.fits is.entries is.required is.placed is.optional is.stands is.head is.top is.depth)

pub any_scorer::score_other-returns-in-Exclude : goal.any_scorer::score_other-returns-in-Exclude
any_scorer::score_other-returns-in-Exclude g t c =
    let D = g.S.DocSet in
    let node = c.in-Exclude.node in
    let lent = rw (c.in-Exclude.is, outs-Exclude node) at c.deref_mut-in-Exclude.ensures.value in
    let new = c.score_exclude.new.node in
    let is = c.score_exclude.ensures in
    scored-as D (Exclude node) (Exclude (record node { value = new })) c.in-Exclude.is (rw (c.in-Exclude.is, outs-Exclude node) refl)
    (scored-Exclude D node new lent (subst (IsTree D) c.in-Exclude.is c.requires.valid)
    (subst (IsTreePlaced D) c.in-Exclude.is c.requires.placed) is.score is.fits is.entries is.inner is.placed is.head is.out is.top is.depth)

pub any_scorer::score_other-score_group-requires : goal.any_scorer::score_other-score_group-requires
any_scorer::score_other-score_group-requires g t c κs within =
    let D = g.S.DocSet in
    let node = c.in-Disjunction.node in
    let value = rw (c.in-Disjunction.is, outs-Disjunction c.in-Disjunction.node) at c.deref_mut-in-Disjunction.ensures.value in
    let opened = subst (IsGroupNode D) (sym value) (opened-Disjunction D node (subst (IsTree D) c.in-Disjunction.is c.requires.valid)) in
    let here : c.deref_mut-in-Disjunction.result.now.current < TERMINATED =
    omega (arith, c.requires.here, ap (tree_head D) c.in-Disjunction.is, ap (λ (n : GroupNode g.row.S.Denot). n.current) value) in
    (search (rules, aq.the_lemmas), (search rules, (opened, here)))

pub any_scorer::score_other-score_intersection-requires : goal.any_scorer::score_other-score_intersection-requires
any_scorer::score_other-score_intersection-requires g t c κs within =
    let node = c.in-Intersection.node in
    let lent = rw (c.in-Intersection.is, outs-Intersection node) at c.deref_mut-in-Intersection.ensures.value in
    let is = c.in-Intersection.is in
    let D = g.S.DocSet in (
      search (rules, aq.the_lemmas),
      (
        search rules,
        (lent-trees D node is lent c.requires.valid, (lent-together D node is lent c.requires.placed, lent-here D node is lent c.requires.here)),
      ),
    )

pub any_scorer::score_other-returns-in-Disjunction : goal.any_scorer::score_other-returns-in-Disjunction
any_scorer::score_other-returns-in-Disjunction g t c =
    let D = g.S.DocSet in
    let node = c.in-Disjunction.node in
    let lent = rw (c.in-Disjunction.is, outs-Disjunction node) at c.deref_mut-in-Disjunction.ensures.value in
    let new = c.score_group.new.node in
    let is = c.score_group.ensures in
    scored-as D (Disjunction node) (Disjunction (record node { value = new })) c.in-Disjunction.is (rw (c.in-Disjunction.is, outs-Disjunction node) refl)
    (scored-Disjunction D node new lent is.score is.fits is.lists is.valid is.shape is.current is.depth)

pub any_scorer::score_other-returns-in-Intersection : goal.any_scorer::score_other-returns-in-Intersection
any_scorer::score_other-returns-in-Intersection g t c =
    let D = g.S.DocSet in
    let node = c.in-Intersection.node in
    let lent = rw (c.in-Intersection.is, outs-Intersection node) at c.deref_mut-in-Intersection.ensures.value in
    let new = c.score_intersection.new.node in
    let is = c.score_intersection.ensures in
    scored-as D (Intersection node) (Intersection (record node { value = new })) c.in-Intersection.is (rw (c.in-Intersection.is, outs-Intersection node) refl)
    (scored-Intersection D node new c.in-Intersection.is lent c.requires.valid is.score is.fits is.entries is.trees is.placed is.head is.top is.depth)

-- ---- unions

pub any_scorer::score_other-score_union-requires-clause-valid : goal.any_scorer::score_other-score_union-requires-clause-valid
any_scorer::score_other-score_union-requires-clause-valid g t c =
    let D = g.S.DocSet in
    let node = c.in-Union.node in
    let value = rw (c.in-Union.is, outs-Union c.in-Union.node) at c.deref_mut-in-Union.ensures.value in
    subst (IsUnionNode D) (sym value) (opened-Union D node (subst (IsTree D) c.in-Union.is c.requires.valid))

pub any_scorer::score_other-returns-in-Union : goal.any_scorer::score_other-returns-in-Union
any_scorer::score_other-returns-in-Union g t c =
    let D = g.S.DocSet in
    let node = c.in-Union.node in
    let lent = rw (c.in-Union.is, outs-Union node) at c.deref_mut-in-Union.ensures.value in
    let new = c.score_union.new.node in
    let is = c.score_union.ensures in
    scored-as D (Union node) (Union (record node { value = new })) c.in-Union.is (rw (c.in-Union.is, outs-Union node) refl)
    (scored-Union D node new lent (subst (IsTree D) c.in-Union.is c.requires.valid) is.score is.fits is.same)

pub union_node::take_document-score_tree-score-requires : goal.union_node::take_document-score_tree-score-requires
union_node::take_document-score_tree-score-requires g t c κs within =
    let r = c.requires in
    let here = tree-head g.S.DocSet g.met.S.DocSet.ascending c.args.member.now r.valid r.placed in (
      search (rules, aq.the_lemmas),
      (search rules, (r.valid, (r.placed, omega (arith, here, r.here, r.some)))),
    )

-- ---- a term or a scorer of the caller's own, asked

pub any_scorer::seek_tree-seek-requires : goal.any_scorer::seek_tree-seek-requires
any_scorer::seek_tree-seek-requires g t c =
    leaf-sent g.S.DocSet Term c.in-Term.leaf-is c.in-Term.is c.requires.valid c.requires.target

pub any_scorer::danger_tree-seek_danger-requires : goal.any_scorer::danger_tree-seek_danger-requires
any_scorer::danger_tree-seek_danger-requires g t c =
    leaf-sent g.S.DocSet Term c.in-Term.leaf-is c.in-Term.is c.requires.valid c.requires.target

pub any_scorer::score_tree-score-requires : goal.any_scorer::score_tree-score-requires
any_scorer::score_tree-score-requires g t c =
    leaf-scored g.S.DocSet Term (λ s. scored_left s.value) (λ _. refl) c.in-Term.leaf-is c.in-Term.is c.requires.valid c.requires.placed c.requires.here

pub any_scorer::seek_tree-seek-requires-in-Own : goal.any_scorer::seek_tree-seek-requires-in-Own
any_scorer::seek_tree-seek-requires-in-Own g t c =
    leaf-sent g.S.DocSet Own c.in-Own.leaf-is c.in-Own.is c.requires.valid c.requires.target

pub any_scorer::danger_tree-seek_danger-requires-in-Own : goal.any_scorer::danger_tree-seek_danger-requires-in-Own
any_scorer::danger_tree-seek_danger-requires-in-Own g t c =
    leaf-sent g.S.DocSet Own c.in-Own.leaf-is c.in-Own.is c.requires.valid c.requires.target

pub any_scorer::score_tree-score-requires-in-Own : goal.any_scorer::score_tree-score-requires-in-Own
any_scorer::score_tree-score-requires-in-Own g t c =
    leaf-scored g.S.DocSet Own g.S.DocSet.entries (λ _. refl) c.in-Own.leaf-is c.in-Own.is c.requires.valid c.requires.placed c.requires.here
