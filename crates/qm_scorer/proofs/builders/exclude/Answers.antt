-- What any of the others has is excluded: none, what the only one has, or what their union lists.
use Rattle.std.proofs.Common.{◌≡◌, ◌<◌, ◌++◌, List, [], ◌∷◌, All, length, map, arith, refl, sym, ap, subst, ◌∙◌}
use Rattle.std.proofs.lemmas.Result.{IfOk-weaker}
use Rattle.std.proofs.lemmas.List.Elements.{All-head}
use Rattle.qm_docset.specs.Exclusion.{has_document, some_has_document}
use Rattle.qm_docset.specs.HasFacts.{has_document-union}
use Rattle.qm_scorer.specs.Group.{IsGroupNode, group_entries}
use Rattle.qm_scorer.specs.Tree.{IsTree, tree_entries}
use Rattle.qm_scorer.specs.TreeFacts.{tree-ascends}
use Rattle.qm_scorer.proofs.Built.{some_has_document-none, some_has_document-one, without-below, without-none}
use Rattle.qm_scorer.proofs.Opened.{closed-Disjunction, entries-Disjunction}
use Rattle.qm_scorer.proofs.builders.exclude.Goals as goal

empty_from : {X : Type 0} (xs : List X) → (0 < length xs → ⊥) → xs ≡ []
empty_from [] none = refl
empty_from (x ∷ xs) none = absurd (none (omega arith))

single_from : {X : Type 0} (xs rest : List X) (x : X) → xs ≡ rest ++ x ∷ [] → length xs < 2 → xs ≡ x ∷ []
single_from xs [] x is few = is
single_from xs (y ∷ []) x is few = absurd (omega (arith, ap length is))
single_from xs (y ∷ (z ∷ rest)) x is few = absurd (omega (arith, ap length is))

pub returns-in_default-clause-lists : goal.returns-in_default-clause-lists
returns-in_default-clause-lists g c =
    let entries = tree_entries g.S.DocSet in
    let none : c.args.excluded.items ≡ [] = empty_from c.args.excluded.items (λ more. grind (arith, c.in_default.ensures.variant, c.args.excluded.ok.0)) in
    record {
      entries = sym (without-none _ (entries c.args.scorer) (λ d. ap (λ l. some_has_document (map entries l) d) none ∙ some_has_document-none d));
      limits = refl;
      valid = c.requires.placed.valid;
      placed = c.requires.placed.placed;
    }

pub exclude_one-requires-clause-other : goal.exclude_one-requires-clause-other
exclude_one-requires-clause-other g c =
    let one = single_from c.args.excluded.items c.pop.new.self.items c.in-Some.out c.in-Some.ensures.items
    (omega (arith, c.len.ensures, c.if-len-lt2.true, c.args.excluded.ok.0)) in
    All-head (IsTree g.S.DocSet) c.in-Some.out [] (subst (All (IsTree g.S.DocSet)) one c.requires.others.valid)

pub returns-then-len-lt2-clause-lists : goal.returns-then-len-lt2-clause-lists
returns-then-len-lt2-clause-lists g c =
    let D = g.S.DocSet in
    let entries = tree_entries D in
    let one = single_from c.args.excluded.items c.pop.new.self.items c.in-Some.out c.in-Some.ensures.items
    (omega (arith, c.len.ensures, c.if-len-lt2.true, c.args.excluded.ok.0)) in
    let ascends = tree-ascends D g.met.S.DocSet.ascending c.args.scorer c.requires.placed.valid in
    let left = without-below (has_document (entries c.in-Some.out)) (some_has_document (map entries c.args.excluded.items)) 0 _ (entries c.args.scorer) ascends
    (λ d below. sym (ap (λ l. some_has_document (map entries l) d) one ∙ some_has_document-one (entries c.in-Some.out) d)) in
    IfOk-weaker c.exclude_one.result _ _ (λ s lists. record {
      entries = lists.entries ∙ left;
      limits = lists.limits;
      valid = lists.valid;
      placed = lists.placed;
    }) c.exclude_one.ensures.lists

pub exclude_one-requires-2-clause-other : goal.exclude_one-requires-2-clause-other
exclude_one-requires-2-clause-other g c =
    closed-Disjunction g.S.DocSet c.in_ok-new.field-0 (subst (IsGroupNode g.S.DocSet) (sym c.in_ok-new.ensures.ok) c.in_ok-node.ensures.0)

pub returns-clause-lists : goal.returns-clause-lists
returns-clause-lists g c =
    let D = g.S.DocSet in
    let entries = tree_entries D in
    let xs = c.args.excluded.items in
    let ascends = tree-ascends D g.met.S.DocSet.ascending c.args.scorer c.requires.placed.valid in
    let united = entries-Disjunction D c.in_ok-new.field-0 ∙ ap (group_entries D) c.in_ok-new.ensures.ok ∙ c.in_ok-node.ensures.1 in
    let left = without-below _ (some_has_document (map entries xs)) 0 _ (entries c.args.scorer) ascends
    (λ d below. ap (λ es. has_document es d) united ∙ has_document-union (λ _. 1) d (map entries xs) below) in
    IfOk-weaker c.exclude_one-2.result _ _ (λ s lists. record {
      entries = lists.entries ∙ left;
      limits = lists.limits;
      valid = lists.valid;
      placed = lists.placed;
    }) c.exclude_one-2.ensures.lists
