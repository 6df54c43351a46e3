-- Each member stands on its first document.
use Rattle.std.proofs.Common.{◌≡◌, ◌<◌, ◌≤◌, [], ◌∷◌, ◌++◌, List, ℕ, get_or, length, map, take, arith, sym, ap, subst, ◌∙◌}
use Rattle.std.specs.Prelude.{IfOk, Result}
use Rattle.std.proofs.Common.{Ok, Err}
use Rattle.std.proofs.lemmas.List.{length-map, take_all, take_more}
use Rattle.std.proofs.lemmas.List.Elements.{All-get_or}
use Rattle.qm_docset.specs.Entry.{Entry, head_document}
use Rattle.qm_combine.proofs.EachMember.{get_or-map-map}
use Rattle.qm_scorer.specs.LeastDocs.{IsLeastDocs}
use Rattle.qm_scorer.specs.Tree.{AreMemberHeads, IsTree, IsTreePlaced, tree_entries}
use Rattle.qm_scorer.specs.declared.least_docs.LeastDocs.{LeastDocs}
use Rattle.qm_scorer.proofs.Heads.{tree-head}
use Rattle.qm_scorer.proofs.group_builders.heads_of.Goals as goal

made : {E : Type 0} (result : Result LeastDocs E) (docs : List ℕ) (ess : List (List Entry)) → docs ≡ map head_document ess → IfOk result IsLeastDocs →
    IfOk result (λ row. row.docs.items ≡ docs) → IfOk result (λ heads. AreMemberHeads heads ess)
made (Ok row) docs ess is valid same = record { valid = valid; docs = same ∙ is }
made (Err e) docs ess is valid same = tt

pub loop-member-preserved : goal.loop-member-preserved
loop-member-preserved g c =
    let D = g.S.DocSet in
    let xs = c.args.members.now in
    let i = c.loop-member.member-index in
    let x = c.member-item.result in
    let heads = map head_document (map (tree_entries D) xs) in
    let here : i < length xs = omega (arith, c.loop-member-test.true) in
    let long : i < length heads = omega (arith, here, length-map xs (tree_entries D), length-map (map (tree_entries D) xs) head_document) in
    let valid : IsTree D x = subst (IsTree D) (sym c.member-item.is) (All-get_or (IsTree D) xs i x here c.requires.placed.valid) in
    let placed : IsTreePlaced D x = subst (IsTreePlaced D) (sym c.member-item.is) (All-get_or (IsTreePlaced D) xs i x here c.requires.placed.placed) in
    let doc : c.doc_tree.result ≡ get_or heads i 0 = c.doc_tree.ensures ∙ tree-head D g.met.S.DocSet.ascending x valid placed
    ∙ ap (λ y. head_document (tree_entries D y)) c.member-item.is ∙ sym (get_or-map-map head_document (tree_entries D) xs i x 0 here) in
    c.in_ok-push.ensures.items ∙ ap (λ ds. ds ++ c.doc_tree.result ∷ []) c.loop-member.invariant ∙ ap (λ d. take i heads ++ d ∷ []) doc
    ∙ sym (take_more heads i 0 long)

pub returns : goal.returns
returns g c =
    let D = g.S.DocSet in
    let ess = map (tree_entries D) c.args.members.now in
    let all : length (map head_document ess) ≤ c.loop-member.member-index =
    omega (arith, c.loop-member-test.false, length-map c.args.members.now (tree_entries D), length-map ess head_document) in
    made c.new.result c.loop-member.docs.items ess (c.loop-member.invariant ∙ take_all c.loop-member.member-index (map head_document ess) all)
    c.new.ensures.valid c.new.ensures.docs
