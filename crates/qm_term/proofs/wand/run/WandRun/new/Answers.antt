use Rattle.std.proofs.Common.{◌≡◌, ◌∙◌, ◌<◌, ◌≤◌, ◌++◌, ◌^◌, List, ap, arith, drop, length, map, refl, subst, sym, take, w64}
use Rattle.std.specs.List.Sorted.{IsPermutation}
use Rattle.std.proofs.lemmas.Int.{to_z-of_z}
use Rattle.qm_docset.specs.Entry.{greatest_score}
use Rattle.qm_term.specs.HeadRow.{AreHeads, IsRow, row_lists}
use Rattle.qm_term.specs.Members.{Member}
use Rattle.qm_term.specs.Pivot.{postings, total_top}
use Rattle.qm_term.specs.RunScorers.{wand_member}
use Rattle.qm_term.specs.TermBlocks.{member_of}
use Rattle.qm_term.specs.declared.term_scorer.TermScorer.{TermScorer}
use Rattle.qm_term.specs.declared.wand.front.TermScorerWithMaxScore.{TermScorerWithMaxScore}
use Rattle.qm_term.specs.declared.wand.heads.Head.{Head}
use Rattle.qm_term.proofs.RowMade.{few_postings}
use Rattle.qm_term.proofs.RowRecords.{heads_permuted, lists_permuted}
use Rattle.qm_term.proofs.WandOrder.{postings_permuted, total_permuted}
use Rattle.qm_term.proofs.WandSteps.{whole}
use Rattle.qm_term.proofs.wand.run.WandRun.new.Goals as goal

pub returns-clause-made : goal.returns-clause-made
returns-clause-made g c =
    let scorers = c.args.scorers.items in
    let ls = map member_of scorers in
    let ss = c.in_ok-row.row.items in
    let ms = map wand_member ss in
    let hs = c.in_ok-heads.heads.items in
    let gs = c.settle.new.heads in
    let hw = take c.in_ok-heads.heads.len (gs ++ drop (length gs) hs) in
    let wg : hw ≡ gs = whole _ hs gs c.in_ok-heads.heads.ok.0 (omega (arith, c.settle.auto.heads, ap length c.deref_mut.ensures.value)) in
    let heads : AreHeads ss hs = subst (λ (xs : List (TermScorerWithMaxScore _ _)). AreHeads xs hs) c.deref-2.ensures.value c.in_ok-heads.ensures.heads in
    let lists : row_lists ss hs ≡ ls = subst (λ (xs : List (TermScorerWithMaxScore _ _)). row_lists xs hs ≡ map wand_member xs)
    c.deref-2.ensures.value c.in_ok-heads.ensures.lists ∙ c.in_ok-row.ensures.members in
    let moved : IsPermutation hs gs = subst (λ (xs : List Head). IsPermutation xs gs) c.deref_mut.ensures.value c.settle.ensures.permutation in
    let row : IsRow ss hw =
    subst (λ (ys : List Head). IsRow ss ys) (sym wg) (record { heads = heads_permuted ss hs gs moved heads; sorted = c.settle.ensures.sorted }) in
    let order : IsPermutation ls (row_lists ss hw) =
    subst (λ (ys : List Head). IsPermutation ls (row_lists ss ys)) (sym wg)
    (subst (λ (xs : List Member). IsPermutation xs (row_lists ss gs)) lists (lists_permuted ms hs gs moved)) in
    let fits : total_top ls ≤ greatest_score = subst (λ (xs : List (TermScorer _ _)). total_top (map member_of xs) ≤ greatest_score) c.deref.ensures.value
    (c.tops_fit.ensures.fits c.if-not-tops_fit.false) in
    let few : postings (row_lists ss hw) < 2 ^ 127 =
    omega (arith, postings_permuted ls (row_lists ss hw) order, few_postings scorers c.requires, c.args.scorers.ok.0, c.args.scorers.small) in
    record {
      valid = record {
        row = row;
        fits = omega (arith, total_permuted (λ m. m.top) ls (row_lists ss hw) order, fits);
        room = omega (arith, few);
        ticks = omega (arith, c.new.ensures);
      };
      lists = order;
      same = to_z-of_z w64 c.args.threshold c.ranges.threshold;
      combines = refl;
      no_turns = refl;
      no_ticks = c.new.ensures;
    }
