use Rattle.std.proofs.Common.{◌≡◌, ◌∙◌, ◌+◌, ◌<◌, List, ap, arith, get_or, inl, inr, length, map, rules, sym, subst}
use Rattle.std.proofs.lemmas.Bool.{cases_eq}
use Rattle.std.proofs.lemmas.List.{get_or-map}
use Rattle.qm_term.specs.HeadRow.{row_lists}
use Rattle.qm_term.specs.Heads.{listed, no_member}
use Rattle.qm_term.specs.Members.{Member}
use Rattle.qm_term.specs.Pivot.{pivot_bound}
use Rattle.qm_term.specs.RunScorers.{wand_member}
use Rattle.qm_term.specs.Stretches.{IsLookedAt}
use Rattle.qm_term.proofs.RowRecords.{row_members, zeros}
use Rattle.qm_term.proofs.WandRows.{pivot_bounds_le, sum_below, sum_done, sum_more}
use Rattle.qm_term.proofs.wand.stretches.bounds_from.Goals as goal

pub overflow_add-sum : goal.overflow_add-sum
overflow_add-sum g c =
    let hs = c.args.heads.now in
    let ss = c.args.scorers.now in
    let ms = map wand_member ss in
    let k = c.loop-k.k in
    let inside = c.loop-k.invariant in
    let p = c.args.low in
    let l : k < length hs = omega (arith, c.loop-k-test.true) in
    let is : c.bound_from-sum.result ≡ pivot_bound p (listed ms (get_or hs k zeros)) =
    c.bound_from-sum.ensures.bound ∙ ap (λ (xs : List Member). pivot_bound p (get_or xs k no_member)) inside.lists
    ∙ ap (pivot_bound p) (get_or-map (listed ms) hs k zeros no_member l) in
    let low = sum_below (listed ms) hs k (pivot_bound p) zeros c.loop-k.sum c.bound_from-sum.result _ l is inside.sum in
    let small : c.loop-k.sum + c.bound_from-sum.result < 18446744073709551616 =
    omega (arith, low, pivot_bounds_le p (row_lists ss hs) (row_members ss hs c.requires.heads), c.requires.fits) in
    search rules

pub loop-k-preserved : goal.loop-k-preserved
loop-k-preserved g c =
    let hs = c.args.heads.now in
    let ss = c.args.scorers.now in
    let ms = map wand_member ss in
    let k = c.loop-k.k in
    let inside = c.loop-k.invariant in
    let p = c.args.low in
    let l : k < length hs = omega (arith, c.loop-k-test.true) in
    let is : c.bound_from-sum.result ≡ pivot_bound p (listed ms (get_or hs k zeros)) =
    c.bound_from-sum.ensures.bound ∙ ap (λ (xs : List Member). pivot_bound p (get_or xs k no_member)) inside.lists
    ∙ ap (pivot_bound p) (get_or-map (listed ms) hs k zeros no_member l) in
    record {
      heads = c.bound_from-sum.ensures.heads;
      lists = c.bound_from-sum.ensures.lists ∙ inside.lists;
      known = λ j d less. elim (cases_eq j k) [
        | inl e ↦ subst (λ i. IsLookedAt p (get_or c.bound_from-sum.new.heads i d)) (sym e) (c.bound_from-sum.ensures.known d)
        | inr other ↦ subst (IsLookedAt p) (sym (c.bound_from-sum.ensures.others j d other)) (inside.known j d (omega (arith, less, other)))
      ];
      sum = sum_more (listed ms) hs k (pivot_bound p) zeros c.loop-k.sum c.bound_from-sum.result _ l is inside.sum;
    }

pub returns-clause-known : goal.returns-clause-known
returns-clause-known g c = λ k d l. c.loop-k.invariant.known k d (omega (arith, l, c.loop-k-test.false))

pub returns-clause-bounds : goal.returns-clause-bounds
returns-clause-bounds g c =
    let hs = c.args.heads.now in
    let ms = map wand_member c.args.scorers.now in
    sum_done (listed ms) hs c.loop-k.k (pivot_bound c.args.low) c.loop-k.sum _ (omega (arith, c.loop-k-test.false)) c.loop-k.invariant.sum
