-- It goes on from its members' first documents; their order is of no consequence.
use Rattle.std.proofs.Common.{◌≡◌, ◌≤◌, ap, arith, max, nat_abs, of_z, rules, sym, to_z, true≢false, w64, ◌∙◌}
use Rattle.std.proofs.lemmas.List.Sorted.{IsPermutation-map}
use Rattle.qm_docset.specs.Entry.{greatest_score}
use Rattle.qm_docset.specs.Gather.{gather}
use Rattle.qm_docset.specs.Lists.{bounds, lists}
use Rattle.qm_docset.proofs.Gathering.{gather-permutation}
use Rattle.qm_combine.specs.CombineFacts.{combined-permutation}
use Rattle.qm_combine.specs.Union.{least_head, total_top, united_limits}
use Rattle.qm_combine.proofs.Chained.{united-permutation}
use Rattle.qm_combine.proofs.union.buffered_union.BufferedUnion.over.Goals as goal

-- the window is empty
pub go_to_least-requires-clause-passed : goal.go_to_least-requires-clause-passed
go_to_least-requires-clause-passed g c =
    let limits = c.ended_if_few-members.ensures.limits in
    let fits : total_top (bounds g.S.DocSet c.args.docsets.items) ≤ greatest_score = search rules in
    let bound : nat_abs (to_z w64 (of_z w64 c.max.result)) ≡ max 1 (total_top (bounds g.S.DocSet c.args.docsets.items)) = search rules in
    record {
      placed = c.ended_if_few-members.ensures.placed;
      parts = record {
        fits = omega (arith, ap total_top limits, fits);
        bound = bound ∙ ap (λ ls. max 1 (total_top ls)) (sym limits);
        start = record { start = c.args.combiner; is = c.in_ok-window.ensures.combiner };
        until = c.in_ok-window.ensures.until;
      };
      next = c.least_document-ahead.ensures ∙ ap (λ xs. least_head (lists g.S.DocSet xs)) c.deref-2.ensures.value;
      behind = λ d here. absurd (true≢false (sym here ∙ c.in_ok-window.ensures.documents d));
    }

pub returns-clause-lists : goal.returns-clause-lists
returns-clause-lists g c =
    let left = c.go_to_least.ensures.left in
    let least = g.L.LeastMembers.least c.args.least in
    let members = lists g.S.DocSet c.ended_if_few-members.result.items in
    record {
      entries = left.entries ∙ ap (λ k. gather least (g.C.ScoreCombiner.combined k) members) c.in_ok-window.ensures.combiner
          ∙ ap (λ f. gather least f members) (g.met.C.ScoreCombiner.clear_keeps c.args.combiner)
          ∙ ap (λ n. gather n (g.C.ScoreCombiner.combined c.args.combiner) members) (sym c.number.ensures)
          ∙ c.ended_if_few-members.ensures.entries (g.C.ScoreCombiner.combined c.args.combiner)
          ∙ ap (λ n. gather n (g.C.ScoreCombiner.combined c.args.combiner) (lists g.S.DocSet c.args.docsets.items)) c.number.ensures;
      limits = left.limits ∙ ap united_limits c.ended_if_few-members.ensures.limits;
      valid = left.valid;
      placed = left.placed;
    }

pub returns-clause-any_order : goal.returns-clause-any_order
returns-clause-any_order g c = λ members moved.
    let given = c.args.docsets.items in
    let listed = returns-clause-lists g c in
    let any = combined-permutation g.C.ScoreCombiner g.met.C.ScoreCombiner.combines g.met.C.ScoreCombiner.commutes c.args.combiner in
    let combined = g.C.ScoreCombiner.combined c.args.combiner in
    let least = g.L.LeastMembers.least c.args.least in
    record {
      entries = listed.entries ∙ gather-permutation least combined _ _ any (IsPermutation-map g.S.DocSet.entries given members moved);
      limits = listed.limits ∙ united-permutation _ _ (IsPermutation-map g.S.DocSet.limits given members moved);
      valid = listed.valid;
      placed = listed.placed;
    }
