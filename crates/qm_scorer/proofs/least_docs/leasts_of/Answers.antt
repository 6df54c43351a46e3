use Rattle.std.proofs.Common.{◌≡◌, ◌*◌, ◌+◌, [], ◌∷◌, ◌++◌, drop, arith, sym, ap, ◌∙◌, subst, append_assoc, length-drop}
use Rattle.std.proofs.lemmas.List.{append-nil, drop-drop, drop_all}
use Rattle.qm_scorer.specs.LeastDocs.{AreLeasts}
use Rattle.qm_scorer.proofs.least_docs.leasts_of.Goals as goal

pub loop-span-preserved : goal.loop-span-preserved
loop-span-preserved c =
    let row = c.args.row.now in
    let start = 32 * c.loop-span.span in
    let least = c.least_in.result in
    let before = c.loop-span.leasts.items in
    let behind : drop (32 * (c.loop-span.span + 1)) row ≡ drop 32 (drop start row) = ap (λ n. drop n row) (omega arith) ∙ sym (drop-drop 32 start row) in
    record {
      within = omega (arith, c.loop-span-test.true);
      rest = λ others h. subst (λ ls. AreLeasts ls row) (sym (ap (λ ls. ls ++ others) c.in_ok-push.ensures.items ∙ append_assoc before (least ∷ []) others))
          (c.loop-span.invariant.rest (least ∷ others) (
            omega (arith, length-drop start row, c.loop-span-test.true),
            c.least_in.ensures,
            subst (AreLeasts others) behind h,
          ));
    }

pub returns : goal.returns
returns c =
    subst (λ ls. AreLeasts ls c.args.row.now) (append-nil c.loop-span.leasts.items)
    (c.loop-span.invariant.rest [] (drop_all (32 * c.loop-span.span) c.args.row.now (omega (arith, c.loop-span-test.false))))
