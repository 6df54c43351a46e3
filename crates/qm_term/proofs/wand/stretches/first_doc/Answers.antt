use Rattle.std.proofs.Common.{◌≤◌, ap, arith, get_or, inl, inr, subst, sym}
use Rattle.std.proofs.lemmas.Bool.{cases_eq}
use Rattle.qm_combine.proofs.WindowWords.{get_or-there as any}
use Rattle.qm_term.specs.declared.wand.heads.Head.{Head}
use Rattle.qm_term.proofs.RowRecords.{zeros}
use Rattle.qm_term.proofs.wand.stretches.first_doc.Goals as goal

pub loop-k-preserved : goal.loop-k-preserved
loop-k-preserved c =
    let hs = c.args.heads.now in
    let k = c.loop-k.k in
    let inside = c.loop-k.invariant in
    record {
      end = omega (arith, c.min-least.ensures, inside.end);
      least = λ j d l. elim (cases_eq j k) [
        | inl e ↦ subst (λ i. c.min-least.result ≤ (get_or hs i d).doc) (sym e)
            (omega (arith, c.min-least.ensures, ap (λ (h : Head). h.doc) (any hs k zeros d (omega (arith, c.loop-k-test.true)))))
        | inr other ↦ omega (arith, c.min-least.ensures, inside.least j d (omega (arith, l, other)))
      ];
      from = λ p below all. omega (arith, c.min-least.ensures, inside.from p below all, all k zeros (omega (arith, c.loop-k-test.true)));
    }

pub returns-clause-least : goal.returns-clause-least
returns-clause-least c = λ j d l. c.loop-k.invariant.least j d (omega (arith, l, c.loop-k-test.false))
