-- A step over a document below the target drops none that is sought.
use Rattle.std.proofs.Common.{◌<◌, ◌≤◌, arith, ap, sym, ◌∙◌}
use Rattle.qm_docset.specs.Entry.{from, head_document}
use Rattle.qm_docset.specs.EntryFacts.{from-drop, from-reached}
use Rattle.qm_docset.proofs.steps.seek_by_steps.Goals as goal

pub loop-doc-preserved : goal.loop-doc-preserved
loop-doc-preserved g c =
    let below : head_document (g.D.DocSet.entries c.loop-doc.docset) < c.args.target = omega arith in
    record {
      from_target = ap (from c.args.target) c.advance-doc.ensures.entries
          ∙ from-drop c.args.target _ below c.requires.target ∙ c.loop-doc.invariant.from_target;
      here = c.advance-doc.ensures.head;
      limits = c.advance-doc.ensures.limits ∙ c.loop-doc.invariant.limits;
      valid = c.advance-doc.ensures.valid;
      placed = c.advance-doc.ensures.placed;
    }

pub returns-clause-left : goal.returns-clause-left
returns-clause-left g c =
    let past : c.args.target ≤ head_document (g.D.DocSet.entries c.loop-doc.docset) = omega arith in
    let ascends = g.met.D.DocSet.ascending c.loop-doc.docset c.loop-doc.invariant.valid in
    record {
      entries = sym (from-reached c.args.target 0 _ _ past ascends) ∙ c.loop-doc.invariant.from_target;
      limits = c.loop-doc.invariant.limits;
      valid = c.loop-doc.invariant.valid;
      placed = c.loop-doc.invariant.placed;
    }
