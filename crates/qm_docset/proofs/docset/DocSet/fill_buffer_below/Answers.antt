-- The buffer takes a document a step, until it is full or the cursor stands at the bound or past it.
use Rattle.std.proofs.Common.{◌≡◌, ◌+◌, ◌<◌, ◌≤◌, length, drop, arith, ap, ◌∙◌, add-one}
use Rattle.std.proofs.lemmas.List.{drop-drop}
use Rattle.qm_docset.specs.BelowFacts.{below-here, below-none, length-below-drop, length-below-most}
use Rattle.qm_docset.specs.Entry.{below, head_document}
use Rattle.qm_docset.specs.EntryFacts.{AreEntries-drop}
use Rattle.qm_docset.proofs.Buffers.{documents-taken_more}
use Rattle.qm_docset.proofs.docset.DocSet.fill_buffer_below.Goals as goal

pub returns-then-doc-end-clause-count : goal.returns-then-doc-end-clause-count
returns-then-doc-end-clause-count g c =
    let es = g.Self.DocSet.entries c.args.self.now in
    let n = c.loop-taken.taken in
    let inv = c.loop-taken.invariant in
    let ascends = g.met.Self.DocSet.ascending c.args.self.now c.requires.valid in
    let none = below-none c.args.bound 0 _ (drop n es) (AreEntries-drop n 0 _ es ascends)
    (omega (arith, c.if-doc-end.true, c.min-end.ensures, inv.here, ap head_document inv.left)) in
    omega (arith, length-below-drop c.args.bound _ n 0 es ascends inv.within, ap length none, c.loop-taken-test.true)

pub loop-taken-preserved : goal.loop-taken-preserved
loop-taken-preserved g c =
    let es = g.Self.DocSet.entries c.args.self.now in
    let n = c.loop-taken.taken in
    let inv = c.loop-taken.invariant in
    let ascends = g.met.Self.DocSet.ascending c.args.self.now c.requires.valid in
    let here : c.loop-taken.doc ≡ head_document (drop n es) = inv.here ∙ ap head_document inv.left in
    let before : c.loop-taken.doc < c.args.bound = omega (arith, c.if-doc-end.false, c.min-end.ensures) in
    let some = below-here c.args.bound (drop n es) (omega (arith, here, before)) (omega (arith, c.if-doc-end.false, c.min-end.ensures, here)) in
    let more : n + 1 ≤ length (below c.args.bound es) = omega (arith, length-below-drop c.args.bound _ n 0 es ascends inv.within, some) in
    record {
      within = more;
      filled = rw add-one (documents-taken_more n c.loop-taken.doc es _ (omega (arith, more, length-below-most c.args.bound es)) (omega arith) inv.filled here);
      left = c.advance-doc.ensures.entries ∙ ap (drop 1) inv.left ∙ drop-drop 1 n es;
      here = c.advance-doc.ensures.head;
      limits = c.advance-doc.ensures.limits ∙ inv.limits;
      kept = λ s k. c.advance-doc.ensures.kept s (inv.kept s k);
      valid = c.advance-doc.ensures.valid;
      placed = c.advance-doc.ensures.placed;
    }
