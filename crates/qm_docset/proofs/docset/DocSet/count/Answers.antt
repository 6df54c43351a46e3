-- Each step counts its document where it is alive.
use Rattle.std.proofs.Common.{◌<◌, length, arith, ap, sym, ◌∙◌}
use Rattle.qm_docset.specs.AliveBitSet.{alive_docs, alive_entries}
use Rattle.qm_docset.specs.BitSet.{set_has}
use Rattle.qm_docset.specs.Entry.{head_document}
use Rattle.qm_docset.specs.EntryFacts.{length-entries, head_document-bounds, entries-at_end}
use Rattle.qm_docset.proofs.AliveLemmas.{length-alive_entries, alive_entries-nil, alive_first, deleted_first}
use Rattle.qm_docset.proofs.docset.DocSet.count.Goals as goal
use Rattle.qm_docset.proofs.docset.DocSet.count.Goals.{then-is_alive, else-is_alive}

pub overflow_add-count : goal.overflow_add-count
overflow_add-count g c =
    let most = length-entries 0 _ _ (omega arith) (g.met.Self.DocSet.ascending c.args.self.now c.requires.valid) in
    omega (arith, length-alive_entries c.args.alive.now (g.Self.DocSet.entries c.args.self.now))

pub loop-doc-preserved : goal.loop-doc-preserved
loop-doc-preserved g c =
    let alive = c.args.alive.now in
    let es = g.Self.DocSet.entries c.loop-doc.self in
    let bounds = head_document-bounds 0 _ es (omega arith) (g.met.Self.DocSet.ascending c.loop-doc.self c.loop-doc.invariant.valid) in
    let below : head_document es < 2147483647 = omega arith in
    let left = ap (λ rest. length (alive_entries alive rest)) c.advance-doc.ensures.entries in
    let at_head = c.is_alive.ensures.member ∙ ap (set_has (alive_docs alive)) c.loop-doc.invariant.here in
    record {
      counted = elim c.if-is_alive.branch [
        | then-is_alive w ↦ omega (arith, left, alive_first alive es below (sym at_head ∙ w.if-is_alive.true))
        | else-is_alive w ↦ omega (arith, left, deleted_first alive es below (sym at_head ∙ w.if-is_alive.false))
      ];
      here = c.advance-doc.ensures.head;
      limits = c.advance-doc.ensures.limits ∙ c.loop-doc.invariant.limits;
      kept = λ s k. c.advance-doc.ensures.kept s (c.loop-doc.invariant.kept s k);
      valid = c.advance-doc.ensures.valid;
      placed = c.advance-doc.ensures.placed;
    }

pub returns-clause-count : goal.returns-clause-count
returns-clause-count g c =
    let es = g.Self.DocSet.entries c.loop-doc.self in
    let none = entries-at_end 0 _ es (g.met.Self.DocSet.ascending c.loop-doc.self c.loop-doc.invariant.valid) (omega arith) in
    omega (arith, c.loop-doc.invariant.counted, ap (λ rest. length (alive_entries c.args.alive.now rest)) none, ap length (alive_entries-nil c.args.alive.now))
