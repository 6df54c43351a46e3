-- The buffer takes a document a step, until it is full or the cursor is at its end.
use Rattle.std.proofs.Common.{◌≡◌, ℕ, ◌<◌, length, take, drop, arith, ap, sym, subst, ◌∙◌, add-one}
use Rattle.std.proofs.lemmas.List.{take_all, drop_all, take-set, drop-drop}
use Rattle.qm_docset.specs.Entry.{documents, head_document}
use Rattle.qm_docset.proofs.Buffers.{documents-taken_more, length-ended, remains}
use Rattle.qm_docset.proofs.docset.DocSet.fill_buffer.Goals as goal
use Rattle.qm_docset.proofs.docset.DocSet.fill_buffer.Given.{Over}

-- the cursor had as many documents as were taken
ended : (g : Over) (c : goal.Then-doc-eq-TERMINATED g) → length (g.Self.DocSet.entries c.args.self.now) ≡ c.loop-taken.taken
ended g c =
    let here = ap head_document (sym c.loop-taken.invariant.left) ∙ sym c.loop-taken.invariant.here ∙ c.if-doc-eq-TERMINATED.true in
    let most = length-ended c.loop-taken.taken 0 _ _ (g.met.Self.DocSet.ascending c.args.self.now c.requires.valid) (omega (arith, here)) in
    omega arith

pub returns-then-doc-eq-TERMINATED-clause-count : goal.returns-then-doc-eq-TERMINATED-clause-count
returns-then-doc-eq-TERMINATED-clause-count g c = let all = ended g c in omega arith

pub returns-then-doc-eq-TERMINATED-clause-documents :
    goal.returns-then-doc-eq-TERMINATED-clause-documents
returns-then-doc-eq-TERMINATED-clause-documents g c =
    let all = ended g c in
    take-set _ c.loop-taken.taken _ ∙ c.loop-taken.invariant.filled
    ∙ ap documents (take_all c.loop-taken.taken _ (omega arith) ∙ sym (take_all 64 _ (omega arith)))

pub returns-then-doc-eq-TERMINATED-clause-entries :
    goal.returns-then-doc-eq-TERMINATED-clause-entries
returns-then-doc-eq-TERMINATED-clause-entries g c =
    let all = ended g c in
    let es = g.Self.DocSet.entries c.args.self.now in
    c.loop-taken.invariant.left ∙ drop_all c.loop-taken.taken es (omega arith) ∙ sym (drop_all 64 es (omega arith))

pub loop-taken-preserved : goal.loop-taken-preserved
loop-taken-preserved g c =
    let es = g.Self.DocSet.entries c.args.self.now in
    let ascends = g.met.Self.DocSet.ascending c.args.self.now c.requires.valid in
    let here : c.loop-taken.doc ≡ head_document (drop c.loop-taken.taken es) = c.loop-taken.invariant.here ∙ ap head_document c.loop-taken.invariant.left in
    let more : c.loop-taken.taken < length es = remains c.loop-taken.taken _ es ascends (λ e. c.if-doc-eq-TERMINATED.false (here ∙ e)) in
    record {
      within = omega arith;
      filled = rw add-one (documents-taken_more c.loop-taken.taken c.loop-taken.doc es _ more (omega arith) c.loop-taken.invariant.filled here);
      left = c.advance-doc.ensures.entries ∙ ap (drop 1) c.loop-taken.invariant.left ∙ drop-drop 1 c.loop-taken.taken es;
      here = c.advance-doc.ensures.head;
      limits = c.advance-doc.ensures.limits ∙ c.loop-taken.invariant.limits;
      kept = λ s k. c.advance-doc.ensures.kept s (c.loop-taken.invariant.kept s k);
      valid = c.advance-doc.ensures.valid;
      placed = c.advance-doc.ensures.placed;
    }

pub returns-clause-documents : goal.returns-clause-documents
returns-clause-documents g c =
    let full : c.loop-taken.taken ≡ 64 = omega arith in
    let P : ℕ → Type 0 = λ n. take n c.loop-taken.buffer ≡ documents (take n (g.Self.DocSet.entries c.args.self.now)) in
    subst P full c.loop-taken.invariant.filled
