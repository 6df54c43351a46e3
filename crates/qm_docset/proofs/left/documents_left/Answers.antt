-- A buffer takes the next documents, and behind a buffer that is not full there is none.
use Rattle.std.proofs.Common.{◌<◌, length, ◌++◌, take, drop, ap, ◌∙◌, append_assoc, arith, length-drop, take_all}
use Rattle.qm_docset.specs.Entry.{documents}
use Rattle.qm_docset.proofs.Buffers.{documents-split}
use Rattle.qm_docset.proofs.left.documents_left.Goals as goal

pub returns-then-count-lt-COLLECT_BLOCK_BUFFER_LEN :
    goal.returns-then-count-lt-COLLECT_BLOCK_BUFFER_LEN
returns-then-count-lt-COLLECT_BLOCK_BUFFER_LEN g c =
    let es = g.D.DocSet.entries c.loop-found.docset in
    let last = take_all 64 es (omega (arith, c.fill_buffer-count.ensures.count)) in
    c.in_ok-extend_from_slice.ensures.items
    ∙ ap (λ ds. c.loop-found.found.items ++ ds) (c.fill_buffer-count.ensures.documents ∙ ap documents last) ∙ c.loop-found.invariant.visited

pub loop-found-smaller : goal.loop-found-smaller
loop-found-smaller g c =
    let es = g.D.DocSet.entries c.loop-found.docset in
    let fewer : length (g.D.DocSet.entries c.fill_buffer-count.new.self) < length es =
    omega (arith, c.fill_buffer-count.ensures.count, ap length c.fill_buffer-count.ensures.entries, length-drop 64 es) in
    fewer

pub loop-found-preserved : goal.loop-found-preserved
loop-found-preserved g c =
    let es = g.D.DocSet.entries c.loop-found.docset in
    let found = c.loop-found.found.items in
    record {
      visited = ap (λ ds. ds ++ documents (g.D.DocSet.entries c.fill_buffer-count.new.self))
          (c.in_ok-extend_from_slice.ensures.items ∙ ap (λ ds. found ++ ds) c.fill_buffer-count.ensures.documents)
          ∙ ap (λ rest. (found ++ documents (take 64 es)) ++ documents rest) c.fill_buffer-count.ensures.entries
          ∙ append_assoc found (documents (take 64 es)) (documents (drop 64 es))
          ∙ ap (λ ds. found ++ ds) (documents-split 64 es)
          ∙ c.loop-found.invariant.visited;
      placed = record { valid = c.fill_buffer-count.ensures.valid; placed = c.fill_buffer-count.ensures.placed };
    }
