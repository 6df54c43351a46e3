use Rattle.std.proofs.Common.{ap, ◌∙◌, arith}
use Rattle.std.proofs.lemmas.List.{take_all}
use Rattle.qm_index.specs.Indexed.{indexed}
use Rattle.qm_index.specs.Numbers.{document_count}
use Rattle.example_callers.proofs.Searched.{counted-within, counted-next, searched-count}
use Rattle.example_callers.proofs.index_callers.unsearched_documents.Goals as goal

pub overflow_sub-left : goal.overflow_sub-left
overflow_sub-left c =
    let readers = c.segment_readers-readers.result.now in
    let within = counted-within readers c.loop-reader.reader-index c.reader-item.result c.loop-reader-test.true c.reader-item.is in
    let all = ap document_count c.segment_readers-readers.ensures.segments
    ∙ searched-count (indexed c.args.index.now) c.searcher.result.now.segments c.searcher.ensures.searched in
    omega (arith, within, all, c.loop-reader.invariant, c.max_doc.ensures.number, c.from-left.ensures)

pub loop-reader-preserved : goal.loop-reader-preserved
loop-reader-preserved c =
    let readers = c.segment_readers-readers.result.now in
    let within = counted-within readers c.loop-reader.reader-index c.reader-item.result c.loop-reader-test.true c.reader-item.is in
    let next = counted-next readers c.loop-reader.reader-index c.reader-item.result c.loop-reader-test.true c.reader-item.is in
    let all = ap document_count c.segment_readers-readers.ensures.segments
    ∙ searched-count (indexed c.args.index.now) c.searcher.result.now.segments c.searcher.ensures.searched in
    omega (arith, within, next, all, c.loop-reader.invariant, c.max_doc.ensures.number, c.from-left.ensures)

pub returns : goal.returns
returns c =
    let readers = c.segment_readers-readers.result.now in
    let all = ap document_count c.segment_readers-readers.ensures.segments
    ∙ searched-count (indexed c.args.index.now) c.searcher.result.now.segments c.searcher.ensures.searched in
    let whole = ap document_count (take_all c.loop-reader.reader-index readers c.loop-reader-test.false) in
    omega (arith, whole, all, c.loop-reader.invariant)
