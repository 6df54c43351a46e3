use Rattle.std.proofs.Common.{◌≡◌, arith, ap, length, take, ◌∙◌}
use Rattle.std.proofs.lemmas.List.{take_all}
use Rattle.qm_index.specs.Indexed.{Indexed}
use Rattle.qm_index.specs.OpenDocuments.{segment_of}
use Rattle.qm_index.specs.Parts.{segments_of}
use Rattle.qm_index.proofs.Marks.{segment_of-none}
use Rattle.qm_index.proofs.index.Index.of_searcher.Goals as goal

pub returns-clause-segments : goal.returns-clause-segments
returns-clause-segments c =
    let rs = c.args.searcher.segments in
    let schema = c.args.searcher.schema in
    let n = length c.segment_readers-readers.result.now in
    let all : take n rs ≡ rs = take_all n rs (omega (arith, ap length c.segment_readers-readers.ensures.segments)) in
    let made : _ → _ → Indexed = λ readers current. record { ended = segments_of readers; current = current } in
    ap (λ ds. made (take n rs) (segment_of schema c.args.block_len ds)) c.new.ensures.items
    ∙ (λ i. made (all i) (segment_of-none schema c.args.block_len i))
