use Rattle.std.proofs.Common.{arith}
use Rattle.qm_index.specs.Indexed.{indexed}
use Rattle.birchagain_bytes.proofs.OpenCounts.{all-counted}
use Rattle.birchagain_bytes.proofs.open_documents.open_documents.Goals as goal

pub documents_behind-requires : goal.documents_behind-requires
documents_behind-requires c =
    omega (arith, all-counted (indexed c.args.index.now) c.ended_segments.result.now c.ended_segments.ensures.segments, c.document_count-all.ensures)

pub returns : goal.returns
returns c =
    omega (
      arith,
      all-counted (indexed c.args.index.now) c.ended_segments.result.now c.ended_segments.ensures.segments,
      c.document_count-all.ensures,
      c.documents_behind.ensures,
    )
