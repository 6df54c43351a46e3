use Rattle.std.proofs.Common.{arith}
use Rattle.birchagain_bytes.proofs.DeletedCount.{alive-or-deleted}
use Rattle.birchagain_bytes.proofs.deleted_count.deleted_count.Goals as goal

pub overflow_sub-result : goal.overflow_sub-result
overflow_sub-result c =
    omega (arith, alive-or-deleted c.args.segment.now.segment c.alive_bitset.ensures.ascending, c.max_doc-count.ensures.number, c.num_docs.ensures)

pub returns-in-Some-clause-deleted : goal.returns-in-Some-clause-deleted
returns-in-Some-clause-deleted c =
    omega (arith, alive-or-deleted c.args.segment.now.segment c.alive_bitset.ensures.ascending, c.max_doc-count.ensures.number, c.num_docs.ensures)
