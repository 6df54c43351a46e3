use Rattle.std.proofs.Common.{◌≡◌, ◌+◌, take}
use Rattle.qm_index.specs.Indexed.{all_segments, indexed}
use Rattle.qm_index.specs.Numbers.{count_of, document_count}
use Rattle.example_callers.proofs.index_callers.unsearched_documents.Given as goal

-- the segments so far have the documents that are not left
abbrev pub invariant-loop-reader : goal.invariant-loop-reader
invariant-loop-reader l = document_count (take l.reader-index l.readers) + l.left ≡ count_of (all_segments (indexed l.fn.index))
