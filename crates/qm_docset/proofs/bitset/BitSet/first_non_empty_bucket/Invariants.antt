use Rattle.std.proofs.Common.{◌*◌}
use Rattle.qm_docset.specs.Words.{words_have}
use Rattle.qm_docset.proofs.MembersLemmas.{HasNone}
use Rattle.qm_docset.proofs.bitset.BitSet.first_non_empty_bucket.Given as goal

abbrev pub invariant-loop-index : goal.invariant-loop-index
invariant-loop-index l = record {
  none : HasNone (words_have l.self.words.items) (64 * l.bucket) (64 * l.index);
}
