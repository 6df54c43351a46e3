use Rattle.std.proofs.Common.{◌≡◌, map}
use Rattle.qm_phrase.proofs.SuffixTrees.{unbounded}
use Rattle.qm_phrase.proofs.suffixes.row_of_suffixes.Given as goal

abbrev pub invariant-loop-postings : goal.invariant-loop-postings
invariant-loop-postings g l = l.row.items ≡ map unbounded l.yielded
