use Rattle.std.proofs.Common.{◌≤◌, length}
use Rattle.cases_given.proofs.front.read_words.Given as goal

abbrev pub invariant-loop-at : goal.invariant-loop-at
invariant-loop-at g l = l.end ≤ length l.words
