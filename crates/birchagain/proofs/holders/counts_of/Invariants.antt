-- The counts of the words before this one are there.
use Rattle.std.proofs.Common.{◌≡◌, ◌++◌, drop, map}
use Rattle.qm_index.specs.Parts.{segments_of}
use Rattle.birchagain.specs.Body.{body_term}
use Rattle.birchagain.specs.Holding.{holder_count}
use Rattle.birchagain.proofs.holders.counts_of.Given as goal

abbrev pub invariant-loop-word : goal.invariant-loop-word
invariant-loop-word l =
    l.counts.items ++ map (λ w. holder_count (body_term w.now) (segments_of l.fn.segments)) (drop l.word-index l.words)
    ≡ map (λ w. holder_count (body_term w.now) (segments_of l.fn.segments)) l.words
