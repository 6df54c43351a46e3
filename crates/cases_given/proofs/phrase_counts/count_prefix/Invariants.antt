use Rattle.qm_phrase.specs.PhrasePrefixScorer.{IsOnPhrasePrefix, IsPhrasePrefix}
use Rattle.qm_postings.specs.contracts.segment_postings.SegmentPostingsDocSet.TheImpl.{ghosts}
use Rattle.cases_given.proofs.phrase_counts.count_prefix.Given as goal

abbrev pub invariant-loop : goal.invariant-loop
invariant-loop l = IsPhrasePrefix ghosts l.phrase × IsOnPhrasePrefix ghosts l.phrase
