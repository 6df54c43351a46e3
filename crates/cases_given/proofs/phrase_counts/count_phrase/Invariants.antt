use Rattle.qm_phrase.specs.PhraseScorer.{IsOnPhrase, IsPhrase}
use Rattle.qm_postings.specs.contracts.segment_postings.SegmentPostingsDocSet.TheImpl.{ghosts}
use Rattle.cases_given.proofs.phrase_counts.count_phrase.Given as goal

abbrev pub invariant-loop : goal.invariant-loop
invariant-loop l = IsPhrase ghosts l.phrase × IsOnPhrase ghosts l.phrase
