use Rattle.std.proofs.Common.{All}
use Rattle.qm_postings.specs.SegmentPostings.{IsPostings}
use Rattle.cases_postings.proofs.segment_phrases.suffixes.Given as goal

abbrev pub invariant-loop-term : goal.invariant-loop-term
invariant-loop-term l = All IsPostings l.row.items
