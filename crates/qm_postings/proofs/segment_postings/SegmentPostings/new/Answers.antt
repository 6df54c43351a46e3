use Rattle.std.proofs.Common.{refl}
use Rattle.qm_postings.proofs.BlockFrequencies.{within_ids}
use Rattle.qm_postings.proofs.BlockLemmas.{at_start, looks_here, starts, zero_blocks}
use Rattle.qm_postings.proofs.segment_postings.SegmentPostings.new.Goals as goal

pub returns-clause-lists : goal.returns-clause-lists
returns-clause-lists c = record { entries = refl; limits = refl; valid = starts c.args.reading c.args.arrays c.requires; placed = tt }

pub returns-clause-looked : goal.returns-clause-looked
returns-clause-looked c =
    looks_here (at_start c.args.reading c.args.arrays) (starts c.args.reading c.args.arrays c.requires) (λ inside. zero_blocks c.args.reading c.args.arrays)

pub returns-clause-ids : goal.returns-clause-ids
returns-clause-ids c = λ ids are. within_ids c.args.reading c.args.arrays c.requires ids are
