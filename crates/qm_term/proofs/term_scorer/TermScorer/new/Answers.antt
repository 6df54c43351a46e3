use Rattle.std.proofs.Common.{refl}
use Rattle.qm_term.specs.TermBlocks.{scored_looked}
use Rattle.qm_term.specs.TermScorer.{scored_blocks}
use Rattle.qm_term.proofs.term_scorer.TermScorer.new.Goals as goal

pub returns-clause-lists : goal.returns-clause-lists
returns-clause-lists g c = record {
  entries = refl;
  limits = refl;
  valid = record { postings = c.requires.postings; covered = c.requires.covered; bounded = c.requires.bounded };
  placed = tt;
}

pub returns-clause-blocks : goal.returns-clause-blocks
unfolding scored_blocks
returns-clause-blocks g c = refl

pub returns-clause-looked : goal.returns-clause-looked
unfolding scored_looked
returns-clause-looked g c = refl
