-- The tactic that closes this goal, without the search that is tried before it.
use Rattle.std.proofs.Common.{arith, refl, subst, sym}
use Rattle.qm_postings.specs.FieldNorms.{norm_ids}
use Rattle.qm_term.specs.TermScorer.{AreCovered, IsBoundedBy}
use Rattle.qm_term.specs.TermScorerFacts.{AreCovered-nil, IsBoundedBy-nil, keeps_scoring, scoring}
use Rattle.qm_term.proofs.term_scorer.TermScorerDocSet.count.Goals as goal

pub returns-clause-count : goal.returns-clause-count
returns-clause-count g c = grind (arith, scoring)

pub returns-clause-entries : goal.returns-clause-entries
returns-clause-entries g c = grind (arith, scoring)

pub returns-clause-limits : goal.returns-clause-limits
returns-clause-limits g c = grind (arith, scoring)

pub returns-clause-valid : goal.returns-clause-valid
returns-clause-valid g c = record {
  postings = c.count.ensures.valid;
  covered = subst (AreCovered (norm_ids c.args.self.now.fieldnorm_reader)) (sym c.count.ensures.entries) (AreCovered-nil _);
  bounded = subst (IsBoundedBy c.args.self.now.fieldnorm_reader _) (sym c.count.ensures.entries) (IsBoundedBy-nil c.args.self.now.fieldnorm_reader _);
}

pub returns-clause-kept : goal.returns-clause-kept
returns-clause-kept g c = λ s. keeps_scoring s c.args.self.now _ refl refl c.count.ensures.kept
