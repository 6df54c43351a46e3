use Rattle.std.proofs.Common.{subst, sym, ap, refl}
use Rattle.qm_postings.specs.FieldNorms.{norm_ids}
use Rattle.qm_term.specs.TermBlocks.{scored_looked}
use Rattle.qm_term.specs.TermScorer.{AreCovered, scored_by}
use Rattle.qm_term.specs.TermScorerFacts.{AreCovered-drop, IsBoundedBy-drop, bounded_after, ReadsAs-self, keeps_scoring}
use Rattle.qm_term.proofs.term_scorer.TermScorerDocSet.fill_buffer.Goals as goal

pub returns-clause-valid : goal.returns-clause-valid
returns-clause-valid g c = record {
  postings = c.fill_buffer.ensures.valid;
  covered =
      subst (AreCovered (norm_ids c.args.self.now.fieldnorm_reader)) (sym c.fill_buffer.ensures.entries) (AreCovered-drop _ 64 _ c.requires.valid.covered);
  bounded = bounded_after c.args.self.now.fieldnorm_reader _ _ _ _ (c.fill_buffer.ensures.kept c.args.self.now.postings (ReadsAs-self
      c.args.self.now.postings)).blocks c.fill_buffer.ensures.entries (IsBoundedBy-drop c.args.self.now.fieldnorm_reader _ 64 _ c.requires.valid.bounded);
}

pub returns-clause-kept : goal.returns-clause-kept
returns-clause-kept g c = λ s. keeps_scoring s c.args.self.now _ refl refl c.fill_buffer.ensures.kept

pub returns-clause-looked : goal.returns-clause-looked
unfolding scored_looked
returns-clause-looked g c =
    let s = c.args.self.now in
    ap (scored_by s.similarity_weight s.fieldnorm_reader) c.fill_buffer.ensures.looked
