use Rattle.std.proofs.Common.{◌∙◌, ap, subst, sym, refl}
use Rattle.qm_combine.specs.Rescored.{limited}
use Rattle.qm_combine.specs.RescoredFacts.{from-rescored, head_document-rescored}
use Rattle.qm_postings.specs.FieldNorms.{norm_ids}
use Rattle.qm_term.specs.Bm25.{bm25_bound}
use Rattle.qm_term.specs.Bm25Weight.{weighing}
use Rattle.qm_term.specs.TermBlocks.{scored_looked}
use Rattle.qm_term.specs.TermScorer.{AreCovered, scored_postings, scored_by}
use Rattle.qm_term.specs.TermScorerFacts.{AreCovered-from, IsBoundedBy-from, bounded_after, ReadsAs-self, keeps_scoring}
use Rattle.qm_term.proofs.term_scorer.TermScorerDocSet.seek.Goals as goal

pub returns-clause-head : goal.returns-clause-head
returns-clause-head g c = c.seek.ensures.head ∙ sym (head_document-rescored _ _)

pub returns-clause-entries : goal.returns-clause-entries
returns-clause-entries g c =
    ap (scored_postings (weighing c.args.self.now.similarity_weight) (norm_ids c.args.self.now.fieldnorm_reader)) c.seek.ensures.entries
    ∙ sym (from-rescored _ _ _)

pub returns-clause-limits : goal.returns-clause-limits
returns-clause-limits g c = ap (limited (bm25_bound (weighing c.args.self.now.similarity_weight))) c.seek.ensures.limits

pub returns-clause-valid : goal.returns-clause-valid
returns-clause-valid g c = record {
  postings = c.seek.ensures.valid;
  covered = subst (AreCovered (norm_ids c.args.self.now.fieldnorm_reader)) (sym c.seek.ensures.entries) (AreCovered-from _ _ _ c.requires.valid.covered);
  bounded = bounded_after c.args.self.now.fieldnorm_reader _ _ _ _ (c.seek.ensures.kept c.args.self.now.postings (ReadsAs-self c.args.self.now.postings)).blocks
      c.seek.ensures.entries (IsBoundedBy-from c.args.self.now.fieldnorm_reader _ _ _ c.requires.valid.bounded);
}

pub returns-clause-kept : goal.returns-clause-kept
returns-clause-kept g c = λ s. keeps_scoring s c.args.self.now _ refl refl c.seek.ensures.kept

pub returns-clause-looked : goal.returns-clause-looked
unfolding scored_looked
returns-clause-looked g c =
    let s = c.args.self.now in
    ap (scored_by s.similarity_weight s.fieldnorm_reader) c.seek.ensures.looked
