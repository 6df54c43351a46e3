use Rattle.std.proofs.Common.{◌∙◌, ap, inr, subst, sym}
use Rattle.qm_combine.specs.Rescored.{limited}
use Rattle.qm_postings.specs.Blocks.{HaveLeastIds}
use Rattle.qm_postings.specs.FieldIndex.{term_limits}
use Rattle.qm_postings.specs.FieldNorms.{norm_ids}
use Rattle.qm_postings.specs.Segment.{postings_of}
use Rattle.qm_postings.specs.SegmentPostings.{postings_blocks, postings_left}
use Rattle.qm_term.specs.Bm25.{bm25_bound}
use Rattle.qm_term.specs.Bm25Weight.{weighing}
use Rattle.qm_term.specs.TermEntries.{length_ids}
use Rattle.qm_term.specs.TermBlocks.{scored_looked}
use Rattle.qm_term.specs.TermScorer.{AreCovered, scored_by, scored_postings}
use Rattle.qm_term.proofs.TermEntryLemmas.{AreCovered-postings, bounded_by_ids, scored_postings-term_entries}
use Rattle.qm_term.proofs.term_scorer.TermScorer.for_term.Goals as goal

pub returns-clause-lists : goal.returns-clause-lists
returns-clause-lists g c =
    let segment = c.args.segment.now.segment in
    let term = c.args.term.now in
    let weighs = weighing c.args.weight.now in
    let ids = norm_ids c.length_ids.result in
    let are = c.length_ids.ensures ∙ ap (length_ids segment) c.field-field.ensures in
    let postings = c.in_ok-postings.ensures.lists in
    let left = postings.entries ∙ ap (λ i. postings_of i.reader.segment c.args.option term) c.inverted_index.ensures in
    record {
      entries = ap (scored_postings weighs ids) left ∙ scored_postings-term_entries segment c.args.option term weighs ids are;
      limits = ap (limited (bm25_bound weighs)) (postings.limits ∙ ap (λ i. term_limits i.reader.segment term) c.inverted_index.ensures);
      valid = record {
        postings = postings.valid;
        covered = subst (AreCovered ids) (sym left) (AreCovered-postings segment c.args.option term ids are);
        bounded = inr (bounded_by_ids segment c.args.option term ids are _ left _ (subst (λ i. HaveLeastIds i.reader.segment term.field
            (postings_blocks c.in_ok-postings.postings) (postings_left c.in_ok-postings.postings)) c.inverted_index.ensures c.in_ok-postings.ensures.ids));
      };
      placed = tt;
    }

pub returns-clause-looked : goal.returns-clause-looked
unfolding scored_looked
returns-clause-looked g c =
    ap (scored_by c.args.weight.now c.length_ids.result) c.in_ok-postings.ensures.looked
