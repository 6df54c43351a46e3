-- Each document is one of the segment.
use Rattle.std.proofs.Common.{◌<◌, All, length, ap, subst, sym, ◌∙◌}
use Rattle.qm_postings.specs.Segment.{postings_of}
use Rattle.qm_schema.specs.declared.schema.option.IndexRecordOption.TheVariants.{WithFreqsAndPositions}
use Rattle.cases_postings.proofs.MoreTerms.{postings-below}
use Rattle.cases_postings.proofs.segment_phrases.postings_of.Goals as goal

pub returns-in-Some-clause-documents : goal.returns-in-Some-clause-documents
returns-in-Some-clause-documents c =
    let segment = c.args.segment.now.segment in
    let term = c.args.term.now in
    let left = c.in-Some.ensures.lists.entries ∙ ap (λ i. postings_of i.reader.segment WithFreqsAndPositions term) c.inverted_index-index.ensures in
    subst (All (λ e. e.document < length segment.documents)) (sym left) (postings-below segment WithFreqsAndPositions term)
