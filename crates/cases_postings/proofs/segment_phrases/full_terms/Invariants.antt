use Rattle.std.proofs.Common.{◌≡◌, ◌<◌, ◌≤◌, All, length, vec_len}
use Rattle.qm_postings.specs.SegmentPostings.{IsPostings, postings_left}
use Rattle.cases_postings.proofs.segment_phrases.full_terms.Given as goal

abbrev pub invariant-loop-spelled : goal.invariant-loop-spelled
invariant-loop-spelled l = record {
  len : vec_len l.row ≡ l.spelled-index;
  valid : All (λ pair. IsPostings pair.1) l.row.items;
  offsets : All (λ pair. pair.0 ≤ 4294967295) l.row.items;
  documents : All (λ pair. All (λ e. e.document < length l.segment.segment.documents) (postings_left pair.1)) l.row.items;
}
