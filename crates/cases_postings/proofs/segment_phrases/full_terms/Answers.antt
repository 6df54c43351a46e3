-- One more word's postings.
use Rattle.std.proofs.Common.{◌<◌, ◌≤◌, All, length, arith}
use Rattle.qm_postings.specs.SegmentPostings.{IsPostings, postings_left}
use Rattle.cases_postings.proofs.MoreTerms.{All-one_more}
use Rattle.cases_postings.proofs.segment_phrases.full_terms.Goals as goal

pub loop-spelled-preserved : goal.loop-spelled-preserved
loop-spelled-preserved c = record {
  len = omega (arith, c.in_ok-push.ensures.len, c.loop-spelled.invariant.len);
  valid = All-one_more (λ p. IsPostings p.1) c.loop-spelled.row.items c.push.new.self.items
      (c.len.result, c.in_ok-postings_of.field-0) c.in_ok-push.ensures.items c.loop-spelled.invariant.valid c.in_ok-postings_of.ensures.valid;
  offsets = All-one_more (λ p. p.0 ≤ 4294967295) c.loop-spelled.row.items c.push.new.self.items (c.len.result, c.in_ok-postings_of.field-0)
      c.in_ok-push.ensures.items c.loop-spelled.invariant.offsets (omega (arith, c.len.ensures, c.loop-spelled.invariant.len));
  documents =
      All-one_more (λ p. All (λ e. e.document < length c.args.segment.now.segment.documents) (postings_left p.1)) c.loop-spelled.row.items c.push.new.self.items
      (c.len.result, c.in_ok-postings_of.field-0) c.in_ok-push.ensures.items c.loop-spelled.invariant.documents c.in_ok-postings_of.ensures.documents;
}
