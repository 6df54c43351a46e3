-- One more term's postings.
use Rattle.std.proofs.Common.{[], All, subst, sym}
use Rattle.std.proofs.lemmas.List.Elements.{All-append, All-cons, All-nil}
use Rattle.qm_postings.specs.SegmentPostings.{IsPostings}
use Rattle.cases_postings.proofs.segment_phrases.suffixes.Goals as goal

pub loop-term-preserved : goal.loop-term-preserved
loop-term-preserved c =
    let more = All-cons IsPostings c.in_ok-postings_of.field-0 [] c.in_ok-postings_of.ensures.valid (All-nil IsPostings) in
    subst (All IsPostings) (sym c.in_ok-push.ensures.items) (All-append IsPostings _ _ c.loop-term.invariant more)
