-- One document fewer is left; none where the cursor was at its end.
use Rattle.std.proofs.Common.{◌+◌, drop, arith, ap, sym, ◌∙◌}
use Rattle.qm_postings.proofs.BlockLemmas.{looks_at_none, moved_looking, moved_valid}
use Rattle.qm_postings.specs.TermArrays.{stored}
use Rattle.qm_docset.proofs.PlacesLeft.{left_on, none_left}
use Rattle.qm_postings.proofs.PostingsLeft.{named}
use Rattle.qm_postings.proofs.segment_postings.SegmentPostingsDocSet.advance.Goals as goal
use Rattle.qm_postings.proofs.segment_postings.SegmentPostingsDocSet.advance.Goals.{then-self, else-self}

pub returns-clause-entries : goal.returns-clause-entries
returns-clause-entries c =
    let s = c.args.self.now in
    let es = stored s.reading s.arrays in
    elim c.if-self.branch [
      | then-self w ↦ rw w.self-is (left_on 1 s.cursor es)
      | else-self w ↦ let end = none_left s.cursor es s.arrays.documents.now (named s) (omega arith) in rw w.self-is (end ∙ sym (ap (drop 1) end))
    ]

pub returns-clause-looked : goal.returns-clause-looked
returns-clause-looked c =
    let s = c.args.self.now in
    elim c.if-self.branch [
      | then-self w ↦ rw w.self-is (moved_looking s c.requires.valid (s.cursor + 1) (omega arith) (omega (arith, w.if-self.true)) (λ inside. omega arith))
      | else-self w ↦ rw w.self-is (looks_at_none s c.requires.valid (omega (arith, w.if-self.false)))
    ]

pub returns-clause-valid : goal.returns-clause-valid
returns-clause-valid c =
    let s = c.args.self.now in
    elim c.if-self.branch [
      | then-self w ↦ rw w.self-is (moved_valid s c.requires.valid (s.cursor + 1) (omega arith) (omega (arith, w.if-self.true)) (λ inside. omega arith))
      | else-self w ↦ rw w.self-is c.requires.valid
    ]
