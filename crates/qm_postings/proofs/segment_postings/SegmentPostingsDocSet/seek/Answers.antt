-- Past the end nothing is left; elsewhere what is left from the target on is the same in the block that has it.
use Rattle.std.proofs.Common.{◌∙◌, ap, sym, arith}
use Rattle.qm_docset.specs.Entry.{from}
use Rattle.qm_docset.proofs.PlacesLeft.{none_left}
use Rattle.qm_postings.specs.TermArrays.{stored}
use Rattle.qm_postings.proofs.BlockLemmas.{head_end, looks_at_none}
use Rattle.qm_postings.proofs.PostingsLeft.{named}
use Rattle.qm_postings.proofs.segment_postings.SegmentPostingsDocSet.seek.Goals as goal

pub returns-then-self-2-clause-head : goal.returns-then-self-2-clause-head
returns-then-self-2-clause-head c = sym (head_end c.args.self.now c.requires.valid (omega arith))

pub returns-then-self-2-clause-entries : goal.returns-then-self-2-clause-entries
unfolding from
returns-then-self-2-clause-entries c =
    let s = c.args.self.now in
    let none = none_left s.cursor (stored s.reading s.arrays) s.arrays.documents.now (named s) (omega arith) in
    none ∙ sym (ap (from c.args.target) none)

pub returns-then-self-2-clause-looked : goal.returns-then-self-2-clause-looked
returns-then-self-2-clause-looked c = looks_at_none c.args.self.now c.requires.valid (omega arith)
