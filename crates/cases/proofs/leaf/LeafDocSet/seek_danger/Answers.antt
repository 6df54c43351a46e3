-- The documents that are left are at or past a target, and past one that isn't the first of them.
use Rattle.std.proofs.Common.{◌+◌, arith}
use Rattle.qm_docset.specs.DocumentsFacts.{AreEntries-documents}
use Rattle.qm_docset.specs.EntryFacts.{AreEntries-from, head_document-bounds}
use Rattle.qm_docset.specs.VecDocSet.{remaining_documents}
use Rattle.qm_docset.specs.declared.docset.SeekDangerResult.TheVariants.{SeekLowerBound}
use Rattle.qm_docset.specs.declared.numbers.TheConstants.{TERMINATED}
use Rattle.qm_combine.specs.RescoredFacts.{IsSeekAnswer-rescored}
use Rattle.cases.proofs.leaf.LeafDocSet.seek_danger.Goals as goal

pub returns-then-eq-clause-answer : goal.returns-then-eq-clause-answer
returns-then-eq-clause-answer c =
    let ascends = AreEntries-documents c.args.self.now.docs.cursor c.args.self.now.docs.docs.items c.requires.valid.documents in
    let bounds = head_document-bounds c.args.target _ _ c.requires.target (AreEntries-from c.args.target 0 _ _ ascends) in
    let past = rw (← c.seek-doc.ensures.left.entries) at bounds in
    IsSeekAnswer-rescored _ c.args.target (remaining_documents c.seek-doc.new.self) (SeekLowerBound c.seek-doc.result)
    (record { before_all = omega arith; past = λ below. omega arith; at_end = λ ended. omega arith })

pub returns-then-target-eq-TERMINATED-clause-answer :
    goal.returns-then-target-eq-TERMINATED-clause-answer
returns-then-target-eq-TERMINATED-clause-answer c =
    let ascends = AreEntries-documents c.args.self.now.docs.cursor c.args.self.now.docs.docs.items c.requires.valid.documents in
    let bounds = head_document-bounds c.args.target _ _ c.requires.target (AreEntries-from c.args.target 0 _ _ ascends) in
    let past = rw (← c.seek-doc.ensures.left.entries) at bounds in
    IsSeekAnswer-rescored _ c.args.target (remaining_documents c.seek-doc.new.self) (SeekLowerBound TERMINATED)
    (record { before_all = omega arith; past = λ below. omega arith; at_end = λ ended. omega arith })

pub returns-clause-answer : goal.returns-clause-answer
returns-clause-answer c =
    let ascends = AreEntries-documents c.args.self.now.docs.cursor c.args.self.now.docs.docs.items c.requires.valid.documents in
    let bounds = head_document-bounds c.args.target _ _ c.requires.target (AreEntries-from c.args.target 0 _ _ ascends) in
    let past = rw (← c.seek-doc.ensures.left.entries) at bounds in
    IsSeekAnswer-rescored _ c.args.target (remaining_documents c.seek-doc.new.self) (SeekLowerBound (c.args.target + 1))
    (record { before_all = omega arith; past = λ below. omega arith; at_end = λ ended. omega arith })
