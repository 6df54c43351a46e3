use Rattle.std.proofs.Common.{arith, refl}
use Rattle.qm_docset.proofs.Plain.{left_from}
use Rattle.qm_docset.proofs.vec_docset.VecDocSetDocSet.seek.Goals as goal

pub returns-clause-left : goal.returns-clause-left
returns-clause-left c =
    let same = c.deref.ensures.value in
    let within = rw same at c.gallop-self.ensures.within in
    let passed = rw same at c.gallop-self.ensures.passed in
    let reached = rw same at c.gallop-self.ensures.reached in
    let left = left_from c.args.target c.args.self.now.cursor c.gallop-self.result c.args.self.now.docs.items
    c.requires.valid.documents c.gallop-self.ensures.from_start within passed reached in
    record { entries = left; valid = record { within = omega arith; documents = c.requires.valid.documents }; len = refl }
