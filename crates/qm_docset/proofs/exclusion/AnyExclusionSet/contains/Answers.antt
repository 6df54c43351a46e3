-- The document is found exactly where it is among those that remain.
use Rattle.std.proofs.Common.{◌≡◌, ℕ, ◌<◌, ◌≤◌, IsTrue, arith, sym, ap, ◌∙◌}
use Rattle.qm_docset.specs.Entry.{head_document}
use Rattle.qm_docset.specs.Exclusion.{has_document}
use Rattle.qm_docset.proofs.ExclusionLemmas.{has_document-from, has_document-added, has_document-head, has_document-before}
use Rattle.qm_docset.proofs.exclusion.AnyExclusionSet.contains.Goals as goal
use Rattle.qm_docset.proofs.exclusion.AnyExclusionSet.contains.Goals.{After-seek_danger}
use Rattle.qm_docset.proofs.exclusion.AnyExclusionSet.contains.Given.{Over}

kept : (g : Over) (c : After-seek_danger g) (d : ℕ) → c.args.doc ≤ d →
    has_document (g.T.DocSet.entries c.seek_danger.new.self) d ≡ has_document (g.T.DocSet.entries c.args.self.now) d
kept g c d above =
    ap (λ es. has_document es d) c.seek_danger.ensures.entries ∙ has_document-from c.args.doc d (g.T.DocSet.entries c.args.self.now) above

none_added : (g : Over) (c : After-seek_danger g) (d : ℕ) → IsTrue (has_document (g.T.DocSet.entries c.seek_danger.new.self) d) →
    IsTrue (has_document (g.T.DocSet.entries c.args.self.now) d)
none_added g c d member =
    has_document-added c.args.doc d (g.T.DocSet.entries c.args.self.now) (rw c.seek_danger.ensures.entries at member)

pub returns-in-Found-clause-member : goal.returns-in-Found-clause-member
returns-in-Found-clause-member g c =
    let left = g.T.DocSet.entries c.seek_danger.new.self in
    let found = has_document-head c.args.doc left c.in-Found.ensures.answer.here c.requires.doc in
    sym found ∙ kept g (goal.at.returns-in-Found-clause-member g c).After-seek_danger c.args.doc (omega arith)

pub returns-in_default-clause-member : goal.returns-in_default-clause-member
returns-in_default-clause-member g c =
    let left = g.T.DocSet.entries c.seek_danger.new.self in
    let ascends = g.met.T.DocSet.ascending c.seek_danger.new.self c.in_default.ensures.valid in
    let before : c.args.doc < head_document left = omega (arith, c.in_default.ensures.answer.before_all, c.in_default.ensures.answer.past c.requires.doc) in
    sym (has_document-before 0 c.args.doc (g.T.DocSet.limits c.seek_danger.new.self) left ascends before)
    ∙ kept g (goal.at.returns-in_default-clause-member g c).After-seek_danger c.args.doc (omega arith)

pub returns-in-Found-clause-kept : goal.returns-in-Found-clause-kept
returns-in-Found-clause-kept g c = kept g (goal.at.returns-in-Found-clause-kept g c).After-seek_danger

pub returns-in_default-clause-kept : goal.returns-in_default-clause-kept
returns-in_default-clause-kept g c = kept g (goal.at.returns-in_default-clause-kept g c).After-seek_danger

pub returns-in-Found-clause-none_added : goal.returns-in-Found-clause-none_added
returns-in-Found-clause-none_added g c = none_added g (goal.at.returns-in-Found-clause-none_added g c).After-seek_danger

pub returns-in_default-clause-none_added : goal.returns-in_default-clause-none_added
returns-in_default-clause-none_added g c = none_added g (goal.at.returns-in_default-clause-none_added g c).After-seek_danger
