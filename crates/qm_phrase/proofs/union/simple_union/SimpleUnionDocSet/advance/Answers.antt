-- Past the document that it stands on lie all others.
use Rattle.std.proofs.Common.{◌+◌, min, arith, ap, ◌∙◌}
use Rattle.qm_combine.proofs.Uniting.{next_or_end}
use Rattle.qm_docset.specs.Entry.{from}
use Rattle.qm_docset.specs.EntryFacts.{head_document-bounds}
use Rattle.qm_docset.specs.Lists.{lists}
use Rattle.qm_docset.specs.declared.numbers.TheConstants.{TERMINATED}
use Rattle.qm_phrase.specs.PostingUnions.{united_entries}
use Rattle.qm_phrase.specs.PostingUnionFacts.{AreEntries-united}
use Rattle.qm_phrase.proofs.UnitedLists.{head_document-united}
use Rattle.qm_phrase.proofs.union.simple_union.SimpleUnionDocSet.advance.Goals as goal

pub overflow_add-self : goal.overflow_add-self
overflow_add-self g c =
    let s = c.args.self.now in
    let h = c.requires.valid in
    let ascends =
    AreEntries-united g.D.DocSet.limits g.D.DocSet.entries s.members.items (λ k d below. g.met.D.DocSet.ascending _ (h.members.valid k d below)) in
    let first = h.first ∙ head_document-united g.D.DocSet.valid g.D.DocSet.limits g.D.DocSet.entries g.met.D.DocSet.ascending s.members.items h.members.valid in
    omega (arith, (head_document-bounds 0 _ _ (omega arith) ascends).1, first)

pub returns-clause-entries : goal.returns-clause-entries
returns-clause-entries g c =
    let s = c.args.self.now in
    let h = c.requires.valid in
    let ascends =
    AreEntries-united g.D.DocSet.limits g.D.DocSet.entries s.members.items (λ k d below. g.met.D.DocSet.ascending _ (h.members.valid k d below)) in
    let list = united_entries (lists g.D.DocSet s.members.items) in
    let first = h.first ∙ head_document-united g.D.DocSet.valid g.D.DocSet.limits g.D.DocSet.entries g.met.D.DocSet.ascending s.members.items h.members.valid in
    c.seek.ensures.entries ∙ ap (λ t. from t list) (c.min.ensures ∙ ap (λ d. min (d + 1) TERMINATED) first) ∙ next_or_end _ list ascends
