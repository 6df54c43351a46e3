-- Each member stands on the document or past it.
use Rattle.std.proofs.Common.{◌<◌, arith, ap, sym, ◌∙◌}
use Rattle.qm_combine.specs.Union.{least_head}
use Rattle.qm_combine.proofs.Uniting.{least_head-le}
use Rattle.qm_docset.specs.Lists.{lists}
use Rattle.qm_docset.specs.declared.numbers.TheConstants.{TERMINATED}
use Rattle.qm_phrase.specs.PostingUnions.{entries_at, united_frequency}
use Rattle.qm_phrase.proofs.UnitedLists.{head_document-united, union-frequency}
use Rattle.qm_phrase.proofs.union.simple_union.SimpleUnionPostings.term_freq.Goals as goal

pub frequency_at-requires-clause-doc : goal.frequency_at-requires-clause-doc
frequency_at-requires-clause-doc g c =
    let h = c.requires.valid in
    omega (
      arith,
      c.requires.here,
      h.first,
      head_document-united g.D.DocSet.valid g.D.DocSet.limits g.D.DocSet.entries g.met.D.DocSet.ascending c.args.self.now.members.items h.members.valid,
    )

pub frequency_at-requires-clause-reached : goal.frequency_at-requires-clause-reached
frequency_at-requires-clause-reached g c = λ k d below.
    omega (
      arith,
      least_head-le g.D.DocSet.entries c.deref.result.now k d below,
      c.requires.valid.first,
      ap (λ xs. least_head (lists g.D.DocSet xs)) c.deref.ensures.value,
    )

pub returns : goal.returns
returns g c =
    let s = c.args.self.now in
    let h = c.requires.valid in
    let below : s.doc < TERMINATED = omega (
      arith,
      c.requires.here,
      h.first,
      head_document-united g.D.DocSet.valid g.D.DocSet.limits g.D.DocSet.entries g.met.D.DocSet.ascending s.members.items h.members.valid,
    ) in
    c.frequency_at.ensures ∙ ap (λ xs. united_frequency (entries_at s.doc (lists g.D.DocSet xs))) c.deref.ensures.value ∙ sym
    (union-frequency g.D.DocSet.valid g.D.DocSet.limits g.D.DocSet.entries g.met.D.DocSet.ascending s.doc s.members.items h.members.valid h.first below)
