-- A member that stands on the document adds its frequency.
use Rattle.std.proofs.Common.{◌<◌, ◌≤◌, length, ap, sym, subst, ◌∙◌, arith}
use Rattle.std.proofs.lemmas.List.Elements.{All-get_or}
use Rattle.qm_docset.specs.Entry.{head_document, head_frequency}
use Rattle.qm_phrase.specs.PostingUnions.{united_frequency}
use Rattle.qm_phrase.specs.PostingUnionFacts.{entries_at-nil}
use Rattle.qm_phrase.proofs.UnitedMembers.{entries_at-more_ahead, frequency-more}
use Rattle.qm_phrase.proofs.union.members.frequency_at.Goals as goal
use Rattle.qm_phrase.proofs.union.members.frequency_at.Goals.{then-doc, else-doc}

pub loop-postings-init : goal.loop-postings-init
loop-postings-init g c = sym (ap united_frequency (entries_at-nil c.args.doc))

pub loop-postings-preserved : goal.loop-postings-preserved
loop-postings-preserved g c =
    let members = c.args.members.now in
    let i = c.loop-postings.postings-index in
    let x = c.postings-item.result in
    let within : i < length members = omega arith in
    let a = g.met.P.DocSet.ascending x
    (subst g.P.DocSet.valid (sym c.postings-item.is) (All-get_or g.P.DocSet.valid members i x within c.requires.members.valid)) in
    let Reached : g.row.P.Denot → Type 0 = λ m. c.args.doc ≤ head_document (g.P.DocSet.entries m) in
    let reached : Reached x = subst Reached (sym c.postings-item.is) (All-get_or Reached members i x within c.requires.reached) in
    elim c.if-doc.branch [
      | then-doc w ↦
          let more = frequency-more g.P.DocSet.entries (g.P.DocSet.limits x) members i c.args.doc x a c.postings-item.is within
          (omega (arith, c.doc.ensures, w.if-doc.true)) c.requires.doc in
          omega (
            arith,
            more,
            w.frequency-is,
            w.saturating_add-frequency.ensures,
            w.term_freq.ensures,
            ap (λ m. head_frequency (g.P.DocSet.entries m)) c.postings-item.is,
            c.loop-postings.invariant,
          )
      | else-doc w ↦
          let same = entries_at-more_ahead g.P.DocSet.entries (g.P.DocSet.limits x) members i c.args.doc x a c.postings-item.is within
          (omega (arith, reached, c.doc.ensures, w.if-doc.false)) in
          w.frequency-is ∙ c.loop-postings.invariant ∙ sym (ap united_frequency same)
    ]
