-- Each member stands on the document or past it.
use Rattle.std.proofs.Common.{ℕ, ◌+◌, ◌<◌, ◌≤◌, ◌||◌, List, All, arith, ap, subst, sym, ◌∙◌}
use Rattle.qm_combine.specs.Union.{least_head}
use Rattle.qm_combine.proofs.Uniting.{least_head-le}
use Rattle.qm_docset.specs.Lists.{lists}
use Rattle.qm_docset.specs.declared.numbers.TheConstants.{TERMINATED}
use Rattle.qm_postings.specs.Positions.{is_in, shifted}
use Rattle.qm_phrase.specs.PostingUnions.{entries_at, united_positions}
use Rattle.qm_phrase.specs.PostingUnionFacts.{ArePositions-united_positions}
use Rattle.qm_phrase.proofs.SortedNumbers.{alone}
use Rattle.qm_phrase.proofs.UnitedLists.{head_document-united, union-positions}
use Rattle.std.proofs.lemmas.Grind.{common_steps}
use Rattle.qm_phrase.proofs.union.simple_union.SimpleUnionPostings.append_positions_with_offset.Goals as goal

pub append_positions-requires-clause-doc : goal.append_positions-requires-clause-doc
append_positions-requires-clause-doc g c =
    let h = c.requires.valid in
    omega (
      arith,
      c.requires.here,
      h.first,
      head_document-united g.D.DocSet.valid g.D.DocSet.limits g.D.DocSet.entries g.met.D.DocSet.ascending c.args.self.now.members.items h.members.valid,
    )

pub append_positions-requires-clause-reached : goal.append_positions-requires-clause-reached
append_positions-requires-clause-reached g c = λ k d below.
    omega (
      arith,
      least_head-le g.D.DocSet.entries c.deref_mut.result.now k d below,
      c.requires.valid.first,
      ap (λ xs. least_head (lists g.D.DocSet xs)) c.deref_mut.ensures.value,
    )

pub append_positions-requires-clause-sums : goal.append_positions-requires-clause-sums
append_positions-requires-clause-sums g c =
    let s = c.args.self.now in
    let h = c.requires.valid in
    let below : s.doc < TERMINATED = omega (
      arith,
      c.requires.here,
      h.first,
      head_document-united g.D.DocSet.valid g.D.DocSet.limits g.D.DocSet.entries g.met.D.DocSet.ascending s.members.items h.members.valid,
    ) in
    let shown = union-positions g.D.DocSet.valid g.D.DocSet.limits g.D.DocSet.entries g.met.D.DocSet.ascending s.doc s.members.items
    h.members.valid h.first below ∙ ap (λ xs. united_positions (entries_at s.doc (lists g.D.DocSet xs))) (sym c.deref_mut.ensures.value) in
    let Fits : List ℕ → Type 0 = λ ps. All (λ p. p + c.args.offset ≤ 4294967295) ps in
    subst Fits shown c.requires.sums

pub returns-clause-members : goal.returns-clause-members
returns-clause-members g c = λ x.
    let s = c.args.self.now in
    let h = c.requires.valid in
    let below : s.doc < TERMINATED = omega (
      arith,
      c.requires.here,
      h.first,
      head_document-united g.D.DocSet.valid g.D.DocSet.limits g.D.DocSet.entries g.met.D.DocSet.ascending s.members.items h.members.valid,
    ) in
    let shown = union-positions g.D.DocSet.valid g.D.DocSet.limits g.D.DocSet.entries g.met.D.DocSet.ascending s.doc s.members.items
    h.members.valid h.first below ∙ ap (λ xs. united_positions (entries_at s.doc (lists g.D.DocSet xs))) (sym c.deref_mut.ensures.value) in
    c.append_positions.ensures.added x ∙ ap (λ ps. is_in x c.args.output.now.items || is_in x (shifted c.args.offset ps)) (sym shown)

pub returns-clause-alone : goal.returns-clause-alone
returns-clause-alone g c = λ none.
    let s = c.args.self.now in
    let h = c.requires.valid in
    let below : s.doc < TERMINATED = omega (
      arith,
      c.requires.here,
      h.first,
      head_document-united g.D.DocSet.valid g.D.DocSet.limits g.D.DocSet.entries g.met.D.DocSet.ascending s.members.items h.members.valid,
    ) in
    let shown = union-positions g.D.DocSet.valid g.D.DocSet.limits g.D.DocSet.entries g.met.D.DocSet.ascending s.doc s.members.items
    h.members.valid h.first below ∙ ap (λ xs. united_positions (entries_at s.doc (lists g.D.DocSet xs))) (sym c.deref_mut.ensures.value) in
    alone c.args.offset c.args.output.now.items c.append_positions.new.output.items _ none
    (ArePositions-united_positions _) c.append_positions.ensures.added c.append_positions.ensures.ascending ∙ ap (shifted c.args.offset) (sym shown)

pub append_positions-requires-clause-members : goal.append_positions-requires-clause-members
append_positions-requires-clause-members g c = grind (arith, common_steps)

pub append_positions-requires-clause-room : goal.append_positions-requires-clause-room
append_positions-requires-clause-room g c = grind (arith, common_steps)

pub returns-clause-longer : goal.returns-clause-longer
returns-clause-longer g c = grind (arith, common_steps)

pub returns-clause-entries : goal.returns-clause-entries
returns-clause-entries g c = grind (arith, common_steps)

pub returns-clause-limits : goal.returns-clause-limits
returns-clause-limits g c = grind (arith, common_steps)
