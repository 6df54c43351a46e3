-- Each member stands on the set's document or past it.
use Rattle.std.proofs.Common.{◌≡◌, ◌≤◌, length, ap, sym, ◌∙◌, arith}
use Rattle.qm_combine.proofs.EachMember.{All-same_lists}
use Rattle.qm_combine.proofs.Leading.{whole}
use Rattle.qm_docset.specs.BitSetDocSet.{remaining_members}
use Rattle.qm_docset.specs.Entry.{head_document}
use Rattle.qm_docset.specs.Lists.{lists}
use Rattle.qm_postings.specs.Positions.{shifted}
use Rattle.qm_phrase.specs.PostingUnions.{entries_at, united_positions}
use Rattle.qm_phrase.specs.PostingUnionFacts.{ArePositions-united_positions}
use Rattle.qm_phrase.proofs.SortedNumbers.{alone}
use Rattle.qm_phrase.proofs.UnitedOver.{head_document-over, head_positions-over}
use Rattle.std.proofs.lemmas.Grind.{common_steps}
use Rattle.qm_phrase.proofs.union.bitset_union.BitSetPostingUnionPostings.append_positions_with_offset.Goals as goal

pub returns-clause-alone : goal.returns-clause-alone
returns-clause-alone g c = λ none.
    let s = c.args.self.now in
    let ess = lists g.D.DocSet s.members.items in
    let set = remaining_members s.bitset in
    let here = head_positions-over set ess (omega (arith, c.requires.here, head_document-over set ess)) in
    let positions = ap (λ d. united_positions (entries_at d (lists g.D.DocSet c.deref_mut.result.now))) c.doc-doc.ensures
    ∙ ap (λ xs. united_positions (entries_at (head_document set) (lists g.D.DocSet xs))) c.deref_mut.ensures.value in
    alone c.args.offset c.args.output.now.items c.append_positions.new.output.items _ none (ArePositions-united_positions _)
    c.append_positions.ensures.added c.append_positions.ensures.ascending ∙ ap (shifted c.args.offset) (positions ∙ sym here)

pub returns-clause-valid : goal.returns-clause-valid
returns-clause-valid g c =
    let s = c.args.self.now in
    let new = c.append_positions.new.members in
    let same = whole s.members.len new s.members.items (c.append_positions.auto.members ∙ ap length c.deref_mut.ensures.value) s.members.ok.0 in
    let kept : lists g.D.DocSet new ≡ lists g.D.DocSet s.members.items = c.append_positions.ensures.entries ∙ ap (lists g.D.DocSet) c.deref_mut.ensures.value in
    record {
      set = c.requires.valid.set;
      on_member = c.requires.valid.on_member;
      members = rw same c.append_positions.ensures.members;
      aligned = rw same (All-same_lists g.D.DocSet.entries
          (λ es. head_document (remaining_members s.bitset) ≤ head_document es) s.members.items new kept c.requires.valid.aligned);
    }

pub append_positions-requires-clause-members : goal.append_positions-requires-clause-members
append_positions-requires-clause-members g c = grind (arith, common_steps)

pub append_positions-requires-clause-doc : goal.append_positions-requires-clause-doc
append_positions-requires-clause-doc g c = grind (arith, common_steps)

pub append_positions-requires-clause-reached : goal.append_positions-requires-clause-reached
append_positions-requires-clause-reached g c = grind (arith, common_steps)

pub append_positions-requires-clause-room : goal.append_positions-requires-clause-room
append_positions-requires-clause-room g c = grind (arith, common_steps)

pub returns-clause-members : goal.returns-clause-members
returns-clause-members g c = grind (arith, common_steps)

pub returns-clause-longer : goal.returns-clause-longer
returns-clause-longer g c = grind (arith, common_steps)

pub returns-clause-entries : goal.returns-clause-entries
returns-clause-entries g c = grind (arith, common_steps)

pub returns-clause-limits : goal.returns-clause-limits
returns-clause-limits g c = grind (arith, common_steps)
