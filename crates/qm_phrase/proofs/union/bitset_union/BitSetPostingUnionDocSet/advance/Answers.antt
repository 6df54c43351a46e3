-- The set goes on, and the members below its document follow.
use Rattle.std.proofs.Common.{map, length, ap, ◌∙◌, arith}
use Rattle.qm_combine.proofs.Leading.{whole}
use Rattle.qm_docset.specs.BitSetDocSet.{remaining_members}
use Rattle.qm_docset.specs.BitSetDocSetFacts.{AreEntries-remaining}
use Rattle.qm_docset.specs.Entry.{from, no_limits}
use Rattle.qm_docset.specs.Lists.{lists}
use Rattle.qm_phrase.specs.PostingUnions.{united_over}
use Rattle.qm_phrase.proofs.UnitedOver.{drop-over, over-moved}
use Rattle.std.proofs.lemmas.Grind.{common_steps}
use Rattle.qm_phrase.proofs.union.bitset_union.BitSetPostingUnionDocSet.advance.Goals as goal

pub returns-clause-entries : goal.returns-clause-entries
returns-clause-entries g c =
    let members = c.args.self.now.members in
    let step = c.seek_below in
    let set = remaining_members c.advance-doc.new.self in
    let old = lists g.D.DocSet members.items in
    let same = whole members.len step.new.members members.items (step.auto.members ∙ ap length c.deref_mut.ensures.value) members.ok.0 in
    let left = step.ensures.entries ∙ ap (λ xs. map (from c.advance-doc.result) (lists g.D.DocSet xs)) c.deref_mut.ensures.value in
    let moved = over-moved no_limits set old (lists g.D.DocSet step.new.members)
    (AreEntries-remaining c.advance-doc.new.self c.advance-doc.ensures.valid) (rw c.advance-doc.ensures.head at left) in
    rw same (moved ∙ ap (λ r. united_over r old) c.advance-doc.ensures.entries ∙ drop-over (remaining_members c.args.self.now.bitset) old)

pub returns-clause-head : goal.returns-clause-head
returns-clause-head g c = grind (arith, common_steps)

pub returns-clause-limits : goal.returns-clause-limits
returns-clause-limits g c = grind (arith, common_steps)

pub returns-clause-valid : goal.returns-clause-valid
returns-clause-valid g c = grind (arith, common_steps)
