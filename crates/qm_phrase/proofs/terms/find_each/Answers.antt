-- One more member has found its positions.
use Rattle.std.proofs.Common.{◌<◌, length, ap, arith, ◌∙◌}
use Rattle.std.proofs.lemmas.List.Elements.{All-set}
use Rattle.qm_combine.proofs.EachMember.{map-set_same}
use Rattle.qm_docset.specs.Entry.{head_document}
use Rattle.qm_docset.specs.declared.numbers.TheConstants.{TERMINATED}
use Rattle.qm_phrase.proofs.terms.find_each.Goals as goal

pub loop-member-preserved : goal.loop-member-preserved
loop-member-preserved g c =
    let i = c.loop-member.member-index in
    let members = c.loop-member.members in
    let member = c.find_positions.new.self in
    let was = c.member-item.result in
    let below : i < length members = omega arith in
    let Here : g.row.P.Denot → Type 0 = λ m. g.P.DocSet.placed m × (head_document (g.P.DocSet.entries m) < TERMINATED) in
    let still : head_document (g.P.DocSet.entries member) < TERMINATED =
    omega (arith, ap head_document c.find_positions.ensures.entries, (c.loop-member.invariant.here i was below).1) in
    record {
      entries = map-set_same g.P.DocSet.entries members i member was below c.find_positions.ensures.entries ∙ c.loop-member.invariant.entries;
      limits = map-set_same g.P.DocSet.limits members i member was below c.find_positions.ensures.limits ∙ c.loop-member.invariant.limits;
      valid = All-set g.P.DocSet.valid members i member c.find_positions.ensures.valid c.loop-member.invariant.valid;
      here = All-set Here members i member (c.find_positions.ensures.placed, still) c.loop-member.invariant.here;
    }
