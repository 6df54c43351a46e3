-- Fewer members than are needed have no document together, and at their ends they have none either.
use Rattle.std.proofs.Common.{length, arith, ap, sym, ◌∙◌}
use Rattle.std.proofs.lemmas.List.{length-map}
use Rattle.qm_docset.specs.Gather.{IsBare, gather}
use Rattle.qm_docset.specs.GatherFacts.{AreMembers-map, length-scores_at}
use Rattle.qm_docset.specs.Lists.{lists}
use Rattle.qm_docset.specs.declared.numbers.TheConstants.{TERMINATED}
use Rattle.qm_docset.proofs.Gathering.{gather-none}
use Rattle.qm_combine.proofs.Leading.{whole}
use Rattle.qm_combine.proofs.Standing.{least_head-reached}
use Rattle.qm_combine.proofs.Uniting.{scores_at-ahead}
use Rattle.qm_combine.proofs.union.buffered_union.ended_if_few.Goals as goal

pub returns-then-len-minimum-clause-entries : goal.returns-then-len-minimum-clause-entries
returns-then-len-minimum-clause-entries g c = λ combined.
    let row = c.args.members in
    let old = row.items in
    let new = c.seek_below.new.members in
    let e = c.seek_below.ensures in
    let law = g.met.S.DocSet.ascending in
    let same = whole row.len new old (c.seek_below.auto.members ∙ ap length c.deref_mut.ensures.value) row.ok.0 in
    let before = AreMembers-map g.S.DocSet.limits g.S.DocSet.entries old (λ k d inside. law _ (c.requires.placed.valid k d inside)) in
    let after = AreMembers-map g.S.DocSet.limits g.S.DocSet.entries new (λ k d inside. law _ (e.valid k d inside)) in
    let ended = least_head-reached g.S.DocSet.placed g.S.DocSet.entries TERMINATED new (omega arith) e.reached in
    let few : IsBare c.args.minimum TERMINATED (lists g.S.DocSet old) = λ d below.
    omega (arith, length-scores_at d _ _ before, length-map old g.S.DocSet.entries, c.if-len-minimum.true, c.len.ensures, row.ok.0) in
    let none : IsBare c.args.minimum TERMINATED (lists g.S.DocSet new) = λ d below.
    omega (arith, ap length (scores_at-ahead d _ _ after (omega (arith, below, ended))), c.requires.some) in
    ap (λ xs. gather c.args.minimum combined (lists g.S.DocSet xs)) same
    ∙ gather-none c.args.minimum combined (lists g.S.DocSet new) none ∙ sym (gather-none c.args.minimum combined (lists g.S.DocSet old) few)
