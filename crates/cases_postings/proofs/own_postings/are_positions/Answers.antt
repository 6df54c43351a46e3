-- One more position, behind the last.
use Rattle.std.proofs.Common.{arith}
use Rattle.std.proofs.lemmas.List.{drop_all, drop_more}
use Rattle.cases_postings.proofs.own_postings.are_positions.Goals as goal

pub loop-position-preserved : goal.loop-position-preserved
loop-position-preserved c = λ rest.
    let ps = c.args.positions.now in
    let i = c.loop-position.position-index in
    let more = drop_more ps i 0 (omega arith) in
    c.loop-position.invariant (rw more (omega arith, omega arith, rest))

pub returns : goal.returns
returns c = λ _.
    let none = drop_all c.loop-position.position-index c.args.positions.now (omega arith) in
    c.loop-position.invariant (rw none tt)
