use Rattle.std.proofs.Common.{◌<◌, drop, sym, ap, ◌∙◌, arith}
use Rattle.qm_docset.proofs.TinySetLemmas.{tiny_members-empty, tiny_members-lowest, tiny_members-pop, tiny_has-pop}
use Rattle.qm_docset.proofs.tiny_set.TinySet.pop_lowest.Goals as goal

pub returns-then-self-eq0-clause-lowest : goal.returns-then-self-eq0-clause-lowest
returns-then-self-eq0-clause-lowest c = rw (tiny_members-empty c.args.self.now c.if-self-eq0.true)

pub returns-then-self-eq0-clause-members : goal.returns-then-self-eq0-clause-members
returns-then-self-eq0-clause-members c = rw (tiny_members-empty c.args.self.now c.if-self-eq0.true)

pub returns-clause-lowest : goal.returns-clause-lowest
returns-clause-lowest c =
    let some : 0 < c.args.self.now.bits = omega arith in
    rw (tiny_members-lowest c.args.self.now (omega arith) some)

pub returns-clause-members : goal.returns-clause-members
returns-clause-members c =
    let some : 0 < c.args.self.now.bits = omega arith in
    tiny_members-pop c.args.self.now (omega arith) some ∙ ap (drop 1) (sym (tiny_members-lowest c.args.self.now (omega arith) some))

pub returns-clause-others : goal.returns-clause-others
returns-clause-others c x =
    let some : 0 < c.args.self.now.bits = omega arith in
    tiny_has-pop c.args.self.now (omega arith) some x
