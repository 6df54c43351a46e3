use Rattle.std.proofs.Common.{◌≡◌, ◌+◌, ◌*◌, ◌%◌, ◌/◌, nat_lt, arith, ◌∙◌}
use Rattle.std.proofs.lemmas.Bool.{and_right}
use Rattle.qm_docset.specs.BitSet.{set_has}
use Rattle.qm_docset.proofs.BitSetLemmas.{lacks_past}
use Rattle.qm_docset.proofs.bitset.BitSet.contains.Goals as goal

pub returns-clause-past : goal.returns-clause-past
returns-clause-past c past =
    let set = c.args.self.now in
    let place : 64 * (c.args.el / 64) + c.args.el % 64 ≡ c.args.el = omega arith in
    c.contains.ensures ∙ c.tinyset.ensures (c.args.el % 64)
    ∙ rw place
    (and_right (nat_lt (c.args.el % 64) 64) (set_has set c.args.el) (unfold set_has in lacks_past set.words.items set.max_value set.within c.args.el past))
