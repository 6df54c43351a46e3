-- What is left of the weight earns less than the part's share of the norm.
use Rattle.std.proofs.Common.{arith}
use Rattle.std.proofs.lemmas.Bool.{ltb-false, ltb-true}
use Rattle.qm_term.proofs.SharesCompared.{share-enough, share-less}
use Rattle.qm_term.proofs.bm25.earns_less.Goals as goal

pub returns-then-weight-lt4294967296-clause-yes : goal.returns-then-weight-lt4294967296-clause-yes
returns-then-weight-lt4294967296-clause-yes c = λ is.
    share-less c.args.weight c.args.norm c.args.term_freq c.args.least (omega (arith, c.if-least-weight.false))
    (rw (c.from.ensures, c.from-then-weight-lt4294967296.ensures) at (ltb-true _ _ is))

pub returns-then-weight-lt4294967296-clause-no : goal.returns-then-weight-lt4294967296-clause-no
returns-then-weight-lt4294967296-clause-no c = λ is here.
    share-enough c.args.weight c.args.norm c.args.term_freq c.args.least (omega (arith, c.if-least-weight.false)) here
    (rw (c.from.ensures, c.from-then-weight-lt4294967296.ensures) at (ltb-false _ _ is))

pub returns-else-weight-lt4294967296-clause-yes : goal.returns-else-weight-lt4294967296-clause-yes
returns-else-weight-lt4294967296-clause-yes c = λ is.
    let rest = c.from-else-weight-lt4294967296.ensures in
    let frequency = c.from-else-weight-lt4294967296-2.ensures in
    let least = c.from-else-weight-lt4294967296-3.ensures in
    let norm = c.from-else-weight-lt4294967296-4.ensures in
    share-less c.args.weight c.args.norm c.args.term_freq c.args.least (omega (arith, c.if-least-weight.false))
    (rw (rest, frequency, least, norm) at (ltb-true _ _ is))

pub returns-else-weight-lt4294967296-clause-no : goal.returns-else-weight-lt4294967296-clause-no
returns-else-weight-lt4294967296-clause-no c = λ is here.
    let rest = c.from-else-weight-lt4294967296.ensures in
    let frequency = c.from-else-weight-lt4294967296-2.ensures in
    let least = c.from-else-weight-lt4294967296-3.ensures in
    let norm = c.from-else-weight-lt4294967296-4.ensures in
    share-enough c.args.weight c.args.norm c.args.term_freq c.args.least (omega (arith, c.if-least-weight.false)) here
    (rw (rest, frequency, least, norm) at (ltb-false _ _ is))
