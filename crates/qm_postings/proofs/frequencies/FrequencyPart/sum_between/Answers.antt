-- All of the range take a byte each, or its part is summed.
use Rattle.std.proofs.Common.{ℕ, List, sum, ap, arith, ◌∙◌}
use Rattle.qm_postings.proofs.FrequencyParts.{before}
use Rattle.qm_postings.proofs.frequencies.FrequencyPart.sum_between.Goals as goal

pub sum_of_small-requires : goal.sum_of_small-requires
sum_of_small-requires c =
    let small : List ℕ = c.args.self.now.small.now in
    let large : List ℕ = c.args.self.now.large.now in
    omega (arith, ap sum (before small large c.args.start c.args.end c.requires.start c.if-end-self.true), c.requires.fits)

pub returns-then-end-self : goal.returns-then-end-self
returns-then-end-self c =
    let small : List ℕ = c.args.self.now.small.now in
    let large : List ℕ = c.args.self.now.large.now in
    c.sum_of_small.ensures ∙ ap sum (before small large c.args.start c.args.end c.requires.start c.if-end-self.true)

pub sum-requires : goal.sum-requires
sum-requires c = omega (arith, ap sum c.part.ensures, c.requires.fits)
