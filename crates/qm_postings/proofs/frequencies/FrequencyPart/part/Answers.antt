use Rattle.std.proofs.Common.{ℕ, List, ◌-◌, ◌++◌, drop, take, ◌∙◌}
use Rattle.qm_postings.proofs.FrequencyParts.{part_of_both}
use Rattle.qm_postings.proofs.frequencies.FrequencyPart.part.Goals as goal

pub returns : goal.returns
returns c =
    let small : List ℕ = c.args.self.now.small.now in
    let large : List ℕ = c.args.self.now.large.now in
    (λ i. take (c.min-2.ensures i - c.min.ensures i) (drop (c.min.ensures i) small)
    ++ take (c.saturating_sub-2.ensures i - c.saturating_sub.ensures i) (drop (c.saturating_sub.ensures i) large))
    ∙ part_of_both small large c.args.start c.args.end c.requires.start
