use Rattle.std.proofs.Common.{ℕ, List, max, ◌∙◌}
use Rattle.qm_postings.proofs.FrequencyParts.{greatest-both}
use Rattle.qm_postings.proofs.frequencies.FrequencyPart.greatest.Goals as goal

pub returns : goal.returns
returns c =
    let small : List ℕ = c.args.self.now.small.now in
    let large : List ℕ = c.args.self.now.large.now in
    c.max.ensures ∙ (λ i. max (c.greatest_of_small.ensures i) (c.greatest_of.ensures i)) ∙ greatest-both small large
