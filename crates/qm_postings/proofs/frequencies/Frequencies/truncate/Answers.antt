use Rattle.std.proofs.Common.{◌≡◌, ℕ, List, ◌-◌, ◌++◌, length, take, ap, ◌∙◌, arith}
use Rattle.qm_postings.proofs.FrequencyParts.{front-of-both}
use Rattle.qm_postings.proofs.frequencies.Frequencies.truncate.Goals as goal

pub returns : goal.returns
returns c =
    let small : List ℕ = c.self.inside.small.items in
    let large : List ℕ = c.self.inside.large.items in
    let left : c.saturating_sub.result ≡ c.args.count - length small = omega (arith, c.saturating_sub.ensures, c.len.ensures, c.self.inside.small.ok.0) in
    (λ i. c.truncate-2.ensures.items i ++ c.truncate.ensures.items i) ∙ ap (λ n. take c.args.count small ++ take n large) left
    ∙ front-of-both small large c.args.count ∙ ap (take c.args.count) c.self.view_is
