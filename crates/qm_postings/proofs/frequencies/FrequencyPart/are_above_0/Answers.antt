use Rattle.std.proofs.Common.{ℕ, ◌<◌, List, sym, ◌∙◌}
use Rattle.std.proofs.lemmas.Bool.{false≢true}
use Rattle.std.proofs.lemmas.List.Elements.{All-append}
use Rattle.qm_postings.proofs.FrequencyParts.{All-back, All-front}
use Rattle.qm_postings.proofs.frequencies.FrequencyPart.are_above_0.Goals as goal

pub returns-then-small_are_above_0 : goal.returns-then-small_are_above_0
returns-then-small_are_above_0 c =
    let small : List ℕ = c.args.self.now.small.now in
    let large : List ℕ = c.args.self.now.large.now in (
      λ yes. All-append (λ f. 0 < f) small large (c.small_are_above_0.ensures.0 c.if-small_are_above_0.true) (c.large_are_above_0.ensures.0 yes),
      λ all. c.large_are_above_0.ensures.1 (All-back (λ f. 0 < f) small large all),
    )

pub returns-else-small_are_above_0 : goal.returns-else-small_are_above_0
returns-else-small_are_above_0 c =
    let small : List ℕ = c.args.self.now.small.now in
    let large : List ℕ = c.args.self.now.large.now in (
      λ yes. absurd (false≢true (sym c.if-small_are_above_0.false ∙ yes)),
      λ all. c.small_are_above_0.ensures.1 (All-front (λ f. 0 < f) small large all),
    )
