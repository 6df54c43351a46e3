-- Both scorers are placed, and list what the terms do.
use Rattle.std.proofs.Common.{◌∙◌, [], ◌∷◌, ap}
use Rattle.std.proofs.lemmas.List.Elements.{All-cons, All-nil}
use Rattle.qm_combine.specs.HeldSum.{held_sum}
use Rattle.qm_docset.specs.Gather.{common_entries}
use Rattle.qm_term.specs.TermScorer.{IsTermScorer}
use Rattle.qm_term.specs.OwnNorms.{OwnScorer}
use Rattle.example_search.specs.Both.{with_scores}
use Rattle.example_search.proofs.both.Goals as goal

pub new-requires-clause-placed : goal.new-requires-clause-placed
new-requires-clause-placed c =
    let first = c.in-Some.first in
    let second = c.in-Some-for_term.second in
    let lists = c.in-Some.ensures.lists in
    let lists_too = c.in-Some-for_term.ensures.lists in
    let placed = λ (s : OwnScorer). Unit {0} in
    rw c.in_ok-members.ensures.items (record {
      valid = All-cons IsTermScorer first (second ∷ []) lists.valid (All-cons IsTermScorer second [] lists_too.valid (All-nil IsTermScorer));
      placed = All-cons placed first (second ∷ []) tt (All-cons placed second [] tt (All-nil placed));
    })

pub returns : goal.returns
returns c =
    let first = c.in-Some.ensures.lists in
    let second = c.in-Some-for_term.ensures.lists in
    let lists = c.in_ok-common.ensures.lists.entries in
    c.in_ok-scores_left.ensures
    ∙ ap with_scores (rw c.in_ok-members.ensures.items at lists ∙ (λ i. common_entries held_sum (first.entries i ∷ second.entries i ∷ [])))
