-- Both are the documents that match.
use Rattle.std.proofs.Common.{sym, ◌∙◌}
use Rattle.example_callers.proofs.laws.join_and_collect.Goals as goal

pub returns : goal.returns
returns g c = c.in_ok-joined.ensures ∙ sym c.in_ok-collect_matches.ensures.documents
