-- The callback may always be called.
use Rattle.std.proofs.Common.{rules}
use Rattle.qm_term.specs.RunsFacts.{MayPrune-always}
use Rattle.cases_postings.proofs.several.run_at_once.Goals as goal

pub block_wand-counted-requires-clause-callable :
    goal.block_wand-counted-requires-clause-callable
block_wand-counted-requires-clause-callable g c = search (rules, MayPrune-always)
