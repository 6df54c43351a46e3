-- The callback may always be called.
use Rattle.std.proofs.Common.{rules}
use Rattle.qm_term.specs.RunsFacts.{MayPrune-always}
use Rattle.cases_postings.proofs.several.run_over_all.Goals as goal

pub block_wand_all-count-requires-clause-callable :
    goal.block_wand_all-count-requires-clause-callable
block_wand_all-count-requires-clause-callable c = search (rules, MayPrune-always)
