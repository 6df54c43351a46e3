-- The callback may always be called.
use Rattle.std.proofs.Common.{rules}
use Rattle.qm_term.specs.RunsFacts.{MayPrune-always}
use Rattle.cases_postings.proofs.blocks.run_single.Goals as goal

pub block_wand_single_scorer-count-requires-clause-callable :
    goal.block_wand_single_scorer-count-requires-clause-callable
block_wand_single_scorer-count-requires-clause-callable g c = search (rules, MayPrune-always)
