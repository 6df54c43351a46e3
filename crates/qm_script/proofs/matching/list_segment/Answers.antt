use Rattle.std.proofs.Common.{OnOk, subst, sym}
use Rattle.qm_script.specs.AllSegments.{listed}
use Rattle.qm_script.specs.Written.{ListsMore}
use Rattle.qm_weight.specs.Weights.{tree_of}
use Rattle.qm_script.proofs.matching.list_segment.Goals as goal

pub returns-then-is_scored-clause-listed : goal.returns-then-is_scored-clause-listed
returns-then-is_scored-clause-listed c = subst (λ b. OnOk c.list_scored.result
    (ListsMore (listed b (tree_of c.args.weight.now) c.args.listing.now.first c.args.segment.now.segment) c.args.listing.now c.list_scored.new.listing))
    (sym c.if-is_scored.true) c.list_scored.ensures.listed

pub returns-else-is_scored-clause-listed : goal.returns-else-is_scored-clause-listed
returns-else-is_scored-clause-listed c = subst (λ b. OnOk c.list_unscored.result
    (ListsMore (listed b (tree_of c.args.weight.now) c.args.listing.now.first c.args.segment.now.segment) c.args.listing.now c.list_unscored.new.listing))
    (sym c.if-is_scored.false) c.list_unscored.ensures.listed
