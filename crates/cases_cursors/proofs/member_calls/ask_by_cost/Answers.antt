-- The members are cursors in any order.
use Rattle.std.proofs.lemmas.List.Sorted.{All-permutation}
use Rattle.cases_cursors.proofs.member_calls.ask_by_cost.Goals as goal

pub write_costs-requires : goal.write_costs-requires
write_costs-requires g c = rw c.deref.ensures.value (All-permutation g.D.DocSet.valid c.args.members.items _ c.in-Ok.ensures.members c.requires)
