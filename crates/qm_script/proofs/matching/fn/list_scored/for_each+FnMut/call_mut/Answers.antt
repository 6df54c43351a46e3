use Rattle.std.proofs.Common.{◌+◌, ◌∷◌, [], Some, subst, w64}
use mir.ValLaws.{to_z-of_z}
use Rattle.qm_script.specs.Written.{ListsMore}
use Rattle.qm_script.proofs.matching.fn.list_scored.for_each+FnMut.call_mut.Goals as goal

pub returns : goal.returns
returns c = (
  c.for_each.ensures.first,
  subst (λ z. ListsMore ((c.args.arg1.now.0.now.first + c.args.arg2, Some z) ∷ []) c.args.arg1.now.0.now c.for_each.new.arg1.0.now)
      (to_z-of_z w64 c.args.arg3 c.ranges.arg3) c.for_each.ensures.listed,
)
