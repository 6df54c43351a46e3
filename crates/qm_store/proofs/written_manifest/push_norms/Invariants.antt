use Rattle.std.proofs.Common.{◌≡◌, ◌++◌, drop}
use Rattle.std.specs.List.{flat_map}
use Rattle.qm_store.specs.Numbers.{spelled}
use Rattle.qm_store.proofs.written_manifest.push_norms.Given as goal

abbrev pub invariant-loop-norm : goal.invariant-loop-norm
invariant-loop-norm l = l.out.items ++ flat_map spelled (drop l.norm-index l.norms) ≡ l.fn.out.items ++ flat_map spelled l.norms
