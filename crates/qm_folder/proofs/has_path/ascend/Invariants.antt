use Rattle.std.proofs.Common.{◌-◌, drop, map}
use Rattle.qm_folder.specs.Paths.{Ascend}
use Rattle.qm_folder.proofs.has_path.ascend.Given as goal

abbrev pub invariant-loop-place : goal.invariant-loop-place
invariant-loop-place g l = Ascend (map g.F.HasPath.path (drop (l.place - 1) l.files)) → Ascend (map g.F.HasPath.path l.files)
