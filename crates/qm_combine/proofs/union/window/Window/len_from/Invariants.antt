use Rattle.std.proofs.Common.{◌≡◌, ◌+◌, ◌*◌, length}
use Rattle.qm_docset.specs.Members.{members_between}
use Rattle.qm_combine.specs.Window.{window_has}
use Rattle.qm_combine.proofs.union.window.Window.len_from.Given as goal

abbrev pub invariant-loop-bucket : goal.invariant-loop-bucket
invariant-loop-bucket g l = l.count ≡ length (members_between (window_has l.self) l.doc (l.self.start + 64 * l.bucket))
