use Rattle.std.proofs.Common.{refl, sym, subst}
use Rattle.qm_folder.specs.Memory.{Fails}
use Rattle.qm_folder.specs.declared.memory_call.MemoryCall.{MemoryCall}
use Rattle.qm_folder.specs.declared.memory_call.MemoryCall.TheVariants.{Tore}
use Rattle.qm_folder.proofs.memory_call.MemoryCall.failed.Goals as goal

pub returns-in-Wrote : goal.returns-in-Wrote
returns-in-Wrote c = subst (λ (call : MemoryCall). Fails call (Tore c.in-Wrote.name c.truncate.new.self)) (sym c.in-Wrote.is) (c.truncate.new.self, refl)
