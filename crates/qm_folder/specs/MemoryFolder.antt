-- What is seen of a folder in memory.
use Rattle.std.specs.Prelude.{List}
use Rattle.qm_folder.specs.declared.memory_call.MemoryCall.{MemoryCall}
use Rattle.qm_folder.specs.declared.memory_folder.MemoryFolder.{MemoryFolder}

-- the calls that it has had, the last first
abbrev pub calls_of : MemoryFolder → List MemoryCall
calls_of folder = folder.calls.items
