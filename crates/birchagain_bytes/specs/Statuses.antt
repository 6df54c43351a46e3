-- The statuses of refused calls.
use Rattle.std.specs.Prelude.{ℕ}
use Rattle.qm_schema.specs.Refusals.{refusal_number}
use Rattle.qm_schema.specs.declared.error.QueryError.TheVariants.{Memory as NoMemory}
use Rattle.birchagain_bytes.specs.declared.refusal.BytesRefusal.{BytesRefusal}
use Rattle.birchagain_bytes.specs.declared.refusal.BytesRefusal.TheVariants.{Damaged, Memory, NoNumber, NoRoom, OpenSegment, OtherBlocks, OtherFile, OtherVersion}

-- the number of `QueryError` for want of memory, and from 80 on what a call refuses by itself
abbrev pub status_of : BytesRefusal → ℕ
status_of Memory = refusal_number NoMemory
status_of OtherFile = 80
status_of OtherVersion = 81
status_of Damaged = 82
status_of OtherBlocks = 83
status_of OpenSegment = 84
status_of NoNumber = 85
status_of NoRoom = 86
