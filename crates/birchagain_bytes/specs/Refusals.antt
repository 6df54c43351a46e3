-- Why an index may not be made bytes, or bytes no index.
use Rattle.std.specs.Prelude.{◌≢◌, ◌<◌, ◌⊎◌, ℕ, IsErrOf, List, [], Result, length}
use Rattle.qm_index.specs.Indexed.{Indexed}
use Rattle.qm_store.specs.declared.store_error.StoreError.{StoreError}
use Rattle.qm_store.specs.declared.store_error.StoreError.TheVariants.{Failed, Memory as StoreMemory, OtherFile as StoreOtherFile, OtherVersion as StoreOtherVersion, Damaged as StoreDamaged}
use Rattle.birchagain_bytes.specs.declared.refusal.BytesRefusal.{BytesRefusal}
use Rattle.birchagain_bytes.specs.declared.refusal.BytesRefusal.TheVariants.{Damaged, Memory, NoNumber, NoRoom, OpenSegment, OtherBlocks, OtherFile, OtherVersion}

-- why files were not written
abbrev pub of_writing : StoreError → BytesRefusal
of_writing StoreMemory = Memory
of_writing error = NoNumber

-- why files were not read, which lie in memory
abbrev pub of_reading : StoreError → BytesRefusal
of_reading StoreMemory = Memory
of_reading Failed = Memory
of_reading StoreOtherVersion = OtherVersion
of_reading StoreOtherFile = Damaged
of_reading StoreDamaged = Damaged

-- no memory or no number is left
abbrev pub IsPackRefusal : BytesRefusal → Type 0
IsPackRefusal Memory = Unit {0}
IsPackRefusal NoNumber = Unit {0}
IsPackRefusal refusal = ⊥

-- the open segment has documents, or no memory or no number is left
abbrev pub IsToBytesRefusal : Indexed → BytesRefusal → Type 0
IsToBytesRefusal s OpenSegment = s.current.documents ≢ []
IsToBytesRefusal s refusal = IsPackRefusal refusal

-- the same, or there is no room for so many bytes
abbrev pub IsWriteRefusal : Indexed → List ℕ → ℕ → BytesRefusal → Type 0
IsWriteRefusal s out size NoRoom = length out < size
IsWriteRefusal s out size refusal = IsToBytesRefusal s refusal

-- there is no memory, or the bytes are no index of this library
abbrev pub IsFromBytesRefusal : BytesRefusal → Type 0
IsFromBytesRefusal OpenSegment = ⊥
IsFromBytesRefusal NoNumber = ⊥
IsFromBytesRefusal NoRoom = ⊥
IsFromBytesRefusal refusal = Unit {0}

-- it is refused for blocks of another length, or for want of memory
abbrev pub IsOfOtherBlocks : {X : Type 0} → Result X BytesRefusal → Type 0
IsOfOtherBlocks result = IsErrOf result OtherBlocks ⊎ IsErrOf result Memory

-- the first bytes are not those of an index of this version; what stands behind them is not files; or there is no memory
abbrev pub IsFilesRefusal : BytesRefusal → Type 0
IsFilesRefusal Memory = Unit {0}
IsFilesRefusal OtherFile = Unit {0}
IsFilesRefusal OtherVersion = Unit {0}
IsFilesRefusal Damaged = Unit {0}
IsFilesRefusal refusal = ⊥

-- there is no memory, there is no manifest that can be read, or it tells of other blocks
abbrev pub IsBlocksRefusal : BytesRefusal → Type 0
IsBlocksRefusal Memory = Unit {0}
IsBlocksRefusal OtherVersion = Unit {0}
IsBlocksRefusal Damaged = Unit {0}
IsBlocksRefusal OtherBlocks = Unit {0}
IsBlocksRefusal refusal = ⊥
