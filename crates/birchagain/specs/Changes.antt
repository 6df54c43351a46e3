-- What calls make of an index.
use Rattle.std.specs.Prelude.{◌≡◌, ℕ, List, true}
use Rattle.qm_index.specs.Indexed.{Deletes, indexed, statistics, with_document_of, with_segment_ended}
use Rattle.qm_index.specs.declared.index.Index.{Index}
use Rattle.qm_postings.specs.Document.{Draft}
use Rattle.qm_postings.specs.Statistics.{with_norms, with_weight}
use Rattle.birchagain.specs.Body.{body_term}

-- the open segment has one document more, and words weigh what they did
abbrev pub IsAdded : Draft → Index → Index → Type 0
IsAdded draft before after = (indexed after ≡ with_document_of (indexed before) draft) × (statistics after ≡ statistics before)

-- the open segment is ended, and another is open
abbrev pub IsEnded : Index → Index → Type 0
IsEnded before after = (indexed after ≡ with_segment_ended (indexed before)) × (statistics after ≡ statistics before)

-- there is a document of that number, which is deleted now
abbrev pub IsDeleted : ℕ → Index → Index → Type 0
IsDeleted number before after = Deletes number (indexed before) true (indexed after) × (statistics after ≡ statistics before)

-- a word weighs so much, all others what they did, and documents are what they were
abbrev pub IsWeighed : List ℕ → ℕ → Index → Index → Type 0
IsWeighed word weight before after =
    (statistics after ≡ with_weight (statistics before) (body_term word) weight) × (indexed after ≡ indexed before)

-- lengths count by these norms, and documents and weights are what they were
abbrev pub IsNormed : List ℕ → Index → Index → Type 0
IsNormed norms before after = (statistics after ≡ with_norms (statistics before) norms) × (indexed after ≡ indexed before)

-- all is what it was
abbrev pub IsSame : Index → Index → Type 0
IsSame before after = (indexed after ≡ indexed before) × (statistics after ≡ statistics before)
