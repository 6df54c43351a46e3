-- Facts on what a seek may answer.
use Rattle.std.specs.Prelude.{ℕ, ◌≤◌, List}
use Rattle.qm_docset.specs.Entry.{Entry, Limits, AreEntries, from, head_document}
use Rattle.qm_docset.specs.EntryFacts.{AreEntries-from, head_document-bounds}
use Rattle.qm_docset.specs.declared.numbers.TheConstants.{TERMINATED}

-- the document that a seek reaches stands at or past its target
pub head_document-reached : (target low : ℕ) (limits : Limits) (es : List Entry) → target ≤ TERMINATED → AreEntries low limits es
    → (target ≤ head_document (from target es)) × (head_document (from target es) ≤ TERMINATED)
head_document-reached target low limits es fits ascends =
    head_document-bounds target limits (from target es) fits (AreEntries-from target low limits es ascends)
