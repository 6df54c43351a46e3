-- What a cursor over one document has left.
use Rattle.std.specs.Prelude.{ℕ, ◌<◌, List, [], ◌∷◌, Option, Some, None}
use Rattle.std.proofs.Common.{arith}
use Rattle.qm_docset.specs.Entry.{Entry, AreEntries, no_limits, plain}
use Rattle.qm_docset.specs.EntryFacts.{from-keep, from-nil, from-skip}
use Rattle.qm_docset.specs.declared.numbers.TheConstants.{TERMINATED}

-- the document, or nothing
abbrev pub left : Option ℕ → List Entry
left None = []
left (Some d) = plain d ∷ []

-- a document is below the end
abbrev pub IsBelowEnd : Option ℕ → Type 0
IsBelowEnd None = Unit {0}
IsBelowEnd (Some d) = d < TERMINATED

-- the law of every cursor: documents ascend, below the end
pub AreEntries-left : (doc : Option ℕ) → IsBelowEnd doc → AreEntries 0 no_limits (left doc)
AreEntries-left None h = tt
AreEntries-left (Some d) h = record { here = record { from_low = omega arith; below_end = h; score = omega arith; positions = omega arith }; others = tt }

pub ruleset left_facts = (from-keep, from-nil, from-skip)
