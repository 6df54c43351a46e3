-- The segments of a script: those that were ended, and the open one, which may be kept in parts.
use Rattle.std.specs.Prelude.{◌≡◌, ℕ, false, List}
use Rattle.qm_index.specs.Indexed.{Indexed, IsMerged, IsRefreshed, empty_index, indexed, open_parts}
use Rattle.qm_schema.specs.Schema.{FieldFacts}
use Rattle.qm_script.specs.Prefixes.{has_failing}
use Rattle.qm_script.specs.ProgramNumbers.{block_length}
use Rattle.qm_script.specs.Reached.{is_reached}
use Rattle.qm_script.specs.Script.{Query}
use Rattle.qm_script.specs.TextSegments.{with_text}
use Rattle.qm_script.specs.declared.corpus.Corpus.{Corpus}

-- the segments that were ended, and the one that takes documents
abbrev pub Script : Type 0
Script = Indexed

-- those that a corpus keeps
abbrev pub script : Corpus → Script
script c = indexed c.index

-- a script with the document of one text more
abbrev pub with_document_of : Script → List ℕ → Script
with_document_of s text = record { ended = s.ended; current = with_text s.current text }

-- the open segment has one part at most
abbrev pub IsWhole : Corpus → Type 0
IsWhole c = IsMerged c.index

-- all documents of the open segment are in its parts
abbrev pub IsBuilt : Corpus → Type 0
IsBuilt c = IsRefreshed c.index

-- each phrase prefix of a query begins at most as many terms of the parts of the open segment as it is expanded to
abbrev pub IsReachedBy : Query → Corpus → Type 0
IsReachedBy q c = has_failing (is_reached (open_parts c.index)) q ≡ false

-- a script's beginning: no segment was ended, and the open one has no document
abbrev pub empty_script : List FieldFacts → Script
empty_script schema = empty_index schema block_length
