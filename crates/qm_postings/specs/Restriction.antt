-- A segment of which some terms alone are kept, or no positions.
use Rattle.std.specs.Prelude.{Bool, List, [], filter, map, option_map}
use Rattle.std.specs.FinMap.{entries, from_entries, retain_keys}
use Rattle.qm_schema.specs.Schema.{FieldFacts}
use Rattle.qm_schema.specs.Term.{TermKey}
use Rattle.qm_schema.specs.declared.schema.option.IndexRecordOption.{IndexRecordOption}
use Rattle.qm_schema.specs.declared.schema.option.IndexRecordOption.TheVariants.{Basic, WithFreqs, WithFreqsAndPositions}
use Rattle.qm_postings.specs.Rows.{Row}
use Rattle.qm_postings.specs.Segment.{Document, Occurrences, Segment}

-- a document without the terms that are not wanted
abbrev pub keeping : (TermKey → Bool) → Document → Document
keeping wanted document = record { terms = retain_keys document.terms wanted; lengths = document.lengths }

-- The segment of the same documents, with the same length ids and the same deleted ones, in which they hold the wanted
-- terms alone.
abbrev pub restricted : (TermKey → Bool) → Segment → Segment
restricted wanted s = record { schema = s.schema; block_len = s.block_len; documents = map (keeping wanted) s.documents; deleted = s.deleted }

-- the rows of the wanted terms
abbrev pub rows_wanted : (TermKey → Bool) → List Row → List Row
rows_wanted wanted rows = filter (λ r. wanted r.term) rows

-- ---- without positions

-- what a field keeps but for positions
abbrev pub without_positions : IndexRecordOption → IndexRecordOption
without_positions Basic = Basic
without_positions WithFreqs = WithFreqs
without_positions WithFreqsAndPositions = WithFreqs

abbrev pub unplaced_field : FieldFacts → FieldFacts
unplaced_field facts = record { name = facts.name; indexed = option_map without_positions facts.indexed; lengths = facts.lengths }

-- how often a document holds a term, and not where
abbrev pub unplaced_occurrences : Occurrences → Occurrences
unplaced_occurrences o = record { frequency = o.frequency; positions = [] }

abbrev pub unplaced_document : Document → Document
unplaced_document document = record {
  terms = from_entries (map (λ e. (e.0, unplaced_occurrences e.1)) (entries document.terms));
  lengths = document.lengths;
}

-- the segment of the same documents, whose fields keep no positions
abbrev pub unplaced : Segment → Segment
unplaced s = record {
  schema = map unplaced_field s.schema;
  block_len = s.block_len;
  documents = map unplaced_document s.documents;
  deleted = s.deleted;
}

-- a row of it
abbrev pub unplaced_row : Row → Row
unplaced_row r = record { term = r.term; documents = r.documents; frequencies = r.frequencies; positions = [] }
