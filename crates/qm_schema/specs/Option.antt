-- What an option of a field's postings keeps, or asks for.
use Rattle.std.specs.Prelude.{Bool, true, false}
use Rattle.qm_schema.specs.declared.schema.option.IndexRecordOption.{IndexRecordOption}
use Rattle.qm_schema.specs.declared.schema.option.IndexRecordOption.TheVariants.{Basic, WithFreqs, WithFreqsAndPositions}

-- how often a term stands in each document
abbrev pub has_freq : IndexRecordOption → Bool
has_freq Basic = false
has_freq WithFreqs = true
has_freq WithFreqsAndPositions = true

-- at which positions it stands there
abbrev pub has_positions : IndexRecordOption → Bool
has_positions Basic = false
has_positions WithFreqs = false
has_positions WithFreqsAndPositions = true
