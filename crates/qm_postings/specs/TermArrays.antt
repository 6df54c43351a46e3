-- What a segment keeps of the postings of a term, as it is read.
use Rattle.qm_postings.specs.Frequencies.{listed}
use Rattle.std.specs.Prelude.{◌≡◌, ℕ, ◌<◌, ◌≤◌, List, All, length, sum}
use Rattle.qm_docset.specs.Documents.{AreDocuments}
use Rattle.qm_docset.specs.Entry.{Entry, Limits}
use Rattle.qm_postings.specs.Kept.{all_infos}
use Rattle.qm_postings.specs.Positions.{ArePositions}
use Rattle.qm_postings.specs.Stored.{stored_entries}
use Rattle.qm_postings.specs.declared.freq_reading_option.FreqReadingOption.{FreqReadingOption}
use Rattle.qm_postings.specs.declared.term_arrays.TermArrays.{TermArrays}

-- all postings in a term's arrays
abbrev pub stored : FreqReadingOption → TermArrays → List Entry
stored reading a = stored_entries reading a.documents.now (listed a.frequencies) a.positions.now

-- the limits of a cursor over them
abbrev pub array_limits : TermArrays → Limits
array_limits a = record { top = 0; room = a.max_term_freq }

-- what it keeps of its blocks is that of its documents and frequencies by these length ids
abbrev pub KeepsBlocksBy : TermArrays → List ℕ → Type 0
KeepsBlocksBy a ids = a.blocks.now ≡ all_infos a.block_len ids a.documents.now (listed a.frequencies)

-- The arrays of a term's postings: documents ascend, each has a frequency, the blocks are theirs, by some
-- length ids, and where positions are read each posting has as many as its frequency says; those ascend,
-- and are no more than the greatest frequency.
pub record AreArrays (reading : FreqReadingOption) (a : TermArrays) : Type 0 where
  pub documents : AreDocuments a.documents.now
  pub frequencies : length (listed a.frequencies) ≡ length a.documents.now
  pub block_len : 0 < a.block_len
  pub ids : List ℕ
  pub blocks : KeepsBlocksBy a ids
  pub room : All (λ e. length e.positions ≤ a.max_term_freq) (stored reading a)
  pub positions : All (λ e. ArePositions e.positions) (stored reading a)
  pub enough : 0 < length a.positions.now → sum (listed a.frequencies) ≤ length a.positions.now
