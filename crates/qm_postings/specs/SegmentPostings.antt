-- What a cursor over the postings of a term shows.
use Rattle.qm_postings.specs.Frequencies.{listed}
use Rattle.std.specs.Prelude.{◌≡◌, ℕ, ◌+◌, ◌-◌, ◌*◌, ◌/◌, ◌≤◌, ◌<◌, List, cond, length, drop, map, nat_eq, nat_lt, slice_index, slice_index_or, sum, take}
use Rattle.qm_docset.specs.Entry.{Entry, Limits, head_document}
use Rattle.qm_postings.specs.Blocks.{Block, block_read, looked_at, no_block}
use Rattle.qm_postings.specs.TermArrays.{AreArrays, array_limits, stored}
use Rattle.qm_postings.specs.declared.freq_reading_option.FreqReadingOption.{FreqReadingOption}
use Rattle.qm_postings.specs.declared.segment_postings.SegmentPostings.{SegmentPostings}

-- the postings that a cursor has left
abbrev pub postings_left : SegmentPostings → List Entry
postings_left s = drop s.cursor (stored s.reading s.arrays)

-- its limits
abbrev pub postings_limits : SegmentPostings → Limits
postings_limits s = array_limits s.arrays

-- what it reads of the frequencies
abbrev pub reads : SegmentPostings → FreqReadingOption
reads s = s.reading

-- all blocks of its term, in order
abbrev pub postings_blocks : SegmentPostings → List Block
postings_blocks s = map (block_read s.reading) s.arrays.blocks.now

-- that two of them read frequencies alike, and are over the same postings, in the same blocks as they are read
pub record ReadsAs (s t : SegmentPostings) : Type 0 where
  pub reading : reads t ≡ reads s
  pub all : stored t.reading t.arrays ≡ stored s.reading s.arrays
  pub blocks : postings_blocks t ≡ postings_blocks s

-- the number of the block that it looks at
abbrev pub looked_number : SegmentPostings → ℕ
looked_number s = cond (nat_eq s.look_from s.cursor) s.look (s.cursor / s.arrays.block_len)

-- the block that it looks at; none past the end
unfoldable pub looked_block : SegmentPostings → Block
looked_block s = cond (nat_lt s.cursor (length s.arrays.documents.now)) (slice_index_or (postings_blocks s) (looked_number s) no_block) no_block

-- it looks at the block of the document that it stands on
abbrev pub LooksHere : SegmentPostings → Type 0
LooksHere s = looked_block s ≡ looked_at 0 (head_document (postings_left s)) (postings_blocks s)

-- of two states of a cursor: the block looked at is the same
abbrev pub LooksAs : SegmentPostings → SegmentPostings → Type 0
LooksAs s t = looked_block t ≡ looked_block s

-- A cursor over postings: its place is among them, and where positions are read it knows where those
-- of one posting begin that it stands on or has gone by. The block that it knows begins no later. A block
-- that it was made to look at is the one of its place, or one behind it.
pub record IsPostings (s : SegmentPostings) : Type 0 where
  pub arrays : AreArrays s.reading s.arrays
  pub place : s.cursor ≤ length s.arrays.documents.now
  pub mark : s.mark ≤ s.cursor
  pub mark_start : 0 < length s.arrays.positions.now → s.mark_start ≡ sum (take s.mark (listed s.arrays.frequencies))
  pub block : s.block * s.arrays.block_len ≤ s.cursor
  pub block_end : (s.block_end ≤ (s.block + 1) * s.arrays.block_len) × (s.block_end ≤ length s.arrays.documents.now)
  pub last_doc : s.cursor < s.block_end → s.block_end < length s.arrays.documents.now → s.last_doc ≤ slice_index s.arrays.documents.now (s.block_end - 1)
  pub look_from : s.look_from ≤ s.cursor
  pub look : s.look_from ≡ s.cursor → s.cursor < length s.arrays.documents.now →
      (s.cursor / s.arrays.block_len ≤ s.look) × (s.look < length s.arrays.blocks.now)
