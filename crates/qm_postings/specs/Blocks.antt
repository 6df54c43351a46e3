-- The blocks of a term's postings, as a cursor shows them.
use Rattle.std.specs.Prelude.{ℕ, ◌<◌, ◌≤◌, nat_le, nat_lt, List, All, [], ◌∷◌, length, map, max, cond, slice_index_or}
use Rattle.std.specs.List.{range_with_len}
use Rattle.qm_docset.specs.declared.numbers.TheConstants.{TERMINATED}
use Rattle.qm_docset.specs.Entry.{Entry}
use Rattle.qm_schema.specs.Term.{TermKey}
use Rattle.qm_schema.specs.declared.schema.option.IndexRecordOption.{IndexRecordOption}
use Rattle.qm_postings.specs.Kept.{block_count, end_of, greatest, least, piece}
use Rattle.qm_postings.specs.Segment.{Segment, frequency, holders, length_id}
use Rattle.qm_postings.specs.Stored.{frequency_read}
use Rattle.qm_postings.specs.declared.freq_reading_option.FreqReadingOption.{FreqReadingOption}
use Rattle.qm_postings.specs.declared.term_arrays.BlockInfo.{BlockInfo}

-- A block: its last document, or TERMINATED where it is the last one; the least length id of its
-- documents; and the greatest of its frequencies.
pub record Block : Type 0 where
  pub last : ℕ
  pub least_id : ℕ
  pub most : ℕ

-- no block: what is looked at past the end
abbrev pub no_block : Block
no_block = record { last = TERMINATED; least_id = 0; most = 0 }

-- a block that a segment keeps, as its frequencies are read
abbrev pub block_read : FreqReadingOption → BlockInfo → Block
block_read reading info = record { last = info.last_doc; least_id = info.least_fieldnorm_id; most = frequency_read reading info.max_term_freq }

-- the first block that ends at or past a document
unfoldable pub block_at : ℕ → List Block → Block
block_at d [] = no_block
block_at d (b ∷ bs) = cond (nat_le d b.last) b (block_at d bs)

-- the block that is looked at with a target by a cursor that stands on a document
unfoldable pub looked_at : ℕ → ℕ → List Block → Block
looked_at target document blocks = cond (nat_lt document TERMINATED) (block_at (max target document) blocks) no_block

-- the block of a number among the postings of a term
abbrev pub term_block : Segment → IndexRecordOption → TermKey → ℕ → Block
term_block segment option term b = record {
  last = end_of segment.block_len (holders segment term) b;
  least_id = least (map (length_id segment term.field) (piece segment.block_len b (holders segment term)));
  most = greatest (map (frequency segment option term) (piece segment.block_len b (holders segment term)));
}

-- the blocks of a term's postings in a segment, in order
unfoldable pub term_blocks : Segment → IndexRecordOption → TermKey → List Block
term_blocks segment option term =
    map (term_block segment option term) (range_with_len 0 (block_count segment.block_len (length (holders segment term))))

-- from a number on and before another, all blocks end below a target
abbrev pub EndBelow : ℕ → ℕ → ℕ → List Block → Type 0
EndBelow target first past blocks = (b : ℕ) (d : Block) → first ≤ b → b < past → (slice_index_or blocks b d).last < target

-- none of these has, by these length ids, one below the least of its block
abbrev pub AreAboveLeast : List ℕ → List Block → List Entry → Type 0
AreAboveLeast ids blocks es = All (λ e. (block_at e.document blocks).least_id ≤ slice_index_or ids e.document 1) es

-- no document has a length id below the least of its block
abbrev pub HaveLeastIds : Segment → ℕ → List Block → List Entry → Type 0
HaveLeastIds segment field blocks es = All (λ e. (block_at e.document blocks).least_id ≤ length_id segment field e.document) es
