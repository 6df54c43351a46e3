-- The numbers that the program goes by, written out: its constants have to agree with them.
use Rattle.std.specs.Prelude.{ℕ}

-- how deep a query of a script may be
abbrev pub most_depth : ℕ
most_depth = 500

-- what a word weighs that was given no weight
abbrev pub ungiven_weight : ℕ
ungiven_weight = 1000

-- how many segments can be searched at once
abbrev pub most_segments : ℕ
most_segments = 4294967295

-- how many documents a segment takes
abbrev pub most_documents : ℕ
most_documents = 2147483647

-- how many postings a block of a segment has
abbrev pub block_length : ℕ
block_length = 128
