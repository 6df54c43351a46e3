-- What words weigh by the documents that hold them.
use Rattle.std.specs.Prelude.{ℕ, ◌+◌, ◌*◌, ◌/◌, length}
use Rattle.qm_postings.specs.Segment.{Segment, holders}
use Rattle.qm_schema.specs.Term.{TermKey}

-- 1000 times the documents of a segment, shared by those that hold the word and one more
abbrev pub rarity : Segment → TermKey → ℕ
rarity segment term = 1000 * length segment.documents / (1 + length (holders segment term))
