-- The bytes of a stored segment.
use Rattle.std.specs.Prelude.{ℕ, ◌+◌, ◌*◌, ◌^◌, ◌≤◌, All, nat_le, Bool, if◌then◌else◌, List, [], ◌∷◌, ◌++◌, Option, None, Some, drop, length, option_map, take}
use Rattle.std.proofs.Common.{zero, suc}
use Rattle.std.specs.Int.{div_ceil, w64, to_le_bytes}
use Rattle.std.specs.List.{flat_map}
use Rattle.std.specs.Ordering.{eq_by_cmp}
use Rattle.qm_postings.specs.Reading.{IsOfRows, Reader}
use Rattle.qm_postings.specs.Rows.{Row, columns_of, no_row}
use Rattle.qm_postings.specs.Restriction.{unplaced_row}
use Rattle.qm_postings.specs.Segment.{Segment}
use Rattle.qm_schema.specs.Term.{TermKey, term_cmp}
use Rattle.qm_store.specs.Dictionary.{Block}
use Rattle.qm_store.specs.Numbers.{spelled}
use Rattle.qm_store.specs.Pieces.{digest, piece_bytes}
use Rattle.qm_store.specs.RowBytes.{places_part, postings_part}
use Rattle.qm_store.specs.TermBytes.{IsSomeTerm, term_bytes}
use Rattle.qm_store.specs.declared.piece.Piece.{Piece}

-- the piece that some bytes are at a place of the file of a key
abbrev pub named : ℕ → ℕ → List ℕ → Piece
named key at bs = record { at = at; len = length bs; digest = digest key at bs }

-- ---- rows

-- parts of a row that are not too long to be written
pub record AreShortEnough (front back : List ℕ) : Type 0 where
  pub in_front : length front ≤ 2 ^ 60
  pub behind : length back ≤ 2 ^ 60

-- a row that could be written
pub record IsStorable (r : Row) : Type 0 where
  pub term : IsSomeTerm r.term
  pub frequencies : All (λ f. f ≤ 4294967295) r.frequencies
  pub parts : AreShortEnough (postings_part r) (places_part r)

-- whether a row whose parts are these stands in the dictionary itself: where it has 64 bytes at most
abbrev pub is_short : List ℕ → List ℕ → Bool
is_short front back = nat_le (length front + length back) 64

-- the bytes of it that stand elsewhere
abbrev pub parts_apart : List ℕ → List ℕ → List ℕ
parts_apart front back = if is_short front back then [] else front ++ back

unfoldable pub apart : Row → List ℕ
apart r = parts_apart (postings_part r) (places_part r)

-- ---- entries

-- where a row stands that is here
abbrev pub here_bytes : List ℕ → List ℕ → List ℕ
here_bytes front back = spelled (2 * length front + 1) ++ (spelled (length back) ++ (front ++ back))

abbrev pub digests_bytes : Piece → Piece → List ℕ
digests_bytes front back = to_le_bytes w64 front.digest ++ to_le_bytes w64 back.digest

-- where one stands whose parts are these pieces, one behind the other
abbrev pub there_bytes : Piece → Piece → List ℕ
there_bytes front back =
    spelled (2 * front.len) ++ (spelled back.len ++ (spelled front.at ++ digests_bytes front back))

-- where a row of these parts stands, from a place on where it is elsewhere
abbrev pub parts_bytes : ℕ → ℕ → List ℕ → List ℕ → List ℕ
parts_bytes key at front back =
    if is_short front back then here_bytes front back else there_bytes (named key at front) (named key (at + length front) back)

-- the entry of a row that stands from a place on, if it is not here
unfoldable pub entry_bytes : ℕ → ℕ → Row → List ℕ
entry_bytes key at r = term_bytes r.term ++ parts_bytes key at (postings_part r) (places_part r)

-- ---- groups of rows, from a place on: those that stand apart, then the block

abbrev pub entries_bytes : ℕ → ℕ → List Row → List ℕ
entries_bytes key at [] = []
entries_bytes key at (r ∷ rs) = entry_bytes key at r ++ entries_bytes key (at + length (apart r)) rs

abbrev pub all_apart : List Row → List ℕ
all_apart rs = flat_map apart rs

abbrev pub block_bytes : ℕ → ℕ → List Row → List ℕ
block_bytes key at rs = spelled (length rs) ++ entries_bytes key at rs

abbrev pub group_bytes : ℕ → ℕ → List Row → List ℕ
group_bytes key at rs = all_apart rs ++ block_bytes key at rs

-- the term of the first of some rows
abbrev pub first_row : List Row → Row
first_row [] = no_row
first_row (r ∷ rs) = r

-- the block of a group
abbrev pub block_named : ℕ → ℕ → List Row → Block
block_named key at rs = record { first = (first_row rs).term; piece = named key (at + length (all_apart rs)) (block_bytes key at rs) }

-- so many groups, each of 128 rows but for the last
abbrev pub groups : ℕ → List Row → List (List Row)
groups zero rows = []
groups (suc n) rows = take 128 rows ∷ groups n (drop 128 rows)

-- how many there are
abbrev pub group_count : List Row → ℕ
group_count rows = div_ceil (length rows) 128

-- ---- a dictionary with the rows that stand apart, from a place on

abbrev pub dictionary_bytes : ℕ → ℕ → List (List Row) → List ℕ
dictionary_bytes key at [] = []
dictionary_bytes key at (g ∷ gs) = group_bytes key at g ++ dictionary_bytes key (at + length (group_bytes key at g)) gs

abbrev pub blocks_named : ℕ → ℕ → List (List Row) → List Block
blocks_named key at [] = []
blocks_named key at (g ∷ gs) = block_named key at g ∷ blocks_named key (at + length (group_bytes key at g)) gs

-- ---- what tells of the blocks

abbrev pub start_bytes : Block → List ℕ
start_bytes b = term_bytes b.first ++ piece_bytes b.piece

abbrev pub index_bytes : List Block → List ℕ
index_bytes bs = spelled (length bs) ++ flat_map start_bytes bs

-- ---- a file

-- its first bytes: those of `birchseg`, and the version
abbrev pub head_bytes : List ℕ
head_bytes = (98 ∷ 105 ∷ 114 ∷ 99 ∷ 104 ∷ 115 ∷ 101 ∷ 103 ∷ []) ++ to_le_bytes w64 1

-- the rows of a segment, and its dictionary
abbrev pub rows_bytes : ℕ → List Row → List ℕ
rows_bytes key rows = head_bytes ++ dictionary_bytes key 16 (groups (group_count rows) rows)

-- the blocks of its dictionary
abbrev pub stored_blocks : ℕ → List Row → List Block
stored_blocks key rows = blocks_named key 16 (groups (group_count rows) rows)

abbrev pub ending_bytes : ℕ → Segment → Piece → Piece → List ℕ
ending_bytes key s index lengths =
    to_le_bytes w64 key ++ (spelled s.block_len ++ (spelled (length s.documents) ++ (piece_bytes index ++ piece_bytes lengths)))

-- the last 24 bytes, which name the ending
abbrev pub last_bytes : Piece → List ℕ
last_bytes p = to_le_bytes w64 p.at ++ (to_le_bytes w64 p.len ++ to_le_bytes w64 p.digest)

-- the file of the segment that a reader shows
abbrev pub stored : ℕ → Reader → List ℕ
stored key r =
    let rows = rows_bytes key r.rows in
    let index = index_bytes (stored_blocks key r.rows) in
    let lengths = flat_map (λ c. c) (columns_of r.segment) in
    let ending = ending_bytes key r.segment (named key (length rows) index) (named key (length (rows ++ index)) lengths) in
    (((rows ++ index) ++ lengths) ++ ending) ++ last_bytes (named key (length ((rows ++ index) ++ lengths)) ending)

-- a reader that could be written: its rows make its segment, each of them could be, and the file is not too long
pub record IsStored (key : ℕ) (r : Reader) : Type 0 where
  pub of : IsOfRows r
  pub each : All IsStorable r.rows
  pub whole : length (stored key r) ≤ 2 ^ 60 + 24

-- ---- a term

-- the row of a term among some rows
abbrev pub row_of : TermKey → List Row → Option Row
row_of t [] = None
row_of t (r ∷ rs) = if eq_by_cmp term_cmp r.term t then Some r else row_of t rs

-- a row with its positions, or without
abbrev pub with_places : Bool → Row → Row
with_places placed r = if placed then r else unplaced_row r

-- what a file that was written says of a term
abbrev pub kept_row : Bool → TermKey → List Row → Option Row
kept_row placed t rows = option_map (with_places placed) (row_of t rows)
