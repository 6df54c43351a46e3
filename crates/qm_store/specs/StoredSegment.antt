-- What some bytes are as a stored segment, and what they say of a term.
use denote.Ref.{Bor}
use Rattle.std.specs.Prelude.{ℕ, Bool, if◌then◌else◌, List, ◌++◌, Option, None, Some, Result, Ok, Err, length, map, ok_or, option_and_then, option_map, ◌≡◌, [], ◌∷◌, IfSome}
use Rattle.qm_postings.specs.Reading.{Reader, reader_of_rows}
use Rattle.qm_postings.specs.Rows.{MakeSegment, Row, columns_of}
use Rattle.qm_postings.specs.Segment.{keeps_positions}
use Rattle.qm_schema.specs.Schema.{FieldFacts}
use Rattle.qm_schema.specs.Term.{TermKey}
use Rattle.qm_store.specs.Columns.{columns_at}
use Rattle.qm_store.specs.Dictionary.{Block, block_at, block_for, blocks_of, index_at, row_with, start_of}
use Rattle.qm_store.specs.Ends.{ending_in, headed}
use Rattle.qm_store.specs.Entries.{Entry, Part, here, lent_entry, there}
use Rattle.qm_store.specs.Pieces.{piece_in}
use Rattle.qm_store.specs.RowBytes.{row_at}
use Rattle.qm_store.specs.Stored.{stored_blocks}
use Rattle.qm_store.specs.Wanted.{is_chosen, lent_choice}
use Rattle.qm_store.specs.declared.dictionary_index.BlockStart.{BlockStart}
use Rattle.qm_store.specs.declared.ending.Ending.{Ending}
use Rattle.qm_store.specs.declared.entry.EntryRef.{EntryRef}
use Rattle.qm_store.specs.declared.piece.Piece.{Piece}
use Rattle.qm_store.specs.declared.store_error.StoreError.{StoreError}
use Rattle.qm_store.specs.declared.store_error.StoreError.TheVariants.{Damaged, Failed, Memory, OtherFile, OtherVersion}
use Rattle.qm_store.specs.declared.stored_segment.StoredSegment.{StoredSegment}
use Rattle.qm_store.specs.declared.wanted.Wanted.{Wanted}

-- ---- what is known of a stored segment once it is open

pub record Opened : Type 0 where
  -- how many postings a block has, and how many documents there are
  pub block_len : ℕ
  pub documents : ℕ
  -- the blocks of its dictionary, and the length ids of each field
  pub blocks : List Block
  pub columns : List (List ℕ)

-- with these blocks, the length ids that some bytes are
abbrev pub with_columns : List FieldFacts → Ending → List Block → List ℕ → Option Opened
with_columns schema e blocks bs =
    option_map (λ columns. record { block_len = e.block_len; documents = e.documents; blocks = blocks; columns = columns })
    (columns_at schema e.documents bs)

-- the length ids behind the index
abbrev pub lengths_in : List FieldFacts → ℕ → List ℕ → Ending → List Block → Option Opened
lengths_in schema key file e blocks = option_and_then (with_columns schema e blocks) (piece_in key file e.lengths)

-- what an ending names: the index and the length ids
abbrev pub parts_in : List FieldFacts → ℕ → List ℕ → Ending → Option Opened
parts_in schema key file e = option_and_then (lengths_in schema key file e) (option_and_then index_at (piece_in key file e.index))

-- what stands behind the first bytes
abbrev pub opened_in : List FieldFacts → ℕ → List ℕ → Option Opened
opened_in schema key file = option_and_then (parts_in schema key file) (ending_in key file)

-- of one that was written
abbrev pub opened_segment : ℕ → Reader → Opened
opened_segment key r = record {
  block_len = r.segment.block_len;
  documents = length r.segment.documents;
  blocks = stored_blocks key r.rows;
  columns = columns_of r.segment;
}

-- ---- a term

-- the bytes of a part of a row
abbrev pub part_in : ℕ → List ℕ → Part → Option (List ℕ)
part_in key file (here bs) = Some bs
part_in key file (there p) = piece_in key file p

-- the bytes of a row: its postings, and its positions where they are wanted
abbrev pub row_bytes_in : ℕ → List ℕ → Bool → Part × Part → Option (List ℕ)
row_bytes_in key file placed parts =
    option_and_then (λ front. if placed then option_map (λ back. front ++ back) (part_in key file parts.1) else Some front) (part_in key file parts.0)

-- the row of a term whose parts stand there
abbrev pub row_in : ℕ → List ℕ → Bool → TermKey → Part × Part → Option Row
row_in key file placed term parts = option_and_then (row_at term placed) (row_bytes_in key file placed parts)

-- the same, where a block tells of one
abbrev pub found_in : ℕ → List ℕ → Bool → TermKey → Option (Part × Part) → Option (Option Row)
found_in key file placed term None = Some None
found_in key file placed term (Some parts) = option_map (λ row. Some row) (row_in key file placed term parts)

-- the row of a term by the bytes of a block
abbrev pub row_by : ℕ → List ℕ → Bool → TermKey → List ℕ → Option (Option Row)
row_by key file placed term bs = option_and_then (λ es. found_in key file placed term (row_with term es)) (block_at bs)

-- the same by where the block stands, if there is one
abbrev pub looked_up_in : ℕ → List ℕ → Bool → TermKey → Option Piece → Option (Option Row)
looked_up_in key file placed term None = Some None
looked_up_in key file placed term (Some p) = option_and_then (row_by key file placed term) (piece_in key file p)

-- What a file says of a term, by the blocks of its dictionary: nothing where it is damaged, else the row of the term,
-- or that it has none.
abbrev pub looked_up : ℕ → List ℕ → Bool → TermKey → List Block → Option (Option Row)
looked_up key file placed term blocks = looked_up_in key file placed term (option_map (λ b. b.piece) (block_for term blocks))

-- ---- the rows of several terms

-- rows in front of others, where both are there
abbrev pub rows_then : Option (List Row) → Option (List Row) → Option (List Row)
rows_then None more = None
rows_then (Some rows) more = option_map (λ back. rows ++ back) more

-- the row of an entry, with its positions where the field keeps them; none where the term is not chosen
abbrev pub rows_of_entry : ℕ → List ℕ → List FieldFacts → Option Wanted → Entry → Option (List Row)
rows_of_entry key file schema chosen e =
    if is_chosen chosen e.term then option_map (λ row. row ∷ []) (row_in key file (keeps_positions schema e.term.field) e.term e.row) else Some []

-- those of some entries, one behind the other
abbrev pub rows_of_entries : ℕ → List ℕ → List FieldFacts → Option Wanted → List Entry → Option (List Row)
rows_of_entries key file schema chosen [] = Some []
rows_of_entries key file schema chosen (e ∷ es) =
    rows_then (rows_of_entry key file schema chosen e) (rows_of_entries key file schema chosen es)

-- those of a block, by its bytes
abbrev pub rows_by : ℕ → List ℕ → List FieldFacts → Option Wanted → List ℕ → Option (List Row)
rows_by key file schema chosen bs = option_and_then (rows_of_entries key file schema chosen) (block_at bs)

-- The rows of the chosen terms of some blocks, or of all their terms: nothing where one of the blocks, or of the rows, is
-- damaged.
abbrev pub rows_of_blocks : ℕ → List ℕ → List FieldFacts → Option Wanted → List Block → Option (List Row)
rows_of_blocks key file schema chosen [] = Some []
rows_of_blocks key file schema chosen (b ∷ bs) =
    rows_then (option_and_then (rows_by key file schema chosen) (piece_in key file b.piece)) (rows_of_blocks key file schema chosen bs)

-- the rows of what is wanted, one behind the other, each by the blocks that may have such terms
abbrev pub rows_of : ℕ → List ℕ → List FieldFacts → List Block → List Wanted → Option (List Row)
rows_of key file schema blocks [] = Some []
rows_of key file schema blocks (w ∷ ws) =
    rows_then (rows_of_blocks key file schema (Some w) (blocks_of w blocks)) (rows_of key file schema blocks ws)

-- rows that make no segment of a schema beside what is known of it
abbrev pub MakeNone : List FieldFacts → Opened → List Row → Type 0
MakeNone schema o rows = ¬ MakeSegment schema o.block_len o.documents o.columns rows

-- an error tells that there are no rows, or none that make a segment, or memory ran out
abbrev pub TellsOfRows : List FieldFacts → Opened → StoreError → Option (List Row) → Type 0
TellsOfRows schema o Memory found = Unit {0}
TellsOfRows schema o Damaged found = IfSome found (MakeNone schema o)
TellsOfRows schema o Failed found = ⊥
TellsOfRows schema o OtherFile found = ⊥
TellsOfRows schema o OtherVersion found = ⊥

-- What was returned is the reader of the rows that were found, and damaged where these make no segment, unless memory ran out.
abbrev pub GivesReader : List FieldFacts → Opened → Result Reader StoreError → Option (List Row) → Type 0
GivesReader schema o (Ok it) found = option_map (λ rows. reader_of_rows schema o.block_len rows o.columns o.documents) found ≡ Some it
GivesReader schema o (Err e) found = TellsOfRows schema o e found

-- ---- a file

-- what stands behind its first bytes, where these are as they should
abbrev pub behind_head : Result (List ℕ) StoreError → Option Opened → Result Opened StoreError
behind_head (Ok file) found = ok_or found Damaged
behind_head (Err e) found = Err e

-- What a file is as the stored segment of a key.
abbrev pub opened : List FieldFacts → ℕ → List ℕ → Result Opened StoreError
opened schema key file = behind_head (headed file) (opened_in schema key file)

-- what is known of an open segment
abbrev pub opened_of : {P : Type 0} → StoredSegment P → Opened
opened_of s = record {
  block_len = s.block_len;
  documents = s.documents;
  blocks = map start_of s.index.starts.items;
  columns = map (λ c. c.items) s.columns.items;
}

-- ---- an open segment

-- all rows that a file has of it
abbrev pub all_rows : {P : Type 0} → StoredSegment P → List ℕ → List FieldFacts → Option (List Row)
all_rows s file schema = rows_of_blocks s.key file schema None (opened_of s).blocks

-- the rows of what is wanted
abbrev pub wanted_rows : {P : Type 0} → StoredSegment P → List ℕ → List FieldFacts → List Wanted → Option (List Row)
wanted_rows s file schema wanted = rows_of s.key file schema (opened_of s).blocks wanted

-- the rows of the chosen terms of some blocks
abbrev pub chosen_in_blocks : {P : Type 0} → StoredSegment P → List ℕ → List FieldFacts → Option (Bor Wanted) → List BlockStart → Option (List Row)
chosen_in_blocks s file schema chosen blocks = rows_of_blocks s.key file schema (lent_choice chosen) (map start_of blocks)

-- the same of one block, by its bytes
abbrev pub chosen_in_block : {P : Type 0} → StoredSegment P → List ℕ → List FieldFacts → Option (Bor Wanted) → List ℕ → Option (List Row)
chosen_in_block s file schema chosen block = rows_by s.key file schema (lent_choice chosen) block

-- the row of an entry, if its term is chosen
abbrev pub chosen_in_entry : {P : Type 0} → StoredSegment P → List ℕ → List FieldFacts → Option (Bor Wanted) → EntryRef → Option (List Row)
chosen_in_entry s file schema chosen entry = rows_of_entry s.key file schema (lent_choice chosen) (lent_entry entry)
