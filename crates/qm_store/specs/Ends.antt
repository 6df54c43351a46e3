-- The ends of a stored segment: its first bytes, and where its last ones say that its parts stand.
use Rattle.std.specs.Prelude.{ℕ, ◌-◌, ◌==◌, nat_le, nat_lt, not, if◌then◌else◌, List, [], ◌∷◌, Option, None, Some, Result, length, option_and_then}
use Rattle.qm_store.specs.Heads.{headed_as}
use Rattle.qm_store.specs.Numbers.{number_at}
use Rattle.qm_store.specs.Pieces.{part_at, piece_at, piece_in}
use Rattle.qm_store.specs.RowBytes.{followed_by}
use Rattle.qm_store.specs.Words.{word_at}
use Rattle.qm_store.specs.declared.ending.Ending.{Ending}
use Rattle.qm_store.specs.declared.piece.Piece.{Piece}
use Rattle.qm_store.specs.declared.store_error.StoreError.{StoreError}

-- the bytes of `birchseg`
abbrev pub segment_kind : List ℕ
segment_kind = 98 ∷ 105 ∷ 114 ∷ 99 ∷ 104 ∷ 115 ∷ 101 ∷ 103 ∷ []

-- A file that begins as a stored segment does.
abbrev pub headed : List ℕ → Result (List ℕ) StoreError
headed file = headed_as segment_kind file

-- what was read, where no byte is left
abbrev pub ended_by : {A : Type 0} → A → List ℕ → Option A
ended_by x [] = Some x
ended_by x (b ∷ bs) = None

-- the piece that three numbers name: where it stands, how many bytes it has, their digest
abbrev pub last_piece_at : List ℕ → Option Piece
last_piece_at bs =
    followed_by (word_at bs) (λ at rest.
    followed_by (word_at rest) (λ len rest.
    followed_by (word_at rest) (λ d rest. ended_by (record { at = at; len = len; digest = d }) rest)))

-- what an ending tells, if it is that of the segment of a key
abbrev pub checked_ending : ℕ → ℕ → ℕ → ℕ → Piece → Piece → List ℕ → Option Ending
checked_ending key own block_len documents index lengths rest =
    if not (own == key) then None else
    if nat_lt 4294967295 block_len then None else
    if nat_lt 4294967295 documents then None else
    ended_by (record { block_len = block_len; documents = documents; index = index; lengths = lengths }) rest

-- the key, how many postings a block has, how many documents there are, and where the index and the length ids stand
abbrev pub ending_at : ℕ → List ℕ → Option Ending
ending_at key bs =
    followed_by (word_at bs) (λ own rest.
    followed_by (number_at 8 rest) (λ block_len rest.
    followed_by (number_at 8 rest) (λ documents rest.
    followed_by (piece_at rest) (λ index rest.
    followed_by (piece_at rest) (λ lengths rest. checked_ending key own block_len documents index lengths rest)))))

-- The last 24 bytes of a file name its ending.
abbrev pub ending_in : ℕ → List ℕ → Option Ending
ending_in key file =
    if nat_le 24 (length file)
    then option_and_then (ending_at key) (option_and_then (piece_in key file) (option_and_then last_piece_at (part_at (length file - 24) 24 file)))
    else None
