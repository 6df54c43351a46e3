-- Where the documents of a segment stand, as a file beside it: its first forty bytes, then pieces of 256 places.
use Rattle.std.specs.Prelude.{ℕ, ◌+◌, ◌-◌, ◌*◌, ◌/◌, ◌%◌, ◌^◌, ◌<◌, ◌==◌, min, not, if◌then◌else◌, List, [], ◌∷◌, ◌++◌, Option, None, Some, Result, drop, length, option_and_then, option_map, take}
use Rattle.std.specs.Int.{div_ceil, w32, w64, to_le_bytes}
use Rattle.std.specs.List.{flat_map, range_with_len}
use Rattle.qm_store.specs.Ends.{ended_by}
use Rattle.qm_store.specs.Heads.{head_bytes}
use Rattle.qm_store.specs.Pieces.{part_at}
use Rattle.qm_store.specs.RowBytes.{followed_by}
use Rattle.qm_store.specs.Sealed.{body_of, sealed, sealed_at, told_by, unsealed}
use Rattle.qm_store.specs.Words.{half_at, word_at}
use Rattle.qm_store.specs.declared.document_place.DocumentPlace.{DocumentPlace}
use Rattle.qm_store.specs.declared.store_error.StoreError.{StoreError}

-- a place whose numbers four bytes have room for
pub record IsPlace (p : DocumentPlace) : Type 0 where
  pub file : p.file < 2 ^ 32
  pub line : p.line < 2 ^ 32
  pub first_byte : p.first_byte < 2 ^ 32
  pub byte_count : p.byte_count < 2 ^ 32

-- ---- a place

-- its sixteen bytes
unfoldable pub place_bytes : DocumentPlace → List ℕ
place_bytes p = to_le_bytes w32 p.file ++ (to_le_bytes w32 p.line ++ (to_le_bytes w32 p.first_byte ++ to_le_bytes w32 p.byte_count))

-- the place that some bytes begin with, and the bytes behind it
unfoldable pub place_at : List ℕ → Option (DocumentPlace × List ℕ)
place_at bs =
    followed_by (half_at bs) (λ file rest.
    followed_by (half_at rest) (λ line rest.
    followed_by (half_at rest) (λ first_byte rest.
    followed_by (half_at rest) (λ byte_count rest.
    Some (record { file = file; line = line; first_byte = first_byte; byte_count = byte_count }, rest)))))

-- ---- pieces

-- how many pieces so many places make
abbrev pub piece_count : ℕ → ℕ
piece_count count = div_ceil count 256

-- how many of so many places the piece of a number has
abbrev pub piece_len : ℕ → ℕ → ℕ
piece_len count number = min 256 (count - number * 256)

-- where it stands: behind pieces that have 256 places and a digest each
abbrev pub piece_start : ℕ → ℕ
piece_start number = 40 + number * 4104

-- its places
abbrev pub piece_of : List DocumentPlace → ℕ → List DocumentPlace
piece_of places number = take (piece_len (length places) number) (drop (number * 256) places)

-- its bytes, and their digest
abbrev pub piece_sealed : ℕ → List DocumentPlace → ℕ → List ℕ
piece_sealed key places number = sealed_at key (piece_start number) (flat_map place_bytes (piece_of places number))

-- ---- a file

-- the bytes of `birchplc`
abbrev pub places_kind : List ℕ
places_kind = 98 ∷ 105 ∷ 114 ∷ 99 ∷ 104 ∷ 112 ∷ 108 ∷ 99 ∷ []

-- its first forty bytes: the kind and the version, the key of the segment, how many documents it has, and their digest
abbrev pub places_head : ℕ → ℕ → List ℕ
places_head key count = sealed key (head_bytes places_kind ++ (to_le_bytes w64 key ++ to_le_bytes w64 count))

-- all pieces of some places
abbrev pub pieces_bytes : ℕ → List DocumentPlace → List ℕ
pieces_bytes key places = flat_map (piece_sealed key places) (range_with_len 0 (piece_count (length places)))

-- The file for the segment of a key whose documents stand there.
abbrev pub stored_places : ℕ → List DocumentPlace → List ℕ
stored_places key places = places_head key (length places) ++ pieces_bytes key places

-- how many bytes it has
abbrev pub places_size : ℕ → ℕ
places_size count = 40 + (count * 16 + piece_count count * 8)

-- ---- read

-- how many documents the body of a head tells of, where that many are asked for, and so many bytes are those of their file
abbrev pub documents_in : ℕ → ℕ → ℕ → List ℕ → Option ℕ
documents_in key count size bs =
    followed_by (word_at bs) (λ own rest. if not (own == key) then None else
    followed_by (word_at rest) (λ documents rest. if not (documents == count) then None else
    if not (size == places_size count) then None else ended_by documents rest))

-- What a file is as the places of a segment's documents, which are so many: that many, by its head and its length.
abbrev pub places_opened : ℕ → ℕ → List ℕ → Result ℕ StoreError
places_opened key count file = told_by (body_of places_kind key (take 40 file)) (documents_in key count (length file))

-- the bytes of a piece, where they are there in front of their digest
abbrev pub piece_read : ℕ → ℕ → ℕ → List ℕ → Option (List ℕ)
piece_read key count number file =
    option_and_then (unsealed key (piece_start number)) (part_at (piece_start number) (piece_len count number * 16 + 8) file)

-- the place of a number among those that some bytes are
abbrev pub place_of : ℕ → List ℕ → Option DocumentPlace
place_of number bs = option_map (λ p. p.0) (place_at (drop (number * 16) bs))

-- Where a file says that a document stands; nothing where the piece that has its place is damaged.
abbrev pub place_read : ℕ → ℕ → ℕ → List ℕ → Option DocumentPlace
place_read key count doc file = option_and_then (place_of (doc % 256)) (piece_read key count (doc / 256) file)
