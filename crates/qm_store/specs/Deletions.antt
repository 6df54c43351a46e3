-- Which documents of a segment are deleted, as a file beside it.
use Rattle.std.specs.Prelude.{ℕ, ◌<◌, ◌==◌, nat_le, nat_lt, not, if◌then◌else◌, List, [], ◌∷◌, ◌++◌, All, Option, None, Some, Result, length}
use Rattle.std.specs.Int.{w64, to_le_bytes}
use Rattle.std.specs.List.{list_all}
use Rattle.qm_postings.specs.Reading.{Reader}
use Rattle.qm_postings.specs.Segment.{AscendFrom, without}
use Rattle.qm_store.specs.Ends.{ended_by}
use Rattle.qm_store.specs.Heads.{head_bytes}
use Rattle.qm_store.specs.Numbers.{number_at, spelled}
use Rattle.qm_store.specs.RowBytes.{followed_by, gaps, gaps_at}
use Rattle.qm_store.specs.Sealed.{body_of, sealed, told_by}
use Rattle.qm_store.specs.Words.{word_at}
use Rattle.qm_store.specs.declared.store_error.StoreError.{StoreError}

-- the numbers of some of so many documents, ascending, each once
pub record AreNumbers (count : ℕ) (numbers : List ℕ) : Type 0 where
  pub ascending : AscendFrom 0 numbers
  pub within : All (λ d. d < count) numbers

-- ---- written

-- the bytes of `birchdel`
abbrev pub deletions_kind : List ℕ
deletions_kind = 98 ∷ 105 ∷ 114 ∷ 99 ∷ 104 ∷ 100 ∷ 101 ∷ 108 ∷ []

-- the key of the segment, how many documents it has, how many are deleted, and which
abbrev pub deletions_body : ℕ → ℕ → List ℕ → List ℕ
deletions_body key count numbers = to_le_bytes w64 key ++ (spelled count ++ (spelled (length numbers) ++ gaps 0 numbers))

-- The file for the segment of a key that has so many documents, of which these are deleted.
abbrev pub stored_deletions : ℕ → ℕ → List ℕ → List ℕ
stored_deletions key count numbers = sealed key (head_bytes deletions_kind ++ deletions_body key count numbers)

-- ---- read

-- numbers, where each is that of one of so many documents, and no byte is left
abbrev pub numbers_within : ℕ → List ℕ → List ℕ → Option (List ℕ)
numbers_within count numbers rest = if not (list_all (λ d. nat_lt d count) numbers) then None else ended_by numbers rest

-- how many are deleted, where they are no more than there are documents, and the bytes behind it
abbrev pub few_at : ℕ → ℕ → List ℕ → Option (ℕ × List ℕ)
few_at count deleted rest = if nat_le deleted count then Some (deleted, rest) else None

-- the same, behind the key of a segment, and how many documents it has
abbrev pub counted_at : ℕ → ℕ → List ℕ → Option (ℕ × List ℕ)
counted_at key count bs =
    followed_by (word_at bs) (λ own rest. if not (own == key) then None else
    followed_by (number_at 8 rest) (λ documents rest. if not (documents == count) then None else followed_by (number_at 8 rest) (few_at count)))

-- the numbers that a body tells of the segment of a key
abbrev pub numbers_in : ℕ → ℕ → List ℕ → Option (List ℕ)
numbers_in key count bs = followed_by (counted_at key count bs) (λ deleted rest. followed_by (gaps_at deleted 0 rest) (numbers_within count))

-- What a file tells of the segment of a key that has so many documents: which of them are deleted.
abbrev pub deletions_read : ℕ → ℕ → List ℕ → Result (List ℕ) StoreError
deletions_read key count file = told_by (body_of deletions_kind key file) (numbers_in key count)

-- a reader of whose documents these are deleted, and no others
abbrev pub deleting_only : List ℕ → Reader → Reader
deleting_only numbers r = record { segment = without numbers r.segment; terms = r.terms; rows = r.rows }
