-- What a dictionary says of a term, as bytes, and which entry some bytes begin with: the term, and where its row stands.
use Rattle.std.specs.Prelude.{ℕ, ◌+◌, ◌/◌, ◌%◌, ◌==◌, nat_le, if◌then◌else◌, List, Option, None, Some, drop, length, take}
use Rattle.qm_schema.specs.Term.{TermKey}
use Rattle.qm_store.specs.Numbers.{number_at}
use Rattle.qm_store.specs.RowBytes.{followed_by}
use Rattle.qm_store.specs.TermBytes.{term_at}
use Rattle.qm_store.specs.Words.{word_at}
use Rattle.qm_store.specs.declared.entry.EntryRef.{EntryRef}
use Rattle.qm_store.specs.declared.entry.PartRef.{PartRef}
use Rattle.qm_store.specs.declared.entry.PartRef.TheVariants.{Here, There}
use Rattle.qm_store.specs.declared.piece.Piece.{Piece}

-- bytes that stand in the dictionary itself, or elsewhere in the file
pub data Part : Type 0 where
  here : List ℕ → Part
  there : Piece → Part

-- a term, and where its postings stand, with their number in front, and its positions
pub record Entry : Type 0 where
  pub term : TermKey
  pub row : Part × Part

-- ---- what bytes begin with

-- where postings and positions stand
abbrev pub Parts : Type 0
Parts = (Part × Part) × List ℕ

-- of a row that stands in the dictionary, whose postings and positions have so many bytes
abbrev pub here_at : ℕ → ℕ → List ℕ → Option Parts
here_at n m bs = if nat_le (n + m) (length bs) then Some ((here (take n bs), here (take m (drop n bs))), drop m (drop n bs)) else None

-- of one that stands elsewhere: where, and the digests of both; its positions stand behind its postings
abbrev pub there_at : ℕ → ℕ → List ℕ → Option Parts
there_at n m bs =
    followed_by (number_at 8 bs) (λ at rest.
    followed_by (word_at rest) (λ first rest.
    followed_by (word_at rest) (λ second rest.
    Some ((there (record { at = at; len = n; digest = first }), there (record { at = at + n; len = m; digest = second })), rest))))

-- how many bytes the postings have, doubled, and one more where the row stands here; how many the positions have
abbrev pub parts_at : List ℕ → Option Parts
parts_at bs =
    followed_by (number_at 8 bs) (λ n rest.
    followed_by (number_at 8 rest) (λ m rest. if n % 2 == 1 then here_at (n / 2) m rest else there_at (n / 2) m rest))

-- the entry that some bytes begin with, and the bytes behind it
abbrev pub entry_at : List ℕ → Option (Entry × List ℕ)
entry_at bs =
    followed_by (term_at bs) (λ t rest.
    followed_by (parts_at rest) (λ p rest. Some (record { term = t; row = p }, rest)))

-- ---- as the program has them

abbrev pub lent_part : PartRef → Part
lent_part (Here bs) = here bs.now
lent_part (There p) = there p

-- the two parts of a row
abbrev pub lent_parts : PartRef × PartRef → Part × Part
lent_parts parts = (lent_part parts.0, lent_part parts.1)

abbrev pub lent_entry : EntryRef → Entry
lent_entry e = record { term = record { field = e.field; bytes = e.text.now }; row = lent_parts e.parts }
