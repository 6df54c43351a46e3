-- The bytes of a row, and which row some bytes are. A row is how many postings it has, its postings, and its positions.
use Rattle.std.specs.Prelude.{ℕ, ◌+◌, ◌-◌, ◌*◌, ◌/◌, ◌%◌, ◌==◌, ◌&&◌, Bool, true, false, nat_le, nat_lt, if◌then◌else◌, List, [], ◌∷◌, ◌++◌, Option, None, Some, drop, length, take}
use Rattle.std.proofs.Common.{zero, suc}
use Rattle.qm_postings.specs.Rows.{IsRow, Row}
use Rattle.qm_schema.specs.Schema.{FieldFacts}
use Rattle.qm_schema.specs.Term.{TermKey}
use Rattle.qm_store.specs.Numbers.{number_at, spelled}

-- what is read from the front of some bytes, and then what from those behind it; nothing where the first is not there
abbrev pub followed_by : {A B : Type 0} → Option (A × List ℕ) → (A → List ℕ → Option B) → Option B
followed_by None next = None
followed_by (Some p) next = next p.0 p.1

-- ---- numbers that ascend strictly: of each, how many lie between it and the one before

abbrev pub gaps : ℕ → List ℕ → List ℕ
gaps low [] = []
gaps low (x ∷ xs) = spelled (x - low) ++ gaps (x + 1) xs

-- a number in front of those that are read behind it
abbrev pub in_front : ℕ → Option (List ℕ × List ℕ) → Option (List ℕ × List ℕ)
in_front x None = None
in_front x (Some p) = Some (x ∷ p.0, p.1)

-- the one from low on that some bytes begin with, below 4294967295, and the bytes behind it
abbrev pub above_at : ℕ → List ℕ → Option (ℕ × List ℕ)
above_at low bs = followed_by (number_at 8 bs) (λ gap rest. if nat_lt (low + gap) 4294967295 then Some (low + gap, rest) else None)

-- so many of them that some bytes begin with, from low on, and the bytes behind them
abbrev pub gaps_at : ℕ → ℕ → List ℕ → Option (List ℕ × List ℕ)
gaps_at zero low bs = Some ([], bs)
gaps_at (suc count) low bs = followed_by (above_at low bs) (λ x rest. in_front x (gaps_at count (x + 1) rest))

-- ---- postings

-- A document and its frequency: the gap before it, doubled, and one more where the frequency is 1; else the frequency
-- behind it.
abbrev pub posting_bytes : ℕ → ℕ → List ℕ
posting_bytes gap f = if f == 1 then spelled (2 * gap + 1) else spelled (2 * gap) ++ spelled f

abbrev pub postings_bytes : ℕ → List ℕ → List ℕ → List ℕ
postings_bytes low [] fs = []
postings_bytes low (d ∷ ds) [] = []
postings_bytes low (d ∷ ds) (f ∷ fs) = posting_bytes (d - low) f ++ postings_bytes (d + 1) ds fs

-- the gap and the frequency that some bytes begin with
abbrev pub posting_at : List ℕ → Option ((ℕ × ℕ) × List ℕ)
posting_at bs =
    followed_by (number_at 8 bs) (λ n rest.
    if n % 2 == 1 then Some ((n / 2, 1), rest) else followed_by (number_at 8 rest) (λ f rest. Some ((n / 2, f), rest)))

-- documents, their frequencies, and the bytes behind them
abbrev pub Postings : Type 0
Postings = (List ℕ × List ℕ) × List ℕ

abbrev pub in_front_of_both : ℕ → ℕ → Option Postings → Option Postings
in_front_of_both d f None = None
in_front_of_both d f (Some p) = Some ((d ∷ p.0.0, f ∷ p.0.1), p.1)

abbrev pub behind_both : List ℕ → List ℕ → Option Postings → Option Postings
behind_both ds fs None = None
behind_both ds fs (Some p) = Some ((ds ++ p.0.0, fs ++ p.0.1), p.1)

-- so many postings that some bytes begin with, of documents from low on, all below 4294967295
abbrev pub postings_at : ℕ → ℕ → List ℕ → Option Postings
postings_at zero low bs = Some (([], []), bs)
postings_at (suc count) low bs =
    followed_by (posting_at bs) (λ p rest.
    if nat_lt (low + p.0) 4294967295 && nat_le p.1 4294967295 then in_front_of_both (low + p.0) p.1 (postings_at count (low + p.0 + 1) rest) else None)

-- ---- the positions of each posting, as many as its frequency says

abbrev pub places_bytes : List ℕ → List ℕ → List ℕ
places_bytes [] ps = []
places_bytes (f ∷ fs) ps = gaps 0 (take f ps) ++ places_bytes fs (drop f ps)

abbrev pub in_front_of_all : List ℕ → Option (List ℕ × List ℕ) → Option (List ℕ × List ℕ)
in_front_of_all xs None = None
in_front_of_all xs (Some p) = Some (xs ++ p.0, p.1)

abbrev pub places_at : List ℕ → List ℕ → Option (List ℕ × List ℕ)
places_at [] bs = Some ([], bs)
places_at (f ∷ fs) bs = followed_by (gaps_at f 0 bs) (λ xs rest. in_front_of_all xs (places_at fs rest))

-- ---- a row

-- a row that some segment may keep
abbrev pub IsSomeRow : Row → Type 0
IsSomeRow r = (schema : List FieldFacts) × (count : ℕ) × IsRow schema count r

-- its postings, with their number in front, and its positions
unfoldable pub postings_part : Row → List ℕ
postings_part r = spelled (length r.documents) ++ postings_bytes 0 r.documents r.frequencies

unfoldable pub places_part : Row → List ℕ
places_part r = places_bytes r.frequencies r.positions

-- its bytes
abbrev pub row_bytes : Row → List ℕ
row_bytes r = postings_part r ++ places_part r

-- a row of a term, where no bytes are left
abbrev pub ended : TermKey → List ℕ × List ℕ → List ℕ → List ℕ → Option Row
ended term p ps [] = Some (record { term = term; documents = p.0; frequencies = p.1; positions = ps })
ended term p ps (b ∷ bs) = None

-- the row behind its postings, with positions or without
abbrev pub placed_at : TermKey → Bool → List ℕ × List ℕ → List ℕ → Option Row
placed_at term true p bs = followed_by (places_at p.1 bs) (ended term p)
placed_at term false p bs = ended term p [] bs

-- The row of a term that some bytes are, in a field that keeps positions or in another. A posting has a byte at least.
abbrev pub row_at : TermKey → Bool → List ℕ → Option Row
row_at term keeps bs =
    followed_by (number_at 8 bs) (λ count rest.
    if nat_le count (length rest) then followed_by (postings_at count 0 rest) (placed_at term keeps) else None)
