-- The documents that a cursor has left, and what is known of each of them.
use Rattle.std.specs.Prelude.{ℕ, ◌+◌, ◌<◌, ◌≤◌, nat_le, nat_lt, List, [], ◌∷◌, length, filter, map}
use Rattle.qm_docset.specs.declared.numbers.TheConstants.{TERMINATED}

-- A document of a cursor, with its score, its frequency and its positions. What a cursor does not
-- know of its documents is 0, or none.
pub record Entry : Type 0 where
  pub document : ℕ
  pub score : ℕ
  pub frequency : ℕ
  pub positions : List ℕ

-- What no call changes: the greatest score, and how many positions a document may have.
pub record Limits : Type 0 where
  pub top : ℕ
  pub room : ℕ

-- the greatest score that there is
abbrev pub greatest_score : ℕ
greatest_score = 9223372036854775807

-- the limits of a cursor that knows nothing but documents, which are those of a cursor that names none: no score
-- above 0, and no positions
abbrev pub no_limits : Limits
no_limits = record { top = 0; room = 0 }

-- a document of which nothing else is known
abbrev pub plain : ℕ → Entry
plain d = record { document = d; score = 0; frequency = 0; positions = [] }

-- the documents of some entries
abbrev pub documents : List Entry → List ℕ
documents es = map (λ e. e.document) es

-- the document that a cursor stands on, or TERMINATED at its end
abbrev pub head_document : List Entry → ℕ
head_document [] = TERMINATED
head_document (e ∷ es) = e.document

-- its score, and 0 at the end
abbrev pub head_score : List Entry → ℕ
head_score [] = 0
head_score (e ∷ es) = e.score

-- its frequency, and 0 at the end
abbrev pub head_frequency : List Entry → ℕ
head_frequency [] = 0
head_frequency (e ∷ es) = e.frequency

-- its positions, and none at the end
abbrev pub head_positions : List Entry → List ℕ
head_positions [] = []
head_positions (e ∷ es) = e.positions

-- the entries at or past a target
unfoldable pub from : ℕ → List Entry → List Entry
from target es = filter (λ e. nat_le target e.document) es

-- the entries before a bound
unfoldable pub below : ℕ → List Entry → List Entry
below bound es = filter (λ e. nat_lt e.document bound) es

-- an entry of a cursor: from `low` on, below TERMINATED, and within the limits
pub record IsEntry (low : ℕ) (limits : Limits) (e : Entry) : Type 0 where
  pub from_low : low ≤ e.document
  pub below_end : e.document < TERMINATED
  pub score : e.score ≤ limits.top
  pub positions : length e.positions ≤ limits.room

-- what is said of the first of a list, and of the others
pub record FirstAndOthers (First Others : Type 0) : Type 0 where
  pub here : First
  pub others : Others

-- entries of a cursor: the documents ascend strictly from `low` on
abbrev pub AreEntries : ℕ → Limits → List Entry → Type 0
AreEntries low limits [] = Unit {0}
AreEntries low limits (e ∷ es) = FirstAndOthers (IsEntry low limits e) (AreEntries (e.document + 1) limits es)
