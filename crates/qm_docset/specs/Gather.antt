-- What a cursor over several members lists: the documents that enough of the members have, each with
-- a score that is made of its scores there. The members' lists are given; their order is of no
-- consequence, since the scores of a document are a bag.
use Rattle.std.specs.Prelude.{ℕ, ◌<◌, ◌≤◌, nat_eq, nat_le, List, [], ◌∷◌, length, filter, map}
use Rattle.std.specs.List.{flat_map, range_with_len}
use Rattle.qm_docset.specs.Entry.{Entry, Limits, AreEntries}
use Rattle.qm_docset.specs.declared.numbers.TheConstants.{TERMINATED}

-- a document and its score; nothing else is known of it
abbrev pub scored : ℕ → ℕ → Entry
scored d score = record { document = d; score = score; frequency = 0; positions = [] }

-- what a list says of a document: one entry where it has the document, else none
unfoldable pub entries_of : ℕ → List Entry → List Entry
entries_of d es = filter (λ e. nat_eq e.document d) es

-- the scores of a document, one for each list that has it
unfoldable pub scores_at : ℕ → List (List Entry) → List ℕ
scores_at d ess = flat_map (λ es. map (λ e. e.score) (entries_of d es)) ess

-- the documents below a number, in order
unfoldable pub documents_below : ℕ → List ℕ
documents_below n = range_with_len 0 n

-- of some documents those that are in at least `least` of the lists, each with what `combined` makes
-- of its scores there
unfoldable pub gathered : ℕ → (List ℕ → ℕ) → List ℕ → List (List Entry) → List Entry
gathered least combined ds ess = map (λ d. scored d (combined (scores_at d ess))) (filter (λ d. nat_le least (length (scores_at d ess))) ds)

-- the same of all documents that there can be: with `least` 1 the union of the lists, with as many as
-- there are lists their intersection
unfoldable pub gather : ℕ → (List ℕ → ℕ) → List (List Entry) → List Entry
gather least combined ess = gathered least combined (documents_below TERMINATED) ess

-- the intersection: the documents that all of the lists have, with their scores combined
abbrev pub common_entries : (List ℕ → ℕ) → List (List Entry) → List Entry
common_entries combined ess = gather (length ess) combined ess

-- no document below `low` is in at least `least` of the lists
abbrev pub IsBare : ℕ → ℕ → List (List Entry) → Type 0
IsBare least low ess = (d : ℕ) → d < low → length (scores_at d ess) < least

-- every score that is gathered is at most `top`
abbrev pub IsWithin : ℕ → (List ℕ → ℕ) → ℕ → List (List Entry) → Type 0
IsWithin least combined top ess = (d : ℕ) → least ≤ length (scores_at d ess) → combined (scores_at d ess) ≤ top

-- each list is that of a cursor within the limits beside it
abbrev pub AreMembers : List Limits → List (List Entry) → Type 0
AreMembers [] [] = Unit {0}
AreMembers [] (es ∷ ess) = ⊥
AreMembers (limits ∷ others) [] = ⊥
AreMembers (limits ∷ others) (es ∷ ess) = AreEntries 0 limits es × AreMembers others ess
