-- Several postings as one: in each document their frequencies together, and the positions that any of
-- them has.
use Rattle.std.specs.Prelude.{ℕ, Bool, List, filter, map, min}
use Rattle.std.specs.List.{flat_map, list_any, range_with_len, sum_by}
use Rattle.qm_docset.specs.Entry.{Entry, Limits}
use Rattle.qm_docset.specs.Exclusion.{some_has_document}
use Rattle.qm_docset.specs.Gather.{entries_of}
use Rattle.qm_docset.specs.Listed.{listed}
use Rattle.qm_postings.specs.Positions.{is_in}

-- what several lists say of a document: an entry of each list that has it
unfoldable pub entries_at : ℕ → List (List Entry) → List Entry
entries_at d ess = flat_map (λ es. entries_of d es) ess

-- whether one of the entries has a position
abbrev pub has_position : List Entry → ℕ → Bool
has_position es p = list_any (λ e. is_in p e.positions) es

-- the numbers below another, in order
unfoldable pub positions_below : ℕ → List ℕ
positions_below n = range_with_len 0 n

-- the positions that any of the entries has: ascending, each once
unfoldable pub united_positions : List Entry → List ℕ
united_positions es = filter (λ p. has_position es p) (positions_below 4294967295)

-- the frequencies of the entries together, at most 4294967295
abbrev pub united_frequency : List Entry → ℕ
united_frequency es = min 4294967295 (sum_by (λ e. e.frequency) es)

-- a document with what entries of several lists say of it together
abbrev pub united_entry : ℕ → List Entry → Entry
united_entry d es = record { document = d; score = 0; frequency = united_frequency es; positions = united_positions es }

-- the documents that any of the lists has, each with what all of them say of it
abbrev pub united_entries : List (List Entry) → List Entry
united_entries ess = listed (λ d. some_has_document ess d) (λ d. united_entry d (entries_at d ess))

-- the documents of a set, each with what is made of it
abbrev pub described : (ℕ → Entry) → List Entry → List Entry
described made set = map (λ e. made e.document) set

-- the documents of a set, each with what the lists say of it
abbrev pub united_over : List Entry → List (List Entry) → List Entry
united_over set ess = map (λ e. united_entry e.document (entries_at e.document ess)) set

-- how many positions several postings may have of a document together, held at 18446744073709551615
abbrev pub united_room : List Limits → ℕ
united_room bounds = min 18446744073709551615 (sum_by (λ limits. limits.room) bounds)

-- the limits of several postings as one
abbrev pub limits_of_postings : List Limits → Limits
limits_of_postings bounds = record { top = 0; room = united_room bounds }
