-- The documents in which the terms of a phrase stand together: each term has how far its positions
-- are shifted, and a list of the documents that hold it.
use Rattle.std.specs.Prelude.{ℕ, ◌-◌, max, nat_lt, List, [], ◌∷◌, map, slice_index_or}
use Rattle.std.specs.List.{fold}
use Rattle.std.specs.declared.option.Option.{Option}
use Rattle.std.specs.declared.option.Option.TheVariants.{None, Some}
use Rattle.qm_docset.specs.Entry.{Entry, Limits, head_positions}
use Rattle.qm_docset.specs.Gather.{entries_of, scored}
use Rattle.qm_docset.specs.Listed.{listed}
use Rattle.qm_docset.specs.Lists.{Lists}
use Rattle.qm_docset.specs.declared.docset.DocSet.{Ghosts}
use Rattle.qm_postings.specs.FieldNorms.{norm_ids}
use Rattle.qm_postings.specs.Positions.{shifted}
use Rattle.qm_postings.specs.declared.fieldnorm.FieldNormReader.{FieldNormReader}
use Rattle.qm_term.specs.Bm25.{bm25, bm25_bound}
use Rattle.qm_term.specs.Bm25Weight.{weighing}
use Rattle.qm_term.specs.OwnNorms.{OwnWeight}
use Rattle.qm_phrase.specs.Starts.{starts, starts_held}

-- how far the positions of each term are shifted: the greatest offset less its own
abbrev pub shifts_of : List ℕ → List ℕ
shifts_of offsets = map (λ offset. fold max 0 offsets - offset) offsets

-- the positions that a list has of a document
abbrev pub positions_at : ℕ → List Entry → List ℕ
positions_at d es = head_positions (entries_of d es)

-- each list of positions, shifted by the number beside it
abbrev pub shifted_each : List ℕ → List (List ℕ) → List (List ℕ)
shifted_each [] positions = []
shifted_each (shift ∷ shifts) [] = []
shifted_each (shift ∷ shifts) (ps ∷ positions) = shifted shift ps ∷ shifted_each shifts positions

-- the places of each term in a document
unfoldable pub sets_at : List ℕ → List (List Entry) → ℕ → List (List ℕ)
sets_at shifts ess d = shifted_each shifts (map (positions_at d) ess)

-- the number of starts in a document
abbrev pub starts_at : ℕ → List ℕ → List (List Entry) → ℕ → ℕ
starts_at slop shifts ess d = starts slop (sets_at shifts ess d)

-- the same as it is answered: at most 4294967295
abbrev pub count_at : ℕ → List ℕ → List (List Entry) → ℕ → ℕ
count_at slop shifts ess d = starts_held slop (sets_at shifts ess d)

-- the documents with a start, each with the points that its count gives it
abbrev pub phrase_entries : (ℕ → ℕ → ℕ) → ℕ → List ℕ → List (List Entry) → List Entry
phrase_entries points slop shifts ess = listed (λ d. nat_lt 0 (count_at slop shifts ess d)) (λ d. scored d (points d (count_at slop shifts ess d)))

-- what a document scores by its count: by the weight at its length id, and 1 without a weight
abbrev pub phrase_points : Option OwnWeight → List ℕ → ℕ → ℕ → ℕ
phrase_points None ids d count = 1
phrase_points (Some weight) ids d count = bm25 (weighing weight) (slice_index_or ids d 0) count

-- the greatest score, without positions
abbrev pub phrase_limits : Option OwnWeight → Limits
phrase_limits None = record { top = 1; room = 0 }
phrase_limits (Some weight) = record { top = bm25_bound (weighing weight); room = 0 }

-- a placed cursor that lists the documents of a phrase: by a weight and length ids, within a slop, of
-- terms at such offsets with such lists
abbrev pub ListsPhraseOver : {U : Type 0} → Ghosts U → Option OwnWeight → FieldNormReader → ℕ → List ℕ → List (List Entry) → U → Type 0
ListsPhraseOver U weight norms slop offsets ess s =
    Lists U s (phrase_entries (phrase_points weight (norm_ids norms)) slop (shifts_of offsets) ess) (phrase_limits weight)

-- the same of terms with their offsets
abbrev pub ListsPhrase : {U P : Type 0} → Ghosts U → Ghosts P → Option OwnWeight → FieldNormReader → ℕ → List (ℕ × P) → U → Type 0
ListsPhrase U D weight norms slop terms s =
    ListsPhraseOver U weight norms slop (map (λ pair. pair.0) terms) (map (λ pair. D.entries pair.1) terms) s
