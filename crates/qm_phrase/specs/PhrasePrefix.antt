-- The documents in which the full terms of a phrase prefix stand together with a term that begins with
-- the prefix.
use Rattle.std.specs.Prelude.{◌≡◌, ℕ, ◌-◌, max, min, nat_le, nat_lt, Bool, true, false, List, [], ◌∷◌, Option, None, Some, length, map}
use Rattle.std.specs.List.{count_by, fold, list_all, range_with_len, sum_by}
use Rattle.qm_docset.specs.Entry.{Entry, Limits}
use Rattle.qm_docset.specs.Gather.{scored}
use Rattle.qm_docset.specs.Listed.{listed}
use Rattle.qm_docset.specs.Lists.{Lists, lists}
use Rattle.qm_postings.specs.FieldNorms.{norm_ids}
use Rattle.qm_postings.specs.declared.fieldnorm.FieldNormReader.{FieldNormReader}
use Rattle.qm_docset.specs.declared.docset.DocSet.{Ghosts}
use Rattle.qm_postings.specs.Positions.{is_in, shifted}
use Rattle.qm_term.specs.Bm25Weight.{weighing}
use Rattle.qm_term.specs.OwnNorms.{OwnWeight}
use Rattle.qm_phrase.specs.Phrase.{phrase_limits, phrase_points, positions_at, sets_at}
use Rattle.qm_phrase.specs.PhraseTerms.{lists_given, offsets_of}
use Rattle.qm_phrase.specs.Places.{Ascends}
use Rattle.qm_phrase.specs.Starts.{all_places}
use Rattle.qm_phrase.specs.declared.phrase_terms.PhraseTerms.{PhraseTerms}

-- whether every set has a place
abbrev pub is_common : List (List ℕ) → ℕ → Bool
is_common sets x = list_all (λ s. is_in x s) sets

-- the number of places below a number that every set has
unfoldable pub common_below : List (List ℕ) → ℕ → ℕ
common_below sets n = count_by (is_common sets) (range_with_len 0 n)

-- the number of places that every set has
unfoldable pub common_count : List (List ℕ) → ℕ
common_count sets = common_below sets all_places

-- a list of the places that every set has
pub record IsCommonOf (sets : List (List ℕ)) (places : List ℕ) : Type 0 where
  pub ascends : Ascends 0 places
  pub members : (x : ℕ) → is_in x places ≡ is_common sets x
  pub number : length places ≡ common_count sets

-- What the terms of a phrase prefix hold: the lists of the full terms and of those that begin with the
-- prefix, and how far the positions of each are shifted.
pub record PrefixLists : Type 0 where
  pub full_shifts : List ℕ
  pub full : List (List Entry)
  pub suffix_shift : ℕ
  pub suffixes : List (List Entry)

-- whether there are two full terms or more
abbrev pub has_several : PrefixLists → Bool
has_several t = nat_le 2 (length t.full_shifts)

-- the places of each full term in a document
abbrev pub full_sets : PrefixLists → ℕ → List (List ℕ)
full_sets t d = sets_at t.full_shifts t.full d

-- the number of places in a document that all full terms have
abbrev pub full_count : PrefixLists → ℕ → ℕ
full_count t d = common_count (full_sets t d)

-- the number of these places that a term which begins with the prefix has too
abbrev pub suffix_count : PrefixLists → ℕ → List Entry → ℕ
suffix_count t d es = common_count (shifted t.suffix_shift (positions_at d es) ∷ full_sets t d)

-- the number of places in a document that a list has together with others, its own shifted
abbrev pub shared_count : ℕ → List ℕ → ℕ → List Entry → ℕ
shared_count shift places d es = common_count (shifted shift (positions_at d es) ∷ places ∷ [])

-- the sum of this over all terms that begin with the prefix
abbrev pub prefix_count : PrefixLists → ℕ → ℕ
prefix_count t d = sum_by (suffix_count t d) t.suffixes

-- a count as it is answered: at most 4294967295
abbrev pub held_count : ℕ → ℕ
held_count n = min 4294967295 n

-- the points: with two or more full terms those of a phrase, with one the weight's boost, and 1
-- without a weight
abbrev pub prefix_points : Option OwnWeight → Bool → List ℕ → ℕ → ℕ → ℕ
prefix_points weight true ids d count = phrase_points weight ids d count
prefix_points None false ids d count = 1
prefix_points (Some weight) false ids d count = (weighing weight).boost

-- the greatest score, without positions
abbrev pub prefix_limits : Option OwnWeight → Bool → Limits
prefix_limits weight true = phrase_limits weight
prefix_limits None false = record { top = 1; room = 0 }
prefix_limits (Some weight) false = record { top = (weighing weight).boost; room = 0 }

-- the documents with a count, each with the points that the places of its full terms give it
abbrev pub prefix_entries : Option OwnWeight → List ℕ → PrefixLists → List Entry
prefix_entries weight ids t =
    listed (λ d. nat_lt 0 (held_count (prefix_count t d))) (λ d. scored d (prefix_points weight (has_several t) ids d (held_count (full_count t d))))

-- the greatest of all offsets, that of the prefix too
abbrev pub greatest_offset_of : List ℕ → ℕ → ℕ
greatest_offset_of offsets suffix_pos = max suffix_pos (fold max 0 offsets)

-- the lists of terms at such offsets, and of those that begin with the prefix, whose offset is `suffix_pos`:
-- each is shifted by the greatest offset less its own
abbrev pub lists_over : List ℕ → List (List Entry) → ℕ → List (List Entry) → PrefixLists
lists_over offsets full suffix_pos suffixes = record {
  full_shifts = map (λ offset. greatest_offset_of offsets suffix_pos - offset) offsets;
  full = full;
  suffix_shift = greatest_offset_of offsets suffix_pos - suffix_pos;
  suffixes = suffixes;
}

-- the same of terms with their postings
abbrev pub lists_at : {P : Type 0} → Ghosts P → List (ℕ × P) → ℕ → List P → PrefixLists
lists_at D terms suffix_pos suffixes =
    lists_over (map (λ pair. pair.0) terms) (map (λ pair. D.entries pair.1) terms) suffix_pos (lists D suffixes)

-- the same of terms of which some may share their postings
abbrev pub lists_of_terms : {P : Type 0} → Ghosts P → PhraseTerms P → ℕ → List P → PrefixLists
lists_of_terms D terms suffix_pos suffixes = lists_over (offsets_of terms) (lists_given D terms) suffix_pos (lists D suffixes)

-- a placed cursor that lists the documents of a phrase prefix with such lists, by a weight and length ids
abbrev pub ListsPrefixOver : {U : Type 0} → Ghosts U → Option OwnWeight → FieldNormReader → PrefixLists → U → Type 0
ListsPrefixOver U weight norms t s = Lists U s (prefix_entries weight (norm_ids norms) t) (prefix_limits weight (has_several t))

-- the same of terms with their offsets and of those that begin with the prefix, whose offset is `suffix_pos`
abbrev pub ListsPrefix : {U P : Type 0} → Ghosts U → Ghosts P → Option OwnWeight → FieldNormReader → List (ℕ × P) → ℕ → List P → U → Type 0
ListsPrefix U D weight norms terms suffix_pos suffixes s = ListsPrefixOver U weight norms (lists_at D terms suffix_pos suffixes) s
