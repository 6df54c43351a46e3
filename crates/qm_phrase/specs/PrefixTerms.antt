-- What the terms of a phrase prefix show, as a cursor moves them.
use Rattle.std.specs.Prelude.{◌≡◌, ℕ, ◌<◌, ◌≤◌, Result, Ok, Err, slice_index_or}
use Rattle.qm_docset.specs.Entry.{no_limits}
use Rattle.qm_docset.specs.Lists.{bounds}
use Rattle.qm_docset.specs.declared.docset.DocSet.{Ghosts}
use Rattle.qm_docset.specs.declared.numbers.TheConstants.{TERMINATED}
use Rattle.qm_phrase.specs.PhrasePrefix.{PrefixLists, full_count, has_several, held_count, prefix_count}
use Rattle.qm_phrase.specs.Places.{room_of, shift_of}
use Rattle.qm_phrase.specs.Suffixes.{AreSuffixes, suffix_lists}
use Rattle.qm_phrase.specs.TermRows.{first_term}
use Rattle.qm_phrase.specs.Terms.{AreTerms, shifts_in, term_lists, terms_in}
use Rattle.qm_phrase.specs.declared.places.Places.{Places}
use Rattle.qm_phrase.specs.declared.prefix_terms.PrefixTerms.{PrefixTerms}
use Rattle.qm_phrase.specs.declared.prefix_terms.PrefixCounts.{PrefixCounts}
use Rattle.qm_phrase.specs.declared.terms.TermPlaces.{TermPlaces}

-- no document from one number to below another has a count
abbrev pub IsBareOf : PrefixLists → ℕ → ℕ → Type 0
IsBareOf t low high = (d : ℕ) → low ≤ d → d < high → prefix_count t d ≡ 0

-- Lists that have gone on to a target: from there on they count as before, and below it they count
-- nothing.
pub record HaveGoneOn (target : ℕ) (old new : PrefixLists) : Type 0 where
  pub behind : (d : ℕ) → d < target → prefix_count new d ≡ 0
  pub counts : (d : ℕ) → target ≤ d → prefix_count new d ≡ prefix_count old d
  pub full : (d : ℕ) → target ≤ d → full_count new d ≡ full_count old d
  pub several : has_several new ≡ has_several old

-- the counts of a document, of which the first is not 0
pub record ArePrefixCounts (t : PrefixLists) (d : ℕ) (counts : PrefixCounts) : Type 0 where
  pub some : 0 < counts.prefix
  pub prefix : counts.prefix ≡ held_count (prefix_count t d)
  pub full : counts.full ≡ held_count (full_count t d)

-- an answer for one document: its counts; or that it has none, and no document before a bound has
abbrev pub IsPrefixLook : ℕ → PrefixLists → Result PrefixCounts ℕ → Type 0
IsPrefixLook d t (Ok counts) = ArePrefixCounts t d counts
IsPrefixLook d t (Err bound) = (d < bound) × (bound ≤ TERMINATED) × IsBareOf t d bound

-- an answer to a search: the first document from a target on that has a count; or the end
pub record IsFirstPrefix (target : ℕ) (t : PrefixLists) (found : ℕ × PrefixCounts) : Type 0 where
  pub bare : IsBareOf t target found.0
  pub within : (target ≤ found.0) × (found.0 ≤ TERMINATED)
  pub here : found.0 < TERMINATED → ArePrefixCounts t found.0 found.1

module _ {P : Type 0} (D : Ghosts P) where
  -- a buffer for the places that all full terms have: shifted as the first, with room for its places
  pub record IsCommonBuffer (t : TermPlaces P) (common : Places) : Type 0 where
    pub shift : shift_of common ≡ (first_term (terms_in t)).0
    pub room : (slice_index_or (bounds D t.members.items) (first_term (terms_in t)).1 no_limits).room ≤ room_of common

  -- the terms of a phrase prefix, each a cursor, with room for their positions
  pub record ArePrefixTerms (s : PrefixTerms P) : Type 0 where
    pub full : AreTerms D s.full
    pub common : IsCommonBuffer s.full s.common
    pub suffixes : AreSuffixes D s.suffixes.items s.suffix_places
    pub shift : shift_of s.suffix_places ≤ 4294967295

  -- what they hold
  abbrev pub lists_of : PrefixTerms P → PrefixLists
  lists_of s = record {
    full_shifts = shifts_in s.full;
    full = term_lists D s.full;
    suffix_shift = shift_of s.suffix_places;
    suffixes = suffix_lists D s.suffixes.items;
  }
