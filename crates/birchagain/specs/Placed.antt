-- Words with places of the caller's own: both stand one behind the other, and each word ends where one row says, its
-- places where another does.
use Rattle.std.specs.Prelude.{◌≢◌, ◌≤◌, ℕ, List, [], ◌∷◌, length}
use Rattle.std.specs.List.{slice_range}
use Rattle.qm_postings.specs.Document.{Draft, Given}
use Rattle.qm_postings.specs.Segment.{Segment}
use Rattle.birchagain.specs.Adding.{IsAddRefusal}
use Rattle.birchagain.specs.Body.{body_field, body_term}
use Rattle.birchagain.specs.CutWords.{IsCutRefusal, IsTextBetween, bytes_between}
use Rattle.birchagain.specs.declared.refusal.Refusal.{Refusal}
use Rattle.birchagain.specs.declared.refusal.Refusal.TheVariants.{UnevenRows}

-- the word between two places of the bytes, with what stands between two places of the numbers
abbrev pub placed_word : ℕ → ℕ → ℕ → ℕ → List ℕ → List ℕ → Given
placed_word start end first last bytes places =
    record { term = body_term (bytes_between start end bytes); positions = slice_range places first last }

-- the words from a place of the bytes on, each with its places, which stand from a place of the numbers on
abbrev pub placed_from : ℕ → ℕ → List ℕ → List ℕ → List ℕ → List ℕ → List Given
placed_from start first (end ∷ ends) (last ∷ lasts) bytes places =
    placed_word start end first last bytes places ∷ placed_from end last ends lasts bytes places
placed_from start first _ _ bytes places = []

-- a document of these words with their places, and of this length id
unfoldable pub placed_draft : List ℕ → List ℕ → List ℕ → List ℕ → ℕ → Draft
placed_draft ends place_ends bytes places id =
    record { terms = placed_from 0 0 ends place_ends bytes places; lengths = (body_field, id) ∷ [] }

-- The bytes from one place to another are a word, which may have spaces, and its places stand within theirs.
pub record IsPlacedWord (start end first last : ℕ) (bytes places : List ℕ) : Type 0 where
  pub text : IsTextBetween start end bytes
  pub in_order : first ≤ last
  pub within : last ≤ length places

-- each of those from two places on is one, and there are as many as there are rows of places
abbrev pub ArePlaced : ℕ → ℕ → List ℕ → List ℕ → List ℕ → List ℕ → Type 0
ArePlaced start first [] [] bytes places = Unit {0}
ArePlaced start first (end ∷ ends) (last ∷ lasts) bytes places =
    IsPlacedWord start end first last bytes places × ArePlaced end last ends lasts bytes places
ArePlaced start first _ _ bytes places = ⊥

-- there is not an end of places for each end of a word
abbrev pub AreUneven : List ℕ → List ℕ → Type 0
AreUneven ends place_ends = length place_ends ≢ length ends

-- why they may not be made a document: their rows are uneven, or they are no placed words, or there is no memory
abbrev pub IsRowsRefusal : List ℕ → List ℕ → List ℕ → List ℕ → Refusal → Type 0
IsRowsRefusal ends place_ends bytes places UnevenRows = AreUneven ends place_ends
IsRowsRefusal ends place_ends bytes places refusal = IsCutRefusal (ArePlaced 0 0 ends place_ends bytes places) refusal

-- why they may not be added as one of this length id: for the same, or as the segment refuses the document
abbrev pub IsPlacedRefusal : List ℕ → List ℕ → List ℕ → List ℕ → ℕ → Segment → Refusal → Type 0
IsPlacedRefusal ends place_ends bytes places id s UnevenRows = AreUneven ends place_ends
IsPlacedRefusal ends place_ends bytes places id s refusal =
    IsAddRefusal (ArePlaced 0 0 ends place_ends bytes places) s (placed_draft ends place_ends bytes places id) refusal
