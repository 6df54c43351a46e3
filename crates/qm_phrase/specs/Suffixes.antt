-- The terms that begin with the prefix of a phrase prefix, in a row which is a tree: the middle of a row
-- is its root, and the rows on both sides of it are its branches.
use Rattle.std.specs.Prelude.{◌≡◌, ℕ, zero, suc, ◌/◌, ◌≤◌, List, ◌∷◌, ◌++◌, All, length, map}
use Rattle.qm_docset.specs.Entry.{Entry, Limits, head_document}
use Rattle.qm_docset.specs.declared.docset.DocSet.{Ghosts}
use Rattle.qm_phrase.specs.Places.{room_of}
use Rattle.qm_phrase.specs.declared.places.Places.{Places}
use Rattle.qm_phrase.specs.declared.suffixes.Suffix.{Suffix}

-- the postings of a term
abbrev pub postings_of_suffix : {P : Type 0} → Suffix P → P
postings_of_suffix s = s.postings

-- no term of a row has a document before this one, by what is known of it
abbrev pub NoneBefore : {P : Type 0} → ℕ → List (Suffix P) → Type 0
NoneBefore bound row = All (λ s. bound ≤ s.own_bound) row

-- So far down, each root knows a document before which no term of its row has any.
abbrev pub IsTreeTo : {P : Type 0} → ℕ → List (Suffix P) → Type 0
IsTreeTo zero row = Unit {0}
IsTreeTo {P} (suc depth) row = (left : List (Suffix P)) (root : Suffix P) (right : List (Suffix P)) → row ≡ left ++ (root ∷ right) →
    length left ≡ length row / 2 → NoneBefore root.least_bound row × IsTreeTo depth left × IsTreeTo depth right

-- the same all the way down
abbrev pub IsTree : {P : Type 0} → List (Suffix P) → Type 0
IsTree row = (depth : ℕ) → IsTreeTo depth row

module _ {P : Type 0} (D : Ghosts P) where
  -- what each of them has left
  abbrev pub suffix_lists : List (Suffix P) → List (List Entry)
  suffix_lists row = map (λ s. D.entries s.postings) row

  -- the limits of each
  abbrev pub suffix_bounds : List (Suffix P) → List Limits
  suffix_bounds row = map (λ s. D.limits s.postings) row

  -- a cursor with a document before which it has none
  pub record IsSuffix (s : Suffix P) : Type 0 where
    pub valid : D.valid s.postings
    pub bound : s.own_bound ≤ head_document (D.entries s.postings)

  -- terms each of which has room for its positions in one buffer
  abbrev pub FitIn : List (Suffix P) → Places → Type 0
  FitIn row places = All (λ s. (D.limits s.postings).room ≤ room_of places) row

  -- a tree of such terms
  pub record AreSuffixes (row : List (Suffix P)) (places : Places) : Type 0 where
    pub each : All IsSuffix row
    pub tree : IsTree row
    pub fit : FitIn row places
