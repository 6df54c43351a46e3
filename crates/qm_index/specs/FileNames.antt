-- The names of the files of an index, each of which has a number of its own.
use Rattle.std.specs.Prelude.{◌≡◌, ◌⊎◌, ℕ, ◌+◌, ◌<◌, ◌≤◌, List, [], ◌∷◌, ◌++◌}
use Rattle.std.specs.Fmt.{decimal}
use Rattle.qm_folder.specs.Names.{Name}

-- how the name of a segment's file ends, and that of a deletions file: `.seg` and `.del`
abbrev pub segment_ending : List ℕ
segment_ending = 46 ∷ 115 ∷ 101 ∷ 103 ∷ []

abbrev pub deletions_ending : List ℕ
deletions_ending = 46 ∷ 100 ∷ 101 ∷ 108 ∷ []

-- the name of the segment's file of a number: its decimal digits in front
unfoldable pub segment_name : ℕ → Name
segment_name number = decimal number ++ segment_ending

-- that of the deletions file of a number
unfoldable pub deletions_name : ℕ → Name
deletions_name number = decimal number ++ deletions_ending

-- a name is that of the file of a number, of whatever kind
abbrev pub IsNameOf : ℕ → Name → Type 0
IsNameOf number n = (n ≡ segment_name number) ⊎ (n ≡ deletions_name number)

-- a name is that of the file of a number below another
pub record IsNameBelow (next : ℕ) (n : Name) : Type 0 where
  pub number : ℕ
  pub below : number < next
  pub of : IsNameOf number n

-- names of files whose numbers ascend, from one number on, and below another
abbrev pub AreNumbered : ℕ → List Name → ℕ → Type 0
AreNumbered low [] next = low ≤ next
AreNumbered low (n ∷ ns) next = (number : ℕ) × (low ≤ number) × IsNameOf number n × AreNumbered (number + 1) ns next
