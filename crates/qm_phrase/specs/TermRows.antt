-- The terms of a phrase, each of which goes through the positions of a member; terms that are equal share one.
use Rattle.std.specs.Prelude.{◌≡◌, ℕ, ◌<◌, ◌==◌, Bool, true, List, [], All, map, slice_index_or}
use Rattle.std.specs.Global.{Vec}
use Rattle.std.specs.List.{list_any}
use Rattle.qm_phrase.specs.Places.{left_in}
use Rattle.qm_phrase.specs.declared.term_row.TermRow.{TermRow}

-- how far a term is shifted, and the number of its member
abbrev pub term_of : TermRow → ℕ × ℕ
term_of row = (row.row.shift, row.member)

abbrev pub terms_of : List TermRow → List (ℕ × ℕ)
terms_of rows = map term_of rows

-- the first of them
abbrev pub first_term : List (ℕ × ℕ) → ℕ × ℕ
first_term terms = slice_index_or terms 0 (0, 0)

-- each has a member, of so many
abbrev pub AreInside : ℕ → List (ℕ × ℕ) → Type 0
AreInside count terms = All (λ t. t.1 < count) terms

-- a member is that of some term
abbrev pub is_used : List (ℕ × ℕ) → ℕ → Bool
is_used terms k = list_any (λ t. t.1 == k) terms

-- so is each of so many
abbrev pub AreUsed : ℕ → List (ℕ × ℕ) → Type 0
AreUsed count terms = (k : ℕ) → k < count → is_used terms k ≡ true

-- what each term has, of what the members have
abbrev pub each_of : {X : Type 0} → List (List X) → List (ℕ × ℕ) → List (List X)
each_of members terms = map (λ t. slice_index_or members t.1 []) terms

-- the positions that each member has
abbrev pub member_positions : List (Vec ℕ) → List (List ℕ)
member_positions positions = map (λ v. v.items) positions

-- the places that no count has passed yet
abbrev pub term_left : List (Vec ℕ) → TermRow → List ℕ
term_left positions row = left_in (slice_index_or (member_positions positions) row.member []) row.row

-- the same of each term
abbrev pub rows_left : List (Vec ℕ) → List TermRow → List (List ℕ)
rows_left positions rows = map (term_left positions) rows
