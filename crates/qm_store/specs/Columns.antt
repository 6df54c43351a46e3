-- The length ids of a segment as bytes: of each field that keeps lengths one for each document, field by field.
use Rattle.std.specs.Prelude.{ℕ, nat_le, if◌then◌else◌, List, [], ◌∷◌, Option, None, Some, drop, length, option_map, take}
use Rattle.qm_schema.specs.Schema.{FieldFacts}

-- the columns that some bytes are, of so many documents: one for each field, which has none where the field keeps no
-- lengths
abbrev pub columns_at : List FieldFacts → ℕ → List ℕ → Option (List (List ℕ))
columns_at [] count [] = Some []
columns_at [] count (b ∷ bs) = None
columns_at (f ∷ fs) count bs =
    let n = if f.lengths then count else 0 in
    if nat_le n (length bs) then option_map (λ columns. take n bs ∷ columns) (columns_at fs count (drop n bs)) else None
