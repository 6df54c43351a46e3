-- Positions of each posting or of none: what tells whether there are any.
use Rattle.std.proofs.Common.{◌≡◌, ◌⊎◌, ℕ, ◌<◌, Bool, true, false, List, [], ◌∷◌, length, refl, ap, arith, inl, inr}
use Rattle.std.specs.Prelude.{All}
use Rattle.std.proofs.lemmas.List.{length-take}
use Rattle.std.proofs.lemmas.List.Elements.{All-head}
use Rattle.qm_postings.specs.Rows.{ArePlaces, IsRow, Row}
use Rattle.qm_postings.specs.RowsSoFar.{IsLaid}
use Rattle.qm_postings.specs.Segment.{keeps_positions}
use Rattle.qm_schema.specs.Schema.{FieldFacts}

-- where there are some, they are those of each posting
pub placed_where_some : (fs ps : List ℕ) → (ps ≡ []) ⊎ ArePlaces fs ps → 0 < length ps → ArePlaces fs ps
placed_where_some fs ps (inl none) some = absurd (omega (arith, some, ap length none))
placed_where_some fs ps (inr are) some = are

-- where each posting has its own, there are some
pub some_placed : (fs ps : List ℕ) → 0 < length fs → All (λ f. 0 < f) fs → ArePlaces fs ps → 0 < length ps
some_placed [] ps some held are = absurd (omega (arith, some))
some_placed (f ∷ fs) ps some held are = omega (arith, are.0, length-take f ps, All-head (λ f. 0 < f) f fs held)

-- a row of a segment is laid
pub row_laid : (schema : List FieldFacts) (count : ℕ) (r : Row) → IsRow schema count r → IsLaid r
row_laid schema count r is = record { ascending = is.ascending; paired = is.paired; placed = placed (keeps_positions schema r.term.field) is.places is.no_places }
  where
    placed : (keeps : Bool) → (keeps ≡ true → ArePlaces r.frequencies r.positions) → (keeps ≡ false → r.positions ≡ []) →
        (r.positions ≡ []) ⊎ ArePlaces r.frequencies r.positions
    placed true places none = inr (places refl)
    placed false places none = inl (none refl)
