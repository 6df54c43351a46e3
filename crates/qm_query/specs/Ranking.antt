-- Items in order, the least first, in whatever order they came.
use Rattle.std.specs.Prelude.{ℕ, if◌then◌else◌, List, [], ◌∷◌, take}
use Rattle.std.specs.List.{fold}
use Rattle.std.specs.Ordering.{is_lt}
use Rattle.std.specs.declared.cmp.Ordering.{Ordering}

module _ {X : Type 0} (cmp : X → X → Ordering) where
  -- an item among others that stand in order: before the first that is greater
  abbrev pub put : X → List X → List X
  put x [] = x ∷ []
  put x (y ∷ ys) = if is_lt (cmp x y) then x ∷ y ∷ ys else y ∷ put x ys

  -- items in order
  abbrev pub ranking : List X → List X
  ranking xs = fold (λ ranked x. put x ranked) [] xs

  -- the least so many of items that stand in order, and of one more
  abbrev pub ranked_with : ℕ → X → List X → List X
  ranked_with k x ranked = take k (put x ranked)
