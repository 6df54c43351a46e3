-- The rows of two lists, joined, where one of them has no more.
use Rattle.std.proofs.Common.{◌≡◌, List, [], ◌∷◌, ◌++◌, ◌⊎◌, refl, ap, sym, ◌∙◌, inl, inr}
use Rattle.std.proofs.lemmas.List.{append-nil}
use Rattle.qm_postings.specs.Rows.{Row}
use Rattle.qm_merge.specs.JoinedRows.{joined_rows}

pub joined-rest : (rs us : List Row) → (rs ≡ []) ⊎ (us ≡ []) → rs ++ us ≡ joined_rows rs us
joined-rest rs us (inl none) = ap (λ l. l ++ us) none ∙ ap (λ l. joined_rows l us) (sym none)
joined-rest rs us (inr none) = ap (λ l. rs ++ l) none ∙ append-nil rs ∙ alone rs ∙ ap (joined_rows rs) (sym none)
  where
    alone : (rs : List Row) → rs ≡ joined_rows rs []
    alone [] = refl
    alone (r ∷ rs) = refl
