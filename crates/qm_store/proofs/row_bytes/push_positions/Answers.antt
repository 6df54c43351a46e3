use Rattle.std.proofs.Common.{◌≡◌, ◌==◌, ◌++◌, List, ℕ, [], ◌∷◌, true, ap, append-nil, arith, length, refl, sym, ◌∙◌}
use Rattle.std.proofs.lemmas.Bool.{eqb-true}
use Rattle.qm_postings.specs.LentRow.{lent_row}
use Rattle.qm_store.specs.RowBytes.{places_bytes, places_part}
use Rattle.qm_store.proofs.RowsRead.{no-places}
use Rattle.qm_store.proofs.row_bytes.push_positions.Goals as goal

none-there : (xs : List ℕ) → (length xs == 0) ≡ true → xs ≡ []
none-there [] is = refl
none-there (x ∷ xs) is = absurd (omega (arith, eqb-true (length (x ∷ xs)) 0 is))

pub returns-else-not-is_empty : goal.returns-else-not-is_empty
unfolding places_part
returns-else-not-is_empty c =
    let r = lent_row c.args.row.now in
    let out = c.args.out.now.items in
    let none : r.positions ≡ [] = sym c.positions.ensures ∙ none-there c.positions.result.now (sym c.is_empty.ensures ∙ c.if-not-is_empty.false) in
    sym (append-nil out)
    ∙ ap (λ (l : List ℕ). out ++ l) (sym (no-places r.frequencies) ∙ ap (λ (ps : List ℕ). places_bytes r.frequencies ps) (sym none))
