-- The field of a phrase's terms, once these are taken without their offsets.
use Rattle.std.proofs.Common.{◌≡◌, ℕ, List, All, sym, subst}
use Rattle.std.proofs.lemmas.List.Elements.{All-map}
use Rattle.qm_query.specs.Offsets.{AreOfField, bare_terms}
use Rattle.qm_schema.specs.Term.{TermKey}

pub taken-of_field : (field : ℕ) (terms : List (ℕ × TermKey)) (taken : List TermKey) →
    taken ≡ bare_terms terms → AreOfField field terms → All (λ t. t.field ≡ field) taken
taken-of_field field terms taken are of_field =
    subst (All (λ t. t.field ≡ field)) (sym are) (All-map (λ t. t.field ≡ field) (λ t. t.1) terms of_field)
