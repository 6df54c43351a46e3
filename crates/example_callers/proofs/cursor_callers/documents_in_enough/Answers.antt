-- A gathered document is one of those that it was gathered of.
use Rattle.std.proofs.Common.{◌≡◌, ℕ, List, [], ◌∷◌, ap, map, refl, ◌∙◌}
use Rattle.qm_docset.specs.Entry.{Entry, documents}
use Rattle.qm_docset.specs.Gather.{gather, gathered, scored}
use Rattle.example_callers.specs.Found.{documents_in_enough}
use Rattle.example_callers.proofs.cursor_callers.documents_in_enough.Goals as goal

gathered-documents : (score : ℕ → ℕ) (ds : List ℕ) → documents (map (λ d. scored d (score d)) ds) ≡ ds
gathered-documents score [] = refl
gathered-documents score (d ∷ ds) = ap (λ xs. d ∷ xs) (gathered-documents score ds)

documents-gather : (minimum : ℕ) (combined : List ℕ → ℕ) (ess : List (List Entry)) → documents (gather minimum combined ess) ≡ documents_in_enough minimum ess
unfolding gather gathered
documents-gather minimum combined ess = gathered-documents _ _

pub returns : goal.returns
returns g c = c.in_ok-documents_left.ensures ∙ ap documents c.in_ok-enough.ensures.lists.entries ∙ documents-gather c.args.minimum _ _
