-- A document of one term.
use Rattle.std.specs.Prelude.{ℕ, List, [], ◌∷◌}
use Rattle.qm_postings.specs.Document.{Draft}
use Rattle.qm_schema.specs.Term.{TermKey}

-- what a document is given that holds one term, at these positions, and whose field has this length id
abbrev pub placed_term : TermKey → List ℕ → ℕ → Draft
placed_term term positions id = record { terms = record { term = term; positions = positions } ∷ []; lengths = (term.field, id) ∷ [] }
