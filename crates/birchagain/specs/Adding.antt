-- Documents that are added by a text, or by words.
use Rattle.std.specs.Prelude.{ℕ, List, [], ◌∷◌, ◌++◌}
use Rattle.std.specs.List.{flat_map}
use Rattle.qm_index.specs.OpenDocuments.{IsDocumentRefusal}
use Rattle.qm_postings.specs.Document.{Draft}
use Rattle.qm_postings.specs.Segment.{Segment}
use Rattle.birchagain.specs.declared.refusal.Refusal.{Refusal}
use Rattle.birchagain.specs.declared.refusal.Refusal.TheVariants.{NotText, NotWords, Query}

-- words, each with a space behind it
abbrev pub spaced : List (List ℕ) → List ℕ
spaced words = flat_map (λ w. w ++ 32 ∷ []) words

-- why a document may be refused: as a segment refuses it, or because it is not what was to be handed over
abbrev pub IsAddRefusal : Type 0 → Segment → Draft → Refusal → Type 0
IsAddRefusal is segment draft (Query error) = IsDocumentRefusal segment draft error
IsAddRefusal is segment draft NotText = ¬ is
IsAddRefusal is segment draft NotWords = ¬ is
IsAddRefusal is segment draft refusal = ⊥
