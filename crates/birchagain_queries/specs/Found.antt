-- What a query finds in an index, by its text.
use Rattle.std.specs.Prelude.{◌≡◌, ℕ, List, None, Some, map}
use Rattle.qm_index.specs.Indexed.{indexed, statistics}
use Rattle.qm_index.specs.declared.index.Index.{Index}
use Rattle.qm_script.specs.Script.{Query}
use Rattle.qm_script.specs.Searching.{AreBestIn, IsCountIn, IsPageIn}
use Rattle.qm_script.specs.declared.searching.Hit.{Hit}
use Rattle.birchagain_queries.specs.Languages.{IsUnread, Says, language_of}
use Rattle.birchagain_queries.specs.declared.language.Language.{Language}
use Rattle.birchagain_queries.specs.declared.refusal.QueryRefusal.{QueryRefusal}
use Rattle.birchagain_queries.specs.declared.refusal.QueryRefusal.TheVariants as refusal

-- there is a language of that number, in which a text says a query
abbrev pub SaysBy : ℕ → List ℕ → Query → Type 0
SaysBy number text q = (language : Language) × (language_of number ≡ Some language) × Says language text q

-- so many documents match the query of a text that weren't deleted
abbrev pub IsCountOf : ℕ → List ℕ → Index → ℕ → Type 0
IsCountOf number text i n = (q : Query) × SaysBy number text q × IsCountIn q (indexed i) n

-- the best documents for the query of a text, at most so many
abbrev pub AreBestOf : ℕ → List ℕ → ℕ → Index → List Hit → Type 0
AreBestOf number text limit i hits =
    (q : Query) × SaysBy number text q × AreBestIn q (indexed i) (statistics i) limit (map (λ h. (h.document, Some h.score)) hits)

-- those of its documents from a number on, at most so many
abbrev pub IsPageOf : ℕ → List ℕ → ℕ → ℕ → Index → List ℕ → Type 0
IsPageOf number text first limit i documents = (q : Query) × SaysBy number text q × IsPageIn q (indexed i) first limit documents

-- Why the query of a text may not be answered: as the query layer refuses it, there is no such language, or the text says no
-- query in it.
abbrev pub IsQueryRefusal : ℕ → List ℕ → QueryRefusal → Type 0
IsQueryRefusal number text (refusal.Query error) = Unit {0}
IsQueryRefusal number text refusal.NoLanguage = language_of number ≡ None
IsQueryRefusal number text why = (language : Language) × (language_of number ≡ Some language) × IsUnread language text why
