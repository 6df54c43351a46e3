-- Which documents lists have; a set excludes those of its list.
use Rattle.std.specs.Prelude.{ℕ, ◌==◌, Bool, List}
use Rattle.std.specs.List.{list_all, list_any}
use Rattle.qm_docset.specs.Entry.{Entry}

-- whether a document is among entries
unfoldable pub has_document : List Entry → ℕ → Bool
has_document es d = list_any (λ e. e.document == d) es

-- whether a document is among the entries of one of several cursors
unfoldable pub some_has_document : List (List Entry) → ℕ → Bool
some_has_document ess d = list_any (λ es. has_document es d) ess

-- whether it is among those of all of them
unfoldable pub all_have_document : List (List Entry) → ℕ → Bool
all_have_document ess d = list_all (λ es. has_document es d) ess
