-- What a query of the language finds in an index.
use Rattle.std.specs.Prelude.{◌≡◌, ◌⊎◌, ℕ, ℤ, List, [], Ok, Option, Some, None, false, take}
use Rattle.qm_index.specs.Indexed.{Indexed, IsMerged, IsRefreshed, all_segments, open_parts}
use Rattle.qm_index.specs.declared.index.Index.{Index}
use Rattle.qm_postings.specs.Statistics.{Searched, with_segments}
use Rattle.qm_query.specs.EnableScoring.{provider_of, schema_of}
use Rattle.qm_query.specs.Query.{Query}
use Rattle.qm_query.specs.declared.enable_scoring.EnableScoring.{EnableScoring}
use Rattle.qm_script.specs.Asked.{asked}
use Rattle.qm_script.specs.Found.{found_alive, found_best, found_from}
use Rattle.qm_script.specs.Prefixes.{has_failing}
use Rattle.qm_script.specs.Reached.{is_reached}
use Rattle.qm_script.specs.Script as language

-- an index can be searched for a query: all its documents are built, and the open segment is one part at most, or each
-- prefix begins at most as many terms of its parts as it is expanded to
abbrev pub IsReadyFor : language.Query → Index → Type 0
IsReadyFor q i = IsRefreshed i × (IsMerged i ⊎ (has_failing (is_reached (open_parts i)) q ≡ false))

-- So many documents match that weren't deleted, of all segments.
pub record IsCountIn (q : language.Query) (s : Indexed) (n : ℕ) : Type 0 where
  -- the query that the language says
  pub query : Query
  pub built : asked q ≡ Ok query
  -- documents alone are wanted
  pub enable : EnableScoring Searched
  pub fields : schema_of enable ≡ s.current.schema
  pub scores : provider_of enable ≡ None
  pub count : n ≡ found_alive enable query (all_segments s)

-- The best of them, at most so many, each with its number and its score, by what an index says of words.
pub record AreBestIn (q : language.Query) (s : Indexed) (words : Searched) (limit : ℕ) (hits : List (ℕ × Option ℤ)) : Type 0 where
  pub query : Query
  pub built : asked q ≡ Ok query
  pub enable : EnableScoring Searched
  pub fields : schema_of enable ≡ s.current.schema
  -- scores are wanted, by a searcher that says of words what the index does
  pub searched : Searched
  pub scores : provider_of enable ≡ Some searched
  pub weighed : with_segments searched [] ≡ words
  pub best : hits ≡ found_best limit enable query (all_segments s)

-- The documents that match and weren't deleted, by number, from a number on, at most so many.
pub record IsPageIn (q : language.Query) (s : Indexed) (first limit : ℕ) (documents : List ℕ) : Type 0 where
  pub query : Query
  pub built : asked q ≡ Ok query
  -- documents alone are wanted
  pub enable : EnableScoring Searched
  pub fields : schema_of enable ≡ s.current.schema
  pub scores : provider_of enable ≡ None
  pub page : documents ≡ take limit (found_from first enable query (all_segments s))
