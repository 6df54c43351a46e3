-- What serves a query: the segments of a script as they are, or narrowed for it.
use Rattle.std.specs.Prelude.{◌≡◌, ◌⊎◌, List, Ok, Option, None, Some, false}
use Rattle.std.specs.Global.{Box}
use Rattle.qm_index.specs.Indexed.{AreMerged, AreSearched}
use Rattle.qm_postings.specs.Reading.{Reader}
use Rattle.qm_postings.specs.Statistics.{Searched}
use Rattle.qm_query.specs.Query as built
use Rattle.qm_script.specs.Asked.{asked}
use Rattle.qm_script.specs.Narrowed.{AreNarrowed}
use Rattle.qm_script.specs.Prefixes.{has_failing}
use Rattle.qm_script.specs.Reached.{is_reached}
use Rattle.qm_script.specs.Script.{Query}
use Rattle.qm_script.specs.ScriptSegments.{IsReachedBy, IsWhole, Script, script}
use Rattle.qm_script.specs.declared.corpus.Corpus.{Corpus}

-- The readers of a script's segments: each prefix of a query begins at most as many terms of the parts of the open one as
-- it is expanded to.
pub record AreReached (q : Query) (s : Script) (readers : List Reader) : Type 0 where
  pub searched : AreSearched s readers
  pub reached : has_failing (is_reached searched.parts) q ≡ false

-- Readers of which a query finds what it finds in a script's segments: the open one is in one part at most, or each prefix
-- is expanded to all terms of its parts, or the terms alone are kept that the query asks for.
abbrev pub Serve : Query → Script → List Reader → Type 0
Serve q s readers = AreMerged s readers ⊎ (AreReached q s readers ⊎ AreNarrowed q s readers)

-- a searcher over a corpus's segments that were narrowed for a query, with their fields
pub record IsNarrowedFor (q : Query) (c : Corpus) (searcher : Searched) : Type 0 where
  pub segments : AreNarrowed q (script c) searcher.segments
  pub fields : searcher.schema ≡ (script c).current.schema

-- Where none was narrowed for a query, the segments serve it as they are: the open one has one part at most, or each
-- prefix begins at most as many terms of its parts as it is expanded to.
abbrev pub IsServed : Query → Corpus → Option (Box Searched) → Type 0
IsServed q c None = IsWhole c ⊎ IsReachedBy q c
IsServed q c (Some searcher) = IsNarrowedFor q c searcher.value

-- a query that is spelled so is built, and served
pub record ServesQuery (query : built.Query) (c : Corpus) (narrowed : Option (Box Searched)) : Type 0 where
  pub spelled : Query
  pub is_built : asked spelled ≡ Ok query
  pub served : IsServed spelled c narrowed
