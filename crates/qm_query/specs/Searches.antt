-- What a query finds in all segments of a searcher, and what is said of one document of them.
use Rattle.std.specs.Prelude.{◌≡◌, ℕ, ℤ, pos, List, Option, None, Some, Contains, slice_get}
use Rattle.std.specs.List.{sum_by}
use denote.Ref.{Bor}
use Rattle.qm_postings.specs.Reading.{Reader}
use Rattle.qm_postings.specs.Segment.{Segment}
use Rattle.qm_postings.specs.Statistics.{Searched}
use Rattle.qm_postings.specs.declared.address.DocAddress.{DocAddress}
use Rattle.qm_postings.specs.declared.statistics.Bm25StatisticsProvider.{Ghosts}
use Rattle.qm_schema.specs.declared.error.QueryError.{QueryError}
use Rattle.qm_schema.specs.declared.error.QueryError.TheVariants.{DoesNotMatch, NoSuchSegment}
use Rattle.qm_weight.specs.Counts.{alive_count}
use Rattle.qm_weight.specs.Tree.{Tree, matching, score}
use Rattle.qm_query.specs.Query.{Query}
use Rattle.qm_query.specs.QueryScorers.{IsQueryRefusal}
use Rattle.qm_query.specs.QueryTree.{query_tree}
use Rattle.qm_query.specs.declared.enable_scoring.EnableScoring.{EnableScoring}
use Rattle.qm_query.specs.declared.enable_scoring.EnableScoring.TheVariants.{Enabled, Disabled}

-- ---- what a query is asked of a searcher under

-- a reference to a value, wherever this lies
abbrev pub lent : {X : Type 0} → X → Bor X
lent x = record { ref_ptr = (0, 0); now = x }

-- scores are wanted, by the weights that a provider gives
abbrev pub scoring_by : {P : Type 0} → P → Searched → EnableScoring P
scoring_by provider searcher = Enabled (lent searcher) (lent provider)

-- scores are wanted, by the weights that the searcher gives
abbrev pub with_scores : Searched → EnableScoring Searched
with_scores searcher = scoring_by searcher searcher

-- the documents alone are wanted
abbrev pub without_scores : Searched → EnableScoring Searched
without_scores searcher = Disabled (lent searcher.schema) (Some (lent searcher))

-- ---- counts

-- how many documents of all segments a tree matches that were not deleted
abbrev pub count_in : Tree → List Reader → ℕ
count_in tree segments = sum_by (λ reader. alive_count tree reader.segment) segments

-- So many documents of all segments the query finds that were not deleted.
pub record IsCountOf (S : Ghosts Searched) (searcher : Searched) (query : Query) (count : ℕ) : Type 0 where
  pub is : count ≡ count_in (query_tree S (without_scores searcher) query) searcher.segments

-- The query's weight with scoring off is refused so, or the scorer of its tree.
pub record IsCountRefusal (S : Ghosts Searched) (searcher : Searched) (query : Query) (error : QueryError) : Type 0 where
  pub refused : IsQueryRefusal S (without_scores searcher) query 1 error

-- ---- explanations

-- The document of that number of the segment is one that the query finds, and this is its score.
pub record IsExplanationOf (S : Ghosts Searched) (searcher : Searched) (query : Query) (segment : Segment) (d : ℕ) (value : ℤ) : Type 0 where
  pub is_match : Contains (matching (query_tree S (with_scores searcher) query) segment) d
  pub is_score : value ≡ pos (score (query_tree S (with_scores searcher) query) 1 segment d)

-- the same in a segment that has to be there
abbrev pub IsExplainedIn : Ghosts Searched → Searched → Query → Option Reader → ℕ → ℤ → Type 0
IsExplainedIn S searcher query None d value = ⊥
IsExplainedIn S searcher query (Some reader) d value = IsExplanationOf S searcher query reader.segment d value

-- In a segment there is no explanation of a document that the query does not find there; nor where the query's
-- weight or the scorer of its tree is refused.
abbrev pub IsUnexplained : Ghosts Searched → Searched → Query → Segment → ℕ → QueryError → Type 0
IsUnexplained S searcher query segment d (NoSuchSegment n) = ⊥
IsUnexplained S searcher query segment d (DoesNotMatch e) = (e ≡ d) × ¬ Contains (matching (query_tree S (with_scores searcher) query) segment) d
IsUnexplained S searcher query segment d error = IsQueryRefusal S (with_scores searcher) query 1 error

-- there is no segment of that number; or else the document is not explained in the segment
abbrev pub IsUnexplainedIn : Ghosts Searched → Searched → Query → Option Reader → ℕ → ℕ → QueryError → Type 0
IsUnexplainedIn S searcher query None ord d error = error ≡ NoSuchSegment ord
IsUnexplainedIn S searcher query (Some reader) ord d error = IsUnexplained S searcher query reader.segment d error

-- ---- explanations by address

-- the segment of that number
abbrev pub reader_at : Searched → DocAddress → Option Reader
reader_at searcher address = slice_get searcher.segments address.segment_ord

-- the document at the address is one that the query finds, and this is its score
abbrev pub IsExplainedAt : Ghosts Searched → Searched → Query → DocAddress → ℤ → Type 0
IsExplainedAt S searcher query address value = IsExplainedIn S searcher query (reader_at searcher address) address.doc_id value

-- there is no such segment; or else the document at the address is not explained
abbrev pub IsUnexplainedAt : Ghosts Searched → Searched → Query → DocAddress → QueryError → Type 0
IsUnexplainedAt S searcher query address error = IsUnexplainedIn S searcher query (reader_at searcher address) address.segment_ord address.doc_id error
