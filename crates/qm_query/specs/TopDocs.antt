-- The best of all documents that a query finds in the segments of a searcher.
use Rattle.std.specs.Prelude.{◌≡◌, ◌⊎◌, ℕ, zero, suc, ℤ, pos, ◌<ℤ◌, ◌≤◌, List, [], ◌∷◌, ◌++◌, All, length, map}
use Rattle.std.specs.List.{sum_by}
use Rattle.std.specs.declared.cmp.Ordering.TheVariants.{Less}
use Rattle.qm_docset.specs.Entry.{FirstAndOthers}
use Rattle.qm_postings.specs.Address.{address_cmp}
use Rattle.qm_postings.specs.Reading.{Reader}
use Rattle.qm_postings.specs.Segment.{Segment, alive_documents}
use Rattle.qm_postings.specs.Statistics.{Searched}
use Rattle.qm_postings.specs.declared.address.DocAddress.{DocAddress}
use Rattle.qm_postings.specs.declared.statistics.Bm25StatisticsProvider.{Ghosts}
use Rattle.qm_schema.specs.declared.error.QueryError.{QueryError}
use Rattle.qm_weight.specs.Best.{best}
use Rattle.qm_weight.specs.Counts.{alive_matching}
use Rattle.qm_weight.specs.Tree.{LeavesFit, Tree, matching, score}
use Rattle.qm_query.specs.Query.{Query}
use Rattle.qm_query.specs.QueryScorers.{IsQueryRefusal, QueryFits}
use Rattle.qm_query.specs.QueryTree.{query_tree}
use Rattle.qm_query.specs.Searches.{scoring_by}
use Rattle.qm_query.specs.WeightRefusals.{IsWeightRefusal}
use Rattle.qm_query.specs.declared.enable_scoring.EnableScoring.{EnableScoring}

-- ---- what is found, by address

-- a document of the segment of that number, and its score
abbrev pub addressed : ℕ → Tree → Segment → ℕ → DocAddress × ℤ
addressed ord tree segment d = (record { segment_ord = ord; doc_id = d }, pos (score tree 1 segment d))

-- the documents of a segment that a tree matches and that were not deleted, each with its score
abbrev pub alive_matches : ℕ → Tree → Segment → List (DocAddress × ℤ)
alive_matches ord tree segment = map (addressed ord tree segment) (alive_matching tree segment)

-- those of segment after segment, which are numbered from that number on
abbrev pub alive_matches_from : ℕ → Tree → List Reader → List (DocAddress × ℤ)
alive_matches_from ord tree [] = []
alive_matches_from ord tree (reader ∷ readers) = alive_matches ord tree reader.segment ++ alive_matches_from (suc ord) tree readers

-- all documents that the query finds and that were not deleted, each with its score by what a provider says that
-- words weigh, by address
abbrev pub all_found_by : {P : Type 0} → Ghosts P → P → Searched → Query → List (DocAddress × ℤ)
all_found_by S provider searcher query = alive_matches_from 0 (query_tree S (scoring_by provider searcher) query) searcher.segments

-- the same where the searcher says it
abbrev pub all_found : Ghosts Searched → Searched → Query → List (DocAddress × ℤ)
all_found S searcher query = all_found_by S searcher searcher query

-- how many documents of all segments a tree matches, deleted ones too
abbrev pub matching_in : Tree → List Reader → ℕ
matching_in tree segments = sum_by (λ reader. length (matching tree reader.segment)) segments

-- each comes before all behind it by address
abbrev pub AreByAddress : List (DocAddress × ℤ) → Type 0
AreByAddress [] = Unit {0}
AreByAddress (d ∷ ds) = FirstAndOthers (All (λ e. address_cmp d.0 e.0 ≡ Less) ds) (AreByAddress ds)

-- ---- the best of them

-- as an answer has it: the score before the address
abbrev pub score_first : DocAddress × ℤ → ℤ × DocAddress
score_first d = (d.1, d.0)

-- one stands before another in an answer: it scores more, or as much and comes first by address
abbrev pub StandsBefore : ℤ × DocAddress → ℤ × DocAddress → Type 0
StandsBefore d e = (e.0 <ℤ d.0) ⊎ ((e.0 ≡ d.0) × (address_cmp d.1 e.1 ≡ Less))

-- each stands before all behind it
abbrev pub AreInOrder : List (ℤ × DocAddress) → Type 0
AreInOrder [] = Unit {0}
AreInOrder (d ∷ ds) = FirstAndOthers (All (StandsBefore d) ds) (AreInOrder ds)

-- These are the best k: by score downwards, and where the scores are the same by address upwards. A provider says
-- what words weigh.
pub record AreTopDocsBy {P : Type 0} (S : Ghosts P) (provider : P) (searcher : Searched) (query : Query)
    (k : ℕ) (found : List (ℤ × DocAddress)) : Type 0 where
  pub are : found ≡ map score_first (best k (all_found_by S provider searcher query))

-- the same where the searcher says it
abbrev pub AreTopDocs : Ghosts Searched → Searched → Query → ℕ → List (ℤ × DocAddress) → Type 0
AreTopDocs S searcher query k found = AreTopDocsBy S searcher searcher query k found

-- To find so many documents no fewer were scored, and no more than the query matches.
pub record IsScoredFor {P : Type 0} (S : Ghosts P) (provider : P) (searcher : Searched) (query : Query) (found scored : ℕ) : Type 0 where
  pub at_least : found ≤ scored
  pub at_most : scored ≤ matching_in (query_tree S (scoring_by provider searcher) query) searcher.segments

-- the same of a tree
pub record IsScoredIn (tree : Tree) (segments : List Reader) (found scored : ℕ) : Type 0 where
  pub at_least : found ≤ scored
  pub at_most : scored ≤ matching_in tree segments

-- What fits where so many are wanted: of none what the words of each leaf weigh, which is a score, and of some
-- the query.
abbrev pub FitsFor : {P : Type 0} → Ghosts P → EnableScoring P → Query → ℕ → Type 0
FitsFor S under query zero = LeavesFit (query_tree S under query)
FitsFor S under query (suc k) = QueryFits S under query

-- Where none is wanted, the query's weight is refused so; where some are, that or the scorer of its tree.
abbrev pub IsRefusalFor : {P : Type 0} → Ghosts P → EnableScoring P → Query → ℕ → QueryError → Type 0
IsRefusalFor S under query zero error = IsWeightRefusal S under query error
IsRefusalFor S under query (suc k) error = IsQueryRefusal S under query 1 error

-- a search for so many, which wants scores by what a provider says, is refused so
pub record IsTopDocsRefusalBy {P : Type 0} (S : Ghosts P) (provider : P) (searcher : Searched) (query : Query) (k : ℕ) (error : QueryError) : Type 0 where
  pub refused : IsRefusalFor S (scoring_by provider searcher) query k error

-- the same where the searcher says it
abbrev pub IsTopDocsRefusal : Ghosts Searched → Searched → Query → ℕ → QueryError → Type 0
IsTopDocsRefusal S searcher query k error = IsTopDocsRefusalBy S searcher searcher query k error

-- the same of a tree
abbrev pub AreBestOf : ℕ → Tree → List Reader → List (ℤ × DocAddress) → Type 0
AreBestOf k tree segments found = found ≡ map score_first (best k (alive_matches_from 0 tree segments))

-- how many documents of all segments were not deleted
abbrev pub alive_in : List Reader → ℕ
alive_in segments = sum_by (λ reader. length (alive_documents reader.segment)) segments
