-- What the queries of a script's lines are asked under.
use Rattle.std.specs.Prelude.{◌≡◌, ℕ, None, Some}
use Rattle.qm_postings.specs.Statistics.{Searched}
use Rattle.qm_postings.specs.contracts.searcher.SearcherBm25StatisticsProvider.TheImpl.{ghosts}
use Rattle.qm_query.specs.EnableScoring.{provider_of, schema_of}
use Rattle.qm_query.specs.Query.{Query}
use Rattle.qm_query.specs.QueryScorers.{IsQueryRefusal, QueryFits}
use Rattle.qm_query.specs.QueryTree as under
use Rattle.qm_query.specs.TopDocs.{FitsFor, IsRefusalFor}
use Rattle.qm_query.specs.declared.enable_scoring.EnableScoring.{EnableScoring}
use Rattle.qm_schema.specs.declared.error.QueryError.{QueryError}
use Rattle.qm_schema.specs.declared.error.QueryError.TheVariants.{ScoreBound}
use Rattle.qm_script.specs.ScriptSegments.{Script}
use Rattle.qm_script.specs.State.{State}
use Rattle.qm_script.specs.Weights.{IsWeighedBy}
use Rattle.qm_weight.specs.Tree.{Tree}

-- documents alone are wanted, of the fields that a script's documents have
pub record IsForDocuments (s : Script) (enable : EnableScoring Searched) : Type 0 where
  pub fields : schema_of enable ≡ s.current.schema
  pub scores : provider_of enable ≡ None

-- scores are wanted, by a searcher that weighs words as the script says
pub record IsForScores (s : State) (searched : Searched) (enable : EnableScoring Searched) : Type 0 where
  pub fields : schema_of enable ≡ s.documents.current.schema
  pub scores : provider_of enable ≡ Some searched
  pub weights : IsWeighedBy s.weights searched

-- the tree of a query under these
abbrev pub tree_of : EnableScoring Searched → Query → Tree
tree_of enable query = under.query_tree ghosts enable query

-- why what the query lists may be refused: as its weight, or as the scorer of its tree
abbrev pub IsListingRefusal : EnableScoring Searched → Query → QueryError → Type 0
IsListingRefusal enable query error = IsQueryRefusal ghosts enable query 1 error

-- what the words of each leaf weigh together is a score, and so is at each node of its tree what it may score
abbrev pub IsWithinScores : EnableScoring Searched → Query → Type 0
IsWithinScores enable query = QueryFits ghosts enable query

-- the same two where so many of the best are wanted: of none, only what the words of each leaf weigh counts
abbrev pub IsBestRefusal : ℕ → EnableScoring Searched → Query → QueryError → Type 0
IsBestRefusal count enable query error = IsRefusalFor ghosts enable query count error

abbrev pub IsWithinBest : ℕ → EnableScoring Searched → Query → Type 0
IsWithinBest count enable query = FitsFor ghosts enable query count

-- why it is refused where its fields serve and there is memory: its scores don't fit what is wanted of it
pub record IsScoreRefusal (Fits : Query → Type 0) (query : Query) (error : QueryError) : Type 0 where
  pub error_is : error ≡ ScoreBound
  pub past : ¬ Fits query
