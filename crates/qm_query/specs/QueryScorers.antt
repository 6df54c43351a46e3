-- What the scorer of a query lists over a segment, and when there is none.
use Rattle.std.specs.Prelude.{ℕ, ◌⊎◌, IsTrue}
use Rattle.qm_docset.specs.declared.docset.DocSet.{Ghosts as Cursors}
use Rattle.qm_postings.specs.Segment.{Segment}
use Rattle.qm_postings.specs.declared.statistics.Bm25StatisticsProvider.{Ghosts}
use Rattle.qm_query.specs.EnableScoring.{is_enabled}
use Rattle.qm_query.specs.Query.{Query}
use Rattle.qm_query.specs.QueryTree.{query_tree}
use Rattle.qm_query.specs.WeightRefusals.{IsWeightRefusal}
use Rattle.qm_query.specs.declared.enable_scoring.EnableScoring.{EnableScoring}
use Rattle.qm_schema.specs.declared.error.QueryError.{QueryError}
use Rattle.qm_weight.specs.Scorers.{IsRefusalOf, IsScorerOf}
use Rattle.qm_weight.specs.Tree.{Fits, LeavesFit, Tree, is_scoring}

-- a placed cursor over what the query means in the segment at a boost
abbrev pub IsQueryScorer : {T P : Type 0} → Cursors T → Ghosts P → EnableScoring P → Query → ℕ → Segment → T → Type 0
IsQueryScorer D S under query b segment s = IsScorerOf D (query_tree S under query) b segment s

-- where scoring is on, it is on in every node of a tree, so that what the tree scores is known
abbrev pub ScoresIfEnabled : {P : Type 0} → EnableScoring P → Tree → Type 0
ScoresIfEnabled under tree = IsTrue (is_enabled under) → IsTrue (is_scoring tree)

-- with scoring on, it is on in every node of the query's tree, so that its scorer lists scores
abbrev pub IsScoringIfEnabled : {P : Type 0} → Ghosts P → EnableScoring P → Query → Type 0
IsScoringIfEnabled S under query = ScoresIfEnabled under (query_tree S under query)

-- what each leaf of a tree weighs is a score, and so is at each node what it may score at a boost of 1
pub record FitsAtOne (tree : Tree) : Type 0 where
  pub leaves : LeavesFit tree
  pub nodes : Fits tree 1

-- .. in that of a query
abbrev pub QueryFits : {P : Type 0} → Ghosts P → EnableScoring P → Query → Type 0
QueryFits S under query = FitsAtOne (query_tree S under query)

-- a refusal of the query's weight, or of the scorer of its tree at a boost
abbrev pub IsQueryRefusal : {P : Type 0} → Ghosts P → EnableScoring P → Query → ℕ → QueryError → Type 0
IsQueryRefusal S under query b error = IsWeightRefusal S under query error ⊎ IsRefusalOf (query_tree S under query) b error
