-- What a caller finds by a query in a segment.
use Rattle.std.specs.Prelude.{◌≡◌, ℕ, ℤ, IsTrue, List, map}
use Rattle.qm_postings.specs.Segment.{Segment}
use Rattle.qm_postings.specs.declared.statistics.Bm25StatisticsProvider.{Ghosts}
use Rattle.qm_query.specs.EnableScoring.{is_enabled}
use Rattle.qm_query.specs.Query.{Query}
use Rattle.qm_query.specs.QueryTree.{query_tree}
use Rattle.qm_query.specs.declared.enable_scoring.EnableScoring.{EnableScoring}
use Rattle.qm_weight.specs.Callers.{pairs}
use Rattle.qm_weight.specs.Tree.{list, matching}

-- the documents of a segment that a query matches, ascending
abbrev pub query_matching : {P : Type 0} → Ghosts P → EnableScoring P → Query → Segment → List ℕ
query_matching S under query segment = matching (query_tree S under query) segment

-- documents with scores: those that the query matches, and with scoring on what each scores there
pub record AreMatches {P : Type 0} (S : Ghosts P) (under : EnableScoring P) (query : Query) (segment : Segment) (found : List (ℕ × ℤ)) : Type 0 where
  pub documents : map (λ pair. pair.0) found ≡ query_matching S under query segment
  pub scores : IsTrue (is_enabled under) → found ≡ pairs (list (query_tree S under query) 1 segment)
