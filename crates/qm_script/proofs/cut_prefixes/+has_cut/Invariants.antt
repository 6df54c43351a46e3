-- No clause, and no disjunct, that was looked at has a prefix.
use Rattle.std.proofs.Common.{◌≡◌, drop, map}
use Rattle.qm_script.specs.Prefixes.{have_clauses_failing, have_queries_failing}
use Rattle.qm_index.specs.Parts.{segments_of}
use Rattle.qm_script.specs.Reached.{is_reached}
use Rattle.qm_script.specs.Script.{as_clauses, queries_of}
use Rattle.qm_script.specs.Spelled.{spelled_clause, query_of}
use Rattle.qm_script.proofs.cut_prefixes.+has_cut.Given as goal

abbrev pub decreases-has_cut : goal.decreases-has_cut
decreases-has_cut l = goal.size-has_cut l

abbrev pub invariant-loop-inner : goal.invariant-loop-inner
invariant-loop-inner l =
    have_clauses_failing (is_reached (segments_of l.segments)) (as_clauses (drop l.inner-index (map spelled_clause l.inner-items))) ≡ have_clauses_failing (is_reached (segments_of l.segments)) (as_clauses (map spelled_clause l.inner-items))

abbrev pub invariant-loop-inner-2 : goal.invariant-loop-inner-2
invariant-loop-inner-2 l =
    have_queries_failing (is_reached (segments_of l.segments)) (queries_of (drop l.inner-index (map query_of l.inner-items))) ≡ have_queries_failing (is_reached (segments_of l.segments)) (queries_of (map query_of l.inner-items))
