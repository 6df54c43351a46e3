use Rattle.std.proofs.Common.{◌≡◌, ◌+◌, ◌-◌, ◌*◌, map}
use Rattle.qm_script.specs.Cursor.{words_left}
use Rattle.qm_script.specs.Script.{clause_at, many_at, query_at}
use Rattle.qm_script.specs.Spelled.{spelled_clause, query_of}
use Rattle.qm_script.proofs.Reading.{with_front}
use Rattle.qm_script.proofs.read_query.+reading.Given as goal

-- A query that is a level deeper is read by readers of ranks, one below another.
abbrev pub decreases-read_query : goal.decreases-read_query
decreases-read_query l = 6 * l.depth

abbrev pub decreases-read_form : goal.decreases-read_form
decreases-read_form l = 6 * l.depth + 5

abbrev pub decreases-read_behind_form : goal.decreases-read_behind_form
decreases-read_behind_form l = 6 * l.depth + 4

abbrev pub decreases-read_boolean : goal.decreases-read_boolean
decreases-read_boolean l = 6 * l.depth + 3

abbrev pub decreases-read_boost : goal.decreases-read_boost
decreases-read_boost l = 6 * l.depth + 3

abbrev pub decreases-read_constant : goal.decreases-read_constant
decreases-read_constant l = 6 * l.depth + 3

abbrev pub decreases-read_disjunction_max : goal.decreases-read_disjunction_max
decreases-read_disjunction_max l = 6 * l.depth + 3

abbrev pub decreases-read_clauses : goal.decreases-read_clauses
decreases-read_clauses l = 6 * l.depth + 2

abbrev pub decreases-read_disjuncts : goal.decreases-read_disjuncts
decreases-read_disjuncts l = 6 * l.depth + 2

abbrev pub decreases-read_clause : goal.decreases-read_clause
decreases-read_clause l = 6 * l.depth + 1

abbrev pub invariant-read_clauses-loop : goal.invariant-read_clauses-loop
invariant-read_clauses-loop l = with_front (map spelled_clause l.clauses.items) (many_at (clause_at (query_at l.depth)) (l.count - l.counter) (words_left l.words))
    ≡ many_at (clause_at (query_at l.depth)) l.count (words_left l.initial.words)

abbrev pub invariant-read_disjuncts-loop : goal.invariant-read_disjuncts-loop
invariant-read_disjuncts-loop l = with_front (map query_of l.disjuncts.items) (many_at (query_at l.depth) (l.count - l.counter) (words_left l.words))
    ≡ many_at (query_at l.depth) l.count (words_left l.initial.words)
