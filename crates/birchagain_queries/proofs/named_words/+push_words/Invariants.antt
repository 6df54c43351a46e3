-- What is there, and what the clauses or queries that are left have, is all that is to be there.
use Rattle.std.proofs.Common.{◌≡◌, ◌++◌, drop, map}
use Rattle.qm_script.specs.Script.{as_clauses, queries_of}
use Rattle.qm_script.specs.Spelled.{spelled_clause, query_of}
use Rattle.birchagain_queries.specs.QueryWords.{words_of_clauses, words_of_queries}
use Rattle.birchagain_queries.proofs.named_words.+push_words.Given as goal

abbrev pub decreases-push_words : goal.decreases-push_words
decreases-push_words l = goal.size-push_words l

abbrev pub invariant-loop-inner : goal.invariant-loop-inner
invariant-loop-inner l =
    map (λ w. w.now) l.words.items ++ words_of_clauses (as_clauses (drop l.inner-index (map spelled_clause l.inner-items)))
    ≡ map (λ w. w.now) l.fn.words.items ++ words_of_clauses (as_clauses (map spelled_clause l.inner-items))

abbrev pub invariant-loop-inner-2 : goal.invariant-loop-inner-2
invariant-loop-inner-2 l =
    map (λ w. w.now) l.words.items ++ words_of_queries (queries_of (drop l.inner-index (map query_of l.inner-items)))
    ≡ map (λ w. w.now) l.fn.words.items ++ words_of_queries (queries_of (map query_of l.inner-items))
