use Rattle.std.proofs.Common.{◌≡◌, ◌++◌, ◌∙◌, ap, sym, map, rules}
use Rattle.qm_script.specs.Script.{boolean, as_clauses, disjunction_max, queries_of}
use Rattle.qm_script.specs.Spelled.{spelled_clause, query_of}
use Rattle.qm_script.specs.declared.spelled_query.SpelledQuery.TheViews.{the_lemmas}
use Rattle.birchagain_queries.specs.QueryWords.{weighing_words, words_of_clauses, words_of_queries}
use Rattle.qm_script.proofs.SpelledForms.{query_of-boolean, query_of-disjunction_max}
use Rattle.birchagain_queries.proofs.Words.{clause-pushed, clauses-pushed, disjunct-pushed, disjuncts-pushed}
use Rattle.birchagain_queries.proofs.named_words.+push_words.Goals as goal

pub loop-inner-preserved : goal.loop-inner-preserved
loop-inner-preserved t c =
    let xs = c.deref-inner-items.result.now in
    clause-pushed (map (λ w. w.now) c.args.words.now.items ++ words_of_clauses (as_clauses (map spelled_clause xs))) xs c.loop-inner.inner-index
    c.loop-inner-item.result c.loop-inner-test.true c.loop-inner-item.is (map (λ w. w.now) c.loop-inner.words.items)
    (map (λ w. w.now) c.push_words.new.words.items) c.in_ok-push_words-in-Boolean.ensures c.loop-inner.invariant

pub returns-after-loop-inner : goal.returns-after-loop-inner
returns-after-loop-inner t c =
    let had = map (λ w. w.now) c.args.words.now.items in
    let xs = c.deref-inner-items.result.now in
    let tie : query_of c.args.query.now ≡ boolean c.in-Boolean.minimum (as_clauses (map spelled_clause c.in-Boolean.clauses.items)) =
    query_of-boolean c.args.query.now c.in-Boolean.minimum c.in-Boolean.clauses (first_of (search (rules, the_lemmas), cc)) in
    clauses-pushed (had ++ words_of_clauses (as_clauses (map spelled_clause xs))) xs c.loop-inner.inner-index
    (map (λ w. w.now) c.loop-inner.words.items) c.loop-inner-test.false c.loop-inner.invariant
    ∙ ap (λ l. had ++ words_of_clauses (as_clauses (map spelled_clause l))) c.deref-inner-items.ensures.value
    ∙ sym (ap (λ q. had ++ weighing_words q) tie)

pub loop-inner-2-preserved : goal.loop-inner-2-preserved
loop-inner-2-preserved t c =
    let xs = c.deref-inner-items-in-DisjunctionMax.result.now in
    disjunct-pushed (map (λ w. w.now) c.args.words.now.items ++ words_of_queries (queries_of (map query_of xs))) xs c.loop-inner-2.inner-index
    c.inner-item.result c.loop-inner-2-test.true c.inner-item.is (map (λ w. w.now) c.loop-inner-2.words.items)
    (map (λ w. w.now) c.push_words-in-loop-inner-2.new.words.items) c.in_ok-push_words-in-DisjunctionMax.ensures c.loop-inner-2.invariant

pub returns-after-loop-inner-2 : goal.returns-after-loop-inner-2
returns-after-loop-inner-2 t c =
    let had = map (λ w. w.now) c.args.words.now.items in
    let xs = c.deref-inner-items-in-DisjunctionMax.result.now in
    let tie : query_of c.args.query.now ≡ disjunction_max c.in-DisjunctionMax.tie_breaker (queries_of (map query_of c.in-DisjunctionMax.disjuncts.items)) =
    query_of-disjunction_max c.args.query.now c.in-DisjunctionMax.tie_breaker c.in-DisjunctionMax.disjuncts (first_of (search (rules, the_lemmas), cc)) in
    disjuncts-pushed (had ++ words_of_queries (queries_of (map query_of xs))) xs c.loop-inner-2.inner-index
    (map (λ w. w.now) c.loop-inner-2.words.items) c.loop-inner-2-test.false c.loop-inner-2.invariant
    ∙ ap (λ l. had ++ words_of_queries (queries_of (map query_of l))) c.deref-inner-items-in-DisjunctionMax.ensures.value
    ∙ sym (ap (λ q. had ++ weighing_words q) tie)
