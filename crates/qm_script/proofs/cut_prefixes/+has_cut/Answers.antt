use Rattle.std.proofs.Common.{◌≡◌, ◌∙◌, ap, sym, map, rules}
use Rattle.qm_script.specs.Prefixes.{has_failing, have_clauses_failing, have_queries_failing}
use Rattle.qm_index.specs.Parts.{segments_of}
use Rattle.qm_script.specs.Reached.{is_reached}
use Rattle.qm_script.specs.Script.{boolean, as_clauses, disjunction_max, queries_of}
use Rattle.qm_script.specs.Spelled.{spelled_clause, query_of}
use Rattle.qm_script.specs.declared.spelled_query.SpelledQuery.TheViews.{the_lemmas}
use Rattle.qm_script.proofs.SpelledForms.{query_of-boolean, query_of-disjunction_max}
use Rattle.qm_script.proofs.Building.{clauses-prefix-done, clauses-prefix-found, clauses-prefix-step, queries-prefix-done, queries-prefix-found}
use Rattle.qm_script.proofs.Building.{queries-prefix-step}
use Rattle.qm_script.proofs.cut_prefixes.+has_cut.Goals as goal

pub returns-then-has_cut : goal.returns-then-has_cut
returns-then-has_cut t c =
    let test = is_reached (segments_of c.args.segments.now) in
    let xs = c.deref-inner-items.result.now in
    let tie : query_of c.args.query.now ≡ boolean c.in-Boolean.minimum (as_clauses (map spelled_clause c.in-Boolean.clauses.items)) =
    query_of-boolean c.args.query.now c.in-Boolean.minimum c.in-Boolean.clauses (first_of (search (rules, the_lemmas), cc)) in
    sym (ap (has_failing test) tie
    ∙ ap (λ l. have_clauses_failing test (as_clauses (map spelled_clause l))) (sym c.deref-inner-items.ensures.value)
    ∙ clauses-prefix-found xs c.loop-inner.inner-index c.loop-inner-item.result c.loop-inner-test.true c.loop-inner-item.is test
    (have_clauses_failing test (as_clauses (map spelled_clause xs))) (sym c.has_cut.ensures ∙ c.if-has_cut.true) c.loop-inner.invariant)

pub loop-inner-preserved : goal.loop-inner-preserved
loop-inner-preserved t c =
    let test = is_reached (segments_of c.args.segments.now) in
    let xs = c.deref-inner-items.result.now in
    clauses-prefix-step xs c.loop-inner.inner-index c.loop-inner-item.result c.loop-inner-test.true c.loop-inner-item.is test
    (have_clauses_failing test (as_clauses (map spelled_clause xs))) (sym c.has_cut.ensures ∙ c.if-has_cut.false) c.loop-inner.invariant

pub returns-after-loop-inner : goal.returns-after-loop-inner
returns-after-loop-inner t c =
    let test = is_reached (segments_of c.args.segments.now) in
    let xs = c.deref-inner-items.result.now in
    let tie : query_of c.args.query.now ≡ boolean c.in-Boolean.minimum (as_clauses (map spelled_clause c.in-Boolean.clauses.items)) =
    query_of-boolean c.args.query.now c.in-Boolean.minimum c.in-Boolean.clauses (first_of (search (rules, the_lemmas), cc)) in
    sym (ap (has_failing test) tie
    ∙ ap (λ l. have_clauses_failing test (as_clauses (map spelled_clause l))) (sym c.deref-inner-items.ensures.value)
    ∙ clauses-prefix-done test xs c.loop-inner.inner-index (have_clauses_failing test (as_clauses (map spelled_clause xs))) c.loop-inner-test.false c.loop-inner.invariant)

pub returns-then-has_cut-2 : goal.returns-then-has_cut-2
returns-then-has_cut-2 t c =
    let test = is_reached (segments_of c.args.segments.now) in
    let xs = c.deref-inner-items-in-DisjunctionMax.result.now in
    let tie : query_of c.args.query.now ≡ disjunction_max c.in-DisjunctionMax.tie_breaker (queries_of (map query_of c.in-DisjunctionMax.disjuncts.items)) =
    query_of-disjunction_max c.args.query.now c.in-DisjunctionMax.tie_breaker c.in-DisjunctionMax.disjuncts (first_of (search (rules, the_lemmas), cc)) in
    sym (ap (has_failing test) tie
    ∙ ap (λ l. have_queries_failing test (queries_of (map query_of l))) (sym c.deref-inner-items-in-DisjunctionMax.ensures.value)
    ∙ queries-prefix-found xs c.loop-inner-2.inner-index c.inner-item.result c.loop-inner-2-test.true c.inner-item.is test
    (have_queries_failing test (queries_of (map query_of xs))) (sym c.has_cut-in-loop-inner-2.ensures ∙ c.if-has_cut-2.true) c.loop-inner-2.invariant)

pub loop-inner-2-preserved : goal.loop-inner-2-preserved
loop-inner-2-preserved t c =
    let test = is_reached (segments_of c.args.segments.now) in
    let xs = c.deref-inner-items-in-DisjunctionMax.result.now in
    queries-prefix-step xs c.loop-inner-2.inner-index c.inner-item.result c.loop-inner-2-test.true c.inner-item.is test
    (have_queries_failing test (queries_of (map query_of xs))) (sym c.has_cut-in-loop-inner-2.ensures ∙ c.if-has_cut-2.false) c.loop-inner-2.invariant

pub returns-after-loop-inner-2 : goal.returns-after-loop-inner-2
returns-after-loop-inner-2 t c =
    let test = is_reached (segments_of c.args.segments.now) in
    let xs = c.deref-inner-items-in-DisjunctionMax.result.now in
    let tie : query_of c.args.query.now ≡ disjunction_max c.in-DisjunctionMax.tie_breaker (queries_of (map query_of c.in-DisjunctionMax.disjuncts.items)) =
    query_of-disjunction_max c.args.query.now c.in-DisjunctionMax.tie_breaker c.in-DisjunctionMax.disjuncts (first_of (search (rules, the_lemmas), cc)) in
    sym (ap (has_failing test) tie
    ∙ ap (λ l. have_queries_failing test (queries_of (map query_of l))) (sym c.deref-inner-items-in-DisjunctionMax.ensures.value)
    ∙ queries-prefix-done test xs c.loop-inner-2.inner-index (have_queries_failing test (queries_of (map query_of xs))) c.loop-inner-2-test.false c.loop-inner-2.invariant)
