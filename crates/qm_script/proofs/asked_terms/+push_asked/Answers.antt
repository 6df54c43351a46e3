use Rattle.std.proofs.Common.{◌≡◌, ◌++◌, ◌∙◌, ap, sym, map, rules}
use Rattle.qm_index.specs.Parts.{segments_of}
use Rattle.qm_script.specs.AskedTerms.{asked_terms, clauses_terms, queries_terms}
use Rattle.qm_script.specs.Script.{boolean, as_clauses, disjunction_max, queries_of}
use Rattle.qm_script.specs.Spelled.{spelled_clause, query_of}
use Rattle.qm_script.specs.declared.spelled_query.SpelledQuery.TheViews.{the_lemmas}
use Rattle.qm_script.proofs.SpelledForms.{query_of-boolean, query_of-disjunction_max}
use Rattle.qm_script.proofs.AskedPushes.{clause-pushed, clauses-pushed, disjunct-pushed, disjuncts-pushed}
use Rattle.qm_script.proofs.asked_terms.+push_asked.Goals as goal

pub loop-inner-preserved : goal.loop-inner-preserved
loop-inner-preserved t c =
    let segments = segments_of c.args.segments.now in
    let xs = c.deref-inner-items.result.now in
    clause-pushed segments (c.args.terms.now.items ++ clauses_terms segments (as_clauses (map spelled_clause xs))) xs c.loop-inner.inner-index
    c.loop-inner-item.result c.loop-inner-test.true c.loop-inner-item.is c.loop-inner.terms.items c.push_asked.new.terms.items
    c.in_ok-push_asked-in-Boolean.ensures.added c.loop-inner.invariant

pub returns-after-loop-inner-clause-added : goal.returns-after-loop-inner-clause-added
returns-after-loop-inner-clause-added t c =
    let segments = segments_of c.args.segments.now in
    let had = c.args.terms.now.items in
    let xs = c.deref-inner-items.result.now in
    let tie : query_of c.args.query.now ≡ boolean c.in-Boolean.minimum (as_clauses (map spelled_clause c.in-Boolean.clauses.items)) =
    query_of-boolean c.args.query.now c.in-Boolean.minimum c.in-Boolean.clauses (first_of (search (rules, the_lemmas), cc)) in
    clauses-pushed segments (had ++ clauses_terms segments (as_clauses (map spelled_clause xs))) xs c.loop-inner.inner-index
    c.loop-inner.terms.items c.loop-inner-test.false c.loop-inner.invariant
    ∙ ap (λ l. had ++ clauses_terms segments (as_clauses (map spelled_clause l))) c.deref-inner-items.ensures.value
    ∙ sym (ap (λ q. had ++ asked_terms segments q) tie)

pub loop-inner-2-preserved : goal.loop-inner-2-preserved
loop-inner-2-preserved t c =
    let segments = segments_of c.args.segments.now in
    let xs = c.deref-inner-items-in-DisjunctionMax.result.now in
    disjunct-pushed segments (c.args.terms.now.items ++ queries_terms segments (queries_of (map query_of xs))) xs c.loop-inner-2.inner-index
    c.inner-item.result c.loop-inner-2-test.true c.inner-item.is c.loop-inner-2.terms.items c.push_asked-in-loop-inner-2.new.terms.items
    c.in_ok-push_asked-in-DisjunctionMax.ensures.added c.loop-inner-2.invariant

pub returns-after-loop-inner-2-clause-added : goal.returns-after-loop-inner-2-clause-added
returns-after-loop-inner-2-clause-added t c =
    let segments = segments_of c.args.segments.now in
    let had = c.args.terms.now.items in
    let xs = c.deref-inner-items-in-DisjunctionMax.result.now in
    let tie : query_of c.args.query.now ≡ disjunction_max c.in-DisjunctionMax.tie_breaker (queries_of (map query_of c.in-DisjunctionMax.disjuncts.items)) =
    query_of-disjunction_max c.args.query.now c.in-DisjunctionMax.tie_breaker c.in-DisjunctionMax.disjuncts (first_of (search (rules, the_lemmas), cc)) in
    disjuncts-pushed segments (had ++ queries_terms segments (queries_of (map query_of xs))) xs c.loop-inner-2.inner-index
    c.loop-inner-2.terms.items c.loop-inner-2-test.false c.loop-inner-2.invariant
    ∙ ap (λ l. had ++ queries_terms segments (queries_of (map query_of l))) c.deref-inner-items-in-DisjunctionMax.ensures.value
    ∙ sym (ap (λ q. had ++ asked_terms segments q) tie)
