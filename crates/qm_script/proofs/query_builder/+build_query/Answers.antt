use Rattle.std.proofs.Common.{◌≡◌, ◌∙◌, ◌+◌, ◌∷◌, ◌++◌, [], ap, sym, subst, map, drop, rules, inl, inr}
use Rattle.std.proofs.lemmas.List.{map-append}
use Rattle.std.proofs.lemmas.Result.{err_from_is_err_and}
use Rattle.qm_query.specs.Query as query
use Rattle.qm_query.specs.Query.{clause_of as built_clause, disjuncts_of, query_of as built_query, subqueries_of}
use Rattle.qm_script.specs.Asked.{Builds, asked, clauses_asked, disjuncts_asked, phrase_asked}
use Rattle.qm_script.specs.Script.{boolean, as_clauses, disjunction_max, phrase, queries_of}
use Rattle.qm_script.specs.Spelled.{spelled_clause, query_of, texts}
use Rattle.qm_script.specs.declared.spelled_query.SpelledQuery.TheViews.{the_lemmas}
use Rattle.qm_script.proofs.SpelledForms.{query_of-boolean, query_of-disjunction_max, query_of-phrase}
use Rattle.qm_script.proofs.Building.{boolean-made, boolean-refused, clauses-done, clauses-step, clauses-stopped, disjunction_max-made, disjunction_max-refused}
use Rattle.qm_script.proofs.Building.{disjuncts-done, disjuncts-step, disjuncts-stopped, through, with_front}
use Rattle.qm_script.proofs.query_builder.+build_query.Goals as goal

pub returns-in-Phrase : goal.returns-in-Phrase
returns-in-Phrase t c =
    let tie : query_of c.args.spelled.now ≡ phrase c.in-Phrase.slop (texts c.in-Phrase.words.items) =
    query_of-phrase c.args.spelled.now c.in-Phrase.slop c.in-Phrase.words (first_of (search (rules, the_lemmas), cc)) in
    subst (λ q. Builds (asked q) c.build_phrase.result) (sym tie)
    (subst (λ ws. Builds (phrase_asked c.in-Phrase.slop (texts ws)) c.build_phrase.result) c.as_slice.ensures.value c.build_phrase.ensures)

pub returns-in_err-query-in-Boolean : goal.returns-in_err-query-in-Boolean
returns-in_err-query-in-Boolean t c =
    let xs = c.deref-occur-items.result.now in
    let e = c.in_err-query-in-Boolean.field-0.0 in
    let tie : query_of c.args.spelled.now ≡ boolean c.in-Boolean.minimum (as_clauses (map spelled_clause c.in-Boolean.clauses.items)) =
    query_of-boolean c.args.spelled.now c.in-Boolean.minimum c.in-Boolean.clauses (first_of (search (rules, the_lemmas), cc)) in
    let here : query_of c.args.spelled.now ≡ boolean c.in-Boolean.minimum (as_clauses (map spelled_clause xs)) = tie
    ∙ ap (λ l. boolean c.in-Boolean.minimum (as_clauses (map spelled_clause l))) (sym c.deref-occur-items.ensures.value) in
    let passed = err_from_is_err_and c.from_residual-in_err-query-in-Boolean.result c.from_residual-in_err-query-in-Boolean.ensures.1 in
    rw (passed.1, passed.2) (elim c.in_err-query-in-Boolean.ensures [
      | inl memory ↦ inl memory
      | inr is ↦ inr (boolean-refused (query_of c.args.spelled.now) c.in-Boolean.minimum (as_clauses (map spelled_clause xs)) e here
          (clauses-stopped xs c.loop-occur.occur-index c.loop-occur-item.result c.loop-occur-test.true c.loop-occur-item.is
          (map built_clause c.loop-occur.built.items) e (clauses_asked (as_clauses (map spelled_clause xs))) is c.loop-occur.invariant))
    ])

pub loop-occur-preserved : goal.loop-occur-preserved
loop-occur-preserved t c =
    let xs = c.deref-occur-items.result.now in
    let item = c.loop-occur-item.result in
    let box = c.in_ok-new-in-Boolean.field-0 in
    let front = map built_clause c.loop-occur.built.items in
    let rest = clauses_asked (as_clauses (drop (c.loop-occur.occur-index + 1) (map spelled_clause xs))) in
    let grown : map built_clause c.push.new.self.items ≡ front ++ (item.0, built_query box.value) ∷ [] =
    ap (map built_clause) c.in_ok-push-in-Boolean.ensures.items ∙ map-append built_clause c.loop-occur.built.items ((item.0, box) ∷ []) in
    let same : built_query box.value ≡ built_query c.in_ok-query-in-Boolean.query = search rules in
    ap (λ f. with_front f rest) (grown ∙ ap (λ q. front ++ (item.0, q) ∷ []) same)
    ∙ clauses-step xs c.loop-occur.occur-index item c.loop-occur-test.true c.loop-occur-item.is front (built_query c.in_ok-query-in-Boolean.query)
    (clauses_asked (as_clauses (map spelled_clause xs))) c.in_ok-query-in-Boolean.ensures c.loop-occur.invariant

pub returns-after-loop-occur : goal.returns-after-loop-occur
returns-after-loop-occur t c =
    let xs = c.deref-occur-items.result.now in
    let tie : query_of c.args.spelled.now ≡ boolean c.in-Boolean.minimum (as_clauses (map spelled_clause c.in-Boolean.clauses.items)) =
    query_of-boolean c.args.spelled.now c.in-Boolean.minimum c.in-Boolean.clauses (first_of (search (rules, the_lemmas), cc)) in
    let here : query_of c.args.spelled.now ≡ boolean c.in-Boolean.minimum (as_clauses (map spelled_clause xs)) = tie
    ∙ ap (λ l. boolean c.in-Boolean.minimum (as_clauses (map spelled_clause l))) (sym c.deref-occur-items.ensures.value) in
    through _ (query.boolean c.in-Boolean.minimum (subqueries_of c.loop-occur.built.items)) _
    (boolean-made (query_of c.args.spelled.now) c.in-Boolean.minimum (as_clauses (map spelled_clause xs)) (map built_clause c.loop-occur.built.items) here
    (clauses-done xs c.loop-occur.occur-index (map built_clause c.loop-occur.built.items)
    (clauses_asked (as_clauses (map spelled_clause xs))) c.loop-occur-test.false c.loop-occur.invariant))
    c.build_boolean.ensures

pub returns-in_err-query-in-DisjunctionMax : goal.returns-in_err-query-in-DisjunctionMax
returns-in_err-query-in-DisjunctionMax t c =
    let xs = c.deref-inner-items.result.now in
    let e = c.in_err-query-in-DisjunctionMax.field-0.0 in
    let tie : query_of c.args.spelled.now ≡ disjunction_max c.in-DisjunctionMax.tie_breaker (queries_of (map query_of c.in-DisjunctionMax.disjuncts.items)) =
    query_of-disjunction_max c.args.spelled.now c.in-DisjunctionMax.tie_breaker c.in-DisjunctionMax.disjuncts (first_of (search (rules, the_lemmas), cc)) in
    let here : query_of c.args.spelled.now ≡ disjunction_max c.in-DisjunctionMax.tie_breaker (queries_of (map query_of xs)) = tie
    ∙ ap (λ l. disjunction_max c.in-DisjunctionMax.tie_breaker (queries_of (map query_of l))) (sym c.deref-inner-items.ensures.value) in
    let passed = err_from_is_err_and c.from_residual-in_err-query-in-DisjunctionMax.result c.from_residual-in_err-query-in-DisjunctionMax.ensures.1 in
    rw (passed.1, passed.2) (elim c.in_err-query-in-DisjunctionMax.ensures [
      | inl memory ↦ inl memory
      | inr is ↦ inr (disjunction_max-refused (query_of c.args.spelled.now) c.in-DisjunctionMax.tie_breaker (queries_of (map query_of xs)) e here
          (disjuncts-stopped xs c.loop-inner.inner-index c.inner-item.result c.loop-inner-test.true c.inner-item.is
          (map (λ b. built_query b.value) c.loop-inner.built.items) e (disjuncts_asked (queries_of (map query_of xs))) is c.loop-inner.invariant))
    ])

pub returns-after-loop-inner : goal.returns-after-loop-inner
returns-after-loop-inner t c =
    let xs = c.deref-inner-items.result.now in
    let tie : query_of c.args.spelled.now ≡ disjunction_max c.in-DisjunctionMax.tie_breaker (queries_of (map query_of c.in-DisjunctionMax.disjuncts.items)) =
    query_of-disjunction_max c.args.spelled.now c.in-DisjunctionMax.tie_breaker c.in-DisjunctionMax.disjuncts (first_of (search (rules, the_lemmas), cc)) in
    let here : query_of c.args.spelled.now ≡ disjunction_max c.in-DisjunctionMax.tie_breaker (queries_of (map query_of xs)) = tie
    ∙ ap (λ l. disjunction_max c.in-DisjunctionMax.tie_breaker (queries_of (map query_of l))) (sym c.deref-inner-items.ensures.value) in
    subst (λ r. Builds r c.build_disjunction_max.result)
    (sym (disjunction_max-made (query_of c.args.spelled.now) c.in-DisjunctionMax.tie_breaker
    (queries_of (map query_of xs)) (map (λ b. built_query b.value) c.loop-inner.built.items) here
    (disjuncts-done xs c.loop-inner.inner-index (map (λ b. built_query b.value) c.loop-inner.built.items)
    (disjuncts_asked (queries_of (map query_of xs))) c.loop-inner-test.false c.loop-inner.invariant)))
    c.build_disjunction_max.ensures

pub loop-inner-preserved : goal.loop-inner-preserved
loop-inner-preserved t c =
    let xs = c.deref-inner-items.result.now in
    let item = c.inner-item.result in
    let box = c.in_ok-new-in-DisjunctionMax.field-0 in
    let front = map (λ b. built_query b.value) c.loop-inner.built.items in
    let rest = disjuncts_asked (queries_of (drop (c.loop-inner.inner-index + 1) (map query_of xs))) in
    let grown : map (λ b. built_query b.value) c.push-in-loop-inner.new.self.items ≡ front ++ built_query box.value ∷ [] = ap (map (λ b. built_query b.value))
    c.in_ok-push-in-DisjunctionMax.ensures.items ∙ map-append (λ b. built_query b.value) c.loop-inner.built.items (box ∷ []) in
    let same : built_query box.value ≡ built_query c.in_ok-query-in-DisjunctionMax.query = search rules in
    ap (λ f. with_front f rest) (grown ∙ ap (λ q. front ++ q ∷ []) same)
    ∙ disjuncts-step xs c.loop-inner.inner-index item c.loop-inner-test.true c.inner-item.is front (built_query c.in_ok-query-in-DisjunctionMax.query)
    (disjuncts_asked (queries_of (map query_of xs))) c.in_ok-query-in-DisjunctionMax.ensures c.loop-inner.invariant
