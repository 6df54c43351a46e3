use Rattle.std.proofs.Common.{◌≡◌, ◌∙◌, ap, map, rules, sym}
use Rattle.qm_parser.specs.Query.{boolean, clauses_of}
use Rattle.qm_parser.specs.Views.{clause_of, query_of}
use Rattle.qm_parser.specs.declared.parsed_query.ParsedQuery.TheViews.{the_lemmas}
use Rattle.birchagain_queries.specs.Translation.{have_field, names_field}
use Rattle.birchagain_queries.proofs.Clauses.{fields-done, fields-found, fields-step}
use Rattle.birchagain_queries.proofs.TypedForms.{query_of-boolean}
use Rattle.birchagain_queries.proofs.fields.+names_field.Goals as goal

pub returns-then-names_field : goal.returns-then-names_field
returns-then-names_field t c =
    let xs = c.deref-inner-items.result.now in
    let tie : query_of c.args.parsed.now ≡ boolean (clauses_of (map clause_of c.in-Boolean.clauses.items)) =
    query_of-boolean c.args.parsed.now c.in-Boolean.clauses (first_of (search (rules, the_lemmas), cc)) in
    sym (ap names_field tie
    ∙ ap (λ l. have_field (clauses_of (map clause_of l))) (sym c.deref-inner-items.ensures.value)
    ∙ fields-found xs c.loop-inner.inner-index (have_field (clauses_of (map clause_of xs))) c.loop-inner-item.result c.loop-inner-test.true
    c.loop-inner-item.is (sym c.names_field-in-loop-inner.ensures ∙ c.if-names_field.true) c.loop-inner.invariant)

pub loop-inner-preserved : goal.loop-inner-preserved
loop-inner-preserved t c =
    let xs = c.deref-inner-items.result.now in
    fields-step xs c.loop-inner.inner-index (have_field (clauses_of (map clause_of xs))) c.loop-inner-item.result c.loop-inner-test.true
    c.loop-inner-item.is (sym c.names_field-in-loop-inner.ensures ∙ c.if-names_field.false) c.loop-inner.invariant

pub returns-after-loop-inner : goal.returns-after-loop-inner
returns-after-loop-inner t c =
    let xs = c.deref-inner-items.result.now in
    let tie : query_of c.args.parsed.now ≡ boolean (clauses_of (map clause_of c.in-Boolean.clauses.items)) =
    query_of-boolean c.args.parsed.now c.in-Boolean.clauses (first_of (search (rules, the_lemmas), cc)) in
    sym (ap names_field tie
    ∙ ap (λ l. have_field (clauses_of (map clause_of l))) (sym c.deref-inner-items.ensures.value)
    ∙ fields-done xs c.loop-inner.inner-index (have_field (clauses_of (map clause_of xs))) c.loop-inner-test.false c.loop-inner.invariant)
