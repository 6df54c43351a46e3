use Rattle.std.proofs.Common.{◌≡◌, ◌+◌, ◌∷◌, ◌++◌, [], ◌∙◌, ap, map, rules, sym, take, take_all}
use Rattle.std.proofs.lemmas.List.{map_push, take_more}
use Rattle.qm_parser.specs.Query as typed
use Rattle.qm_parser.specs.Views as typed_view
use Rattle.qm_parser.specs.declared.parsed_query.ParsedQuery.TheViews.{the_lemmas}
use Rattle.qm_schema.specs.declared.occur.Occur.{Occur}
use Rattle.qm_script.specs.Script.{boolean, as_clauses}
use Rattle.qm_script.specs.Spelled.{spelled_clause, query_of}
use Rattle.qm_script.specs.declared.spelled_query.SpelledQuery.{SpelledQuery}
use Rattle.qm_script.specs.declared.spelled_query.SpelledQuery.TheViews as spelled
use Rattle.qm_script.specs.declared.spelled_query.SpelledQuery.TheViews.{the_lemmas as spelled_lemmas}
use Rattle.birchagain_queries.specs.Translation.{said_query}
use Rattle.birchagain_queries.proofs.Clauses.{said-clauses, said_clause}
use Rattle.qm_script.proofs.SpelledForms.{query_of-boolean as spelled-boolean}
use Rattle.birchagain_queries.proofs.TypedForms.{query_of-boolean}
use Rattle.birchagain_queries.proofs.translated.+translated.Goals as goal

pub loop-sign-preserved : goal.loop-sign-preserved
loop-sign-preserved t c =
    let xs = c.deref-sign-items.result.now in
    let at = c.loop-sign.sign-index in
    let item = c.loop-sign-item.result in
    let clause : Occur × SpelledQuery = (c.occur_of.result, c.in_ok-query-in-Boolean.query) in
    let said : spelled_clause clause ≡ said_clause item = λ j. (c.occur_of.ensures j, c.in_ok-query-in-Boolean.ensures j) in
    let more : take (at + 1) xs ≡ take at xs ++ item ∷ [] =
    take_more xs at item c.loop-sign-test.true ∙ (λ j. take at xs ++ sym c.loop-sign-item.is j ∷ []) in
    ap (map spelled_clause) c.in_ok-push-in-Boolean.ensures.items ∙ map_push spelled_clause c.loop-sign.clauses.items clause
    ∙ (λ j. c.loop-sign.invariant j ++ said j ∷ [])
    ∙ sym (ap (map said_clause) more ∙ map_push said_clause (take at xs) item)

pub returns-after-loop-sign : goal.returns-after-loop-sign
returns-after-loop-sign t c =
    let xs = c.deref-sign-items.result.now in
    let tie : typed_view.query_of c.args.parsed.now ≡ typed.boolean (typed.clauses_of (map typed_view.clause_of c.in-Boolean.parsed.items)) =
    query_of-boolean c.args.parsed.now c.in-Boolean.parsed (first_of (search (rules, the_lemmas), cc)) in
    let made : query_of (spelled.Boolean 0 c.loop-sign.clauses) ≡ boolean 0 (as_clauses (map spelled_clause c.loop-sign.clauses.items)) =
    spelled-boolean (spelled.Boolean 0 c.loop-sign.clauses) 0 c.loop-sign.clauses (first_of (search (rules, spelled_lemmas), cc)) in
    let all = c.loop-sign.invariant ∙ ap (map said_clause) (take_all c.loop-sign.sign-index xs c.loop-sign-test.false) in
    made ∙ ap (boolean 0) (ap as_clauses all ∙ sym (said-clauses xs))
    ∙ ap (λ l. said_query (typed.boolean (typed.clauses_of (map typed_view.clause_of l)))) c.deref-sign-items.ensures.value
    ∙ sym (ap said_query tie)
