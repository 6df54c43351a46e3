use Rattle.std.proofs.Common.{ap, ◌∙◌, arith, map, ◌∷◌, [], ◌+◌, ◌-◌, Vec}
use Rattle.std.proofs.lemmas.List.{map-append}
use Rattle.std.proofs.lemmas.Result.{err_from_is_err_and}
use Rattle.std.specs.Global.{Global}
use Rattle.qm_script.specs.Cursor.{words_left}
use Rattle.qm_script.specs.Script.{clause_at, many_at, query_at}
use Rattle.qm_script.specs.Spelled.{spelled_clause, query_of}
use Rattle.qm_schema.specs.declared.occur.Occur.{Occur}
use Rattle.qm_script.specs.declared.spelled_query.SpelledQuery.{SpelledQuery}
use Rattle.qm_script.proofs.Reading.{many-done, many-more, many-stopped, query_at-form, query_at-none, reads-error, with_front}
use Rattle.qm_script.proofs.read_query.+reading.Goals as goal

pub read_query-returns-then-depth-eq0 : goal.read_query-returns-then-depth-eq0
read_query-returns-then-depth-eq0 t c = query_at-none c.args.depth (words_left c.args.words.now) (omega arith)

pub read_clauses-returns-in_err-clause : goal.read_clauses-returns-in_err-clause
read_clauses-returns-in_err-clause t c =
    let one = clause_at (query_at c.args.depth) in
    let whole = many_at one c.args.count (words_left c.args.words.now) in
    let passed = err_from_is_err_and c.from_residual.result c.from_residual.ensures.1 in
    rw (passed.1, passed.2)
    (reads-error spelled_clause (λ (v : Vec (Occur × SpelledQuery) Global). map spelled_clause v.items) c.in_err-clause.field-0.0
    (words_left c.read_clause.new.words) (words_left c.read_clause.new.words) (one (words_left c.loop.words)) whole
    (λ none. many-stopped one (map spelled_clause c.loop.clauses.items) c.args.count c.loop.counter
    (words_left c.loop.words) whole c.loop-test.true none c.loop.invariant)
    c.in_err-clause.ensures)

pub read_clauses-loop-preserved : goal.read_clauses-loop-preserved
read_clauses-loop-preserved t c =
    let one = clause_at (query_at c.args.depth) in
    ap (λ l. with_front l (many_at one (c.args.count - (c.loop.counter + 1)) (words_left c.read_clause.new.words)))
    (ap (map spelled_clause) c.in_ok-push.ensures.items ∙ map-append spelled_clause c.loop.clauses.items (c.in_ok-clause.clause ∷ []))
    ∙ many-more one (map spelled_clause c.loop.clauses.items) c.args.count c.loop.counter (words_left c.loop.words) (words_left c.read_clause.new.words)
    (spelled_clause c.in_ok-clause.clause) (many_at one c.args.count (words_left c.args.words.now)) c.loop-test.true c.in_ok-clause.ensures c.loop.invariant

pub read_clauses-returns : goal.read_clauses-returns
read_clauses-returns t c =
    let one = clause_at (query_at c.args.depth) in
    many-done one (map spelled_clause c.loop.clauses.items) c.args.count c.loop.counter (words_left c.loop.words)
    (many_at one c.args.count (words_left c.args.words.now)) (omega arith) c.loop.invariant

pub read_disjuncts-returns-in_err-query : goal.read_disjuncts-returns-in_err-query
read_disjuncts-returns-in_err-query t c =
    let one = query_at c.args.depth in
    let whole = many_at one c.args.count (words_left c.args.words.now) in
    let passed = err_from_is_err_and c.from_residual.result c.from_residual.ensures.1 in
    rw (passed.1, passed.2)
    (reads-error query_of (λ (v : Vec SpelledQuery Global). map query_of v.items) c.in_err-query.field-0.0
    (words_left c.read_query.new.words) (words_left c.read_query.new.words) (one (words_left c.loop.words)) whole
    (λ none. many-stopped one (map query_of c.loop.disjuncts.items) c.args.count c.loop.counter
    (words_left c.loop.words) whole c.loop-test.true none c.loop.invariant)
    c.in_err-query.ensures)

pub read_disjuncts-loop-preserved : goal.read_disjuncts-loop-preserved
read_disjuncts-loop-preserved t c =
    let one = query_at c.args.depth in
    ap (λ l. with_front l (many_at one (c.args.count - (c.loop.counter + 1)) (words_left c.read_query.new.words)))
    (ap (map query_of) c.in_ok-push.ensures.items ∙ map-append query_of c.loop.disjuncts.items (c.in_ok-query.query ∷ []))
    ∙ many-more one (map query_of c.loop.disjuncts.items) c.args.count c.loop.counter (words_left c.loop.words) (words_left c.read_query.new.words)
    (query_of c.in_ok-query.query) (many_at one c.args.count (words_left c.args.words.now)) c.loop-test.true c.in_ok-query.ensures c.loop.invariant

pub read_disjuncts-returns : goal.read_disjuncts-returns
read_disjuncts-returns t c =
    let one = query_at c.args.depth in
    many-done one (map query_of c.loop.disjuncts.items) c.args.count c.loop.counter (words_left c.loop.words)
    (many_at one c.args.count (words_left c.args.words.now)) (omega arith) c.loop.invariant

pub read_query-returns : goal.read_query-returns
read_query-returns t c = rw (query_at-form c.args.depth (words_left c.args.words.now) (c.args.depth - 1) (omega arith)) c.read_form.ensures
