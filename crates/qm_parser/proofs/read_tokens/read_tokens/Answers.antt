use Rattle.std.proofs.Common.{ap, map}
use Rattle.std.proofs.lemmas.Result.{err_from_is_err_and}
use Rattle.std.specs.Vec.Iter.{into_iter_items, into_iter_len}
use Rattle.qm_parser.proofs.StepLemmas.{stepping-done, stepping-error, stepping-more}
use Rattle.qm_parser.specs.LevelViews.{state_of}
use Rattle.qm_parser.specs.Views.{query_of, token_of}
use Rattle.qm_parser.proofs.read_tokens.read_tokens.Goals as goal

pub returns-in_err-text : goal.returns-in_err-text
returns-in_err-text c =
    let passed = err_from_is_err_and c.from_residual.result c.from_residual.ensures.1 in
    rw (passed.1, passed.2)
    (stepping-error query_of state_of (state_of c.loop-token.text) (token_of c.in-Some.token) (map token_of (into_iter_items c.loop-token.token-iterator))
    (map token_of (into_iter_items c.next.new.self)) (into_iter_len c.loop-token.token-iterator) (map token_of c.args.tokens.items) c.in_err-text.field-0.0
    c.loop-token.invariant (ap (map token_of) c.in-Some.ensures.steps.0) c.in_err-text.ensures)

pub loop-token-preserved : goal.loop-token-preserved
loop-token-preserved c =
    stepping-more (state_of c.loop-token.text) (state_of c.in_ok-text.text) (token_of c.in-Some.token) (map token_of (into_iter_items c.loop-token.token-iterator))
    (map token_of (into_iter_items c.next.new.self)) (into_iter_len c.loop-token.token-iterator) (into_iter_len c.next.new.self) (map token_of c.args.tokens.items)
    c.loop-token.invariant (ap (map token_of) c.in-Some.ensures.steps.0) c.in-Some.ensures.steps.1 c.in_ok-text.ensures

pub returns : goal.returns
returns c =
    rw (stepping-done (state_of c.loop-token.text) (map token_of (into_iter_items c.loop-token.token-iterator)) (into_iter_len c.loop-token.token-iterator)
    (map token_of c.args.tokens.items) c.loop-token.invariant c.in-None.ensures.steps.0)
    c.end_text.ensures
