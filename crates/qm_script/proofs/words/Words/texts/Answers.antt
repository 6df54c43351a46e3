use Rattle.std.specs.Global.{Global}
use Rattle.std.proofs.Common.{Vec, String, string_bytes, ap, ◌∙◌, arith, ◌∷◌, [], ◌+◌, ◌-◌}
use Rattle.std.proofs.lemmas.List.{map-append}
use Rattle.std.proofs.lemmas.Result.{err_from_is_err_and}
use Rattle.qm_script.specs.Cursor.{words_left}
use Rattle.qm_script.specs.Script.{many_at, word_at}
use Rattle.qm_script.specs.Spelled.{texts}
use Rattle.qm_script.proofs.Reading.{many-done, many-more, many-stopped, reads-error, with_front}
use Rattle.qm_script.proofs.words.Words.texts.Goals as goal

pub returns-in_err-text : goal.returns-in_err-text
returns-in_err-text c =
    let left = words_left c.args.self.now in
    let whole = many_at word_at c.args.count left in
    let passed = err_from_is_err_and c.from_residual.result c.from_residual.ensures.1 in
    rw (passed.1, passed.2)
    (reads-error (string_bytes {Z = Global}) (λ (v : Vec (String Global) Global). texts v.items) c.in_err-text.field-0.0
    (words_left c.text.new.self) (words_left c.text.new.self) (word_at (words_left c.loop.self)) whole
    (λ none. many-stopped word_at (texts c.loop.texts.items) c.args.count c.loop.counter (words_left c.loop.self) whole c.loop-test.true none c.loop.invariant)
    c.in_err-text.ensures)

pub loop-preserved : goal.loop-preserved
loop-preserved c =
    let left = words_left c.args.self.now in
    ap (λ l. with_front l (many_at word_at (c.args.count - (c.loop.counter + 1)) (words_left c.text.new.self)))
    (ap texts c.in_ok-push.ensures.items ∙ map-append string_bytes c.loop.texts.items (c.in_ok-text.field-0 ∷ []))
    ∙ many-more word_at (texts c.loop.texts.items) c.args.count c.loop.counter (words_left c.loop.self) (words_left c.text.new.self)
    (string_bytes c.in_ok-text.field-0) (many_at word_at c.args.count left) c.loop-test.true c.in_ok-text.ensures c.loop.invariant

pub returns : goal.returns
returns c = many-done word_at (texts c.loop.texts.items) c.args.count c.loop.counter (words_left c.loop.self)
    (many_at word_at c.args.count (words_left c.args.self.now)) (omega arith) c.loop.invariant
