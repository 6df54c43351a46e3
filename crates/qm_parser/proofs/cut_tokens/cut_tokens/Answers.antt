use Rattle.std.proofs.Common.{◌≡◌, ◌-◌, false, true, Vec, arith, length, map, sym, ◌∙◌}
use Rattle.std.proofs.lemmas.List.{map-append}
use Rattle.std.proofs.lemmas.Result.{err_from_is_err_and}
use Rattle.std.specs.Char.{is_whitespace}
use Rattle.std.specs.Global.{Global}
use Rattle.qm_parser.proofs.TokenLemmas.{tokens-done, tokens-error, tokens-more, tokens-none, tokens-space}
use Rattle.qm_parser.specs.Cursor.{characters_left}
use Rattle.qm_parser.specs.Tokens.{tokens}
use Rattle.qm_parser.specs.Views.{piece_of, token_of}
use Rattle.qm_parser.specs.declared.token.ReadToken.{ReadToken}
use Rattle.qm_parser.proofs.cut_tokens.cut_tokens.Goals as goal
use Rattle.qm_parser.proofs.cut_tokens.cut_tokens.Goals.{then-is_whitespace, else-is_whitespace+in_ok-piece+in_ok-push}

pub returns-in_default : goal.returns-in_default
returns-in_default c =
    tokens-none (length c.args.characters.now - c.loop.counter) (characters_left c.loop.left) (map token_of c.loop.cut.items) (tokens c.args.characters.now)
    (sym c.in_default.is ∙ c.peek.ensures) c.loop.invariant

pub returns-in_err-piece : goal.returns-in_err-piece
returns-in_err-piece c =
    let passed = err_from_is_err_and c.from_residual.result c.from_residual.ensures.1 in
    let no_space : is_whitespace c.in-Some.c.letter ≡ false = sym c.is_whitespace.ensures ∙ c.if-is_whitespace.false in
    rw (passed.1, passed.2)
    (tokens-error (λ (v : Vec ReadToken Global). map token_of v.items) piece_of (length c.args.characters.now) c.loop.counter c.in-Some.c (characters_left c.loop.left)
    (characters_left c.piece.new.self) c.in_err-piece.field-0.0 (map token_of c.loop.cut.items) (tokens c.args.characters.now) c.loop-test.true
    c.in-Some.ensures no_space c.in_err-piece.ensures c.loop.invariant)

pub loop-preserved : goal.loop-preserved
loop-preserved c =
    let count = length c.args.characters.now in
    let left = characters_left c.loop.left in
    let front = map token_of c.loop.cut.items in
    let whole = tokens c.args.characters.now in
    elim c.if-is_whitespace.branch [
      | then-is_whitespace w ↦
          let space : is_whitespace c.in-Some.c.letter ≡ true = sym c.is_whitespace.ensures ∙ w.if-is_whitespace.true in
          rw (w.left-is, w.cut-is, w.skip.ensures)
          (tokens-space count c.loop.counter c.in-Some.c left front whole c.loop-test.true c.in-Some.ensures space c.loop.invariant)
      | else-is_whitespace+in_ok-piece+in_ok-push w ↦
          let no_space : is_whitespace c.in-Some.c.letter ≡ false = sym c.is_whitespace.ensures ∙ w.if-is_whitespace.false in
          rw (w.left-is, w.cut-is, w.in_ok-push.ensures.items, map-append token_of c.loop.cut.items)
          (tokens-more count c.loop.counter c.in-Some.c left (characters_left w.piece.new.self) (piece_of w.in_ok-piece.piece) front whole
          c.loop-test.true c.in-Some.ensures no_space w.in_ok-piece.ensures c.loop.invariant)
    ]

pub returns : goal.returns
returns c =
    tokens-done (length c.args.characters.now) c.loop.counter (characters_left c.loop.left) (map token_of c.loop.cut.items) (tokens c.args.characters.now)
    (omega arith) c.loop.invariant
