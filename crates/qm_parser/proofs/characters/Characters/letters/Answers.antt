use Rattle.std.specs.Global.{Global}
use Rattle.std.proofs.Common.{◌≡◌, None, Ok, ap, sym, ◌∙◌, string_bytes}
use Rattle.std.proofs.lemmas.Result.{err_from_is_err_and}
use Rattle.qm_parser.proofs.LetterLemmas.{letters-done, letters-error, letters-escape, letters-stop, letters-take, letters-unfinished}
use Rattle.qm_parser.specs.Cursor.{characters_left}
use Rattle.qm_parser.specs.Letters.{letters_at, turn}
use Rattle.qm_parser.specs.declared.letters.Turn.TheVariants.{Take, Escape, Stop}
use Rattle.qm_parser.proofs.characters.Characters.letters.Goals as goal
use Rattle.qm_parser.proofs.characters.Characters.letters.Goals.{in-Escape, in-Take+in_ok-push-in-Take}

pub returns-in_err-read_turn : goal.returns-in_err-read_turn
returns-in_err-read_turn c =
    let whole = letters_at c.args.is_quoted None (characters_left c.args.self.now) in
    let passed = err_from_is_err_and c.from_residual.result c.from_residual.ensures.1 in
    rw (passed.1, passed.2)
    (letters-error (string_bytes {Z = Global}) c.args.is_quoted c.loop-c.escape c.in-Some.c (characters_left c.loop-c.self) (characters_left c.loop-c.self)
    (string_bytes c.loop-c.letters) whole c.in_err-read_turn.field-0.0 c.in-Some.ensures c.in_err-read_turn.ensures c.loop-c.invariant)

pub returns-in-Stop : goal.returns-in-Stop
returns-in-Stop c =
    let stopped : turn c.args.is_quoted c.loop-c.escape c.in-Some.c.letter ≡ Ok Stop = c.in_ok-read_turn.ensures ∙ ap Ok c.in-Stop.is in
    letters-stop c.args.is_quoted c.loop-c.escape c.in-Some.c (characters_left c.loop-c.self) (string_bytes c.loop-c.letters)
    (letters_at c.args.is_quoted None (characters_left c.args.self.now)) c.in-Some.ensures stopped c.loop-c.invariant

pub loop-c-preserved : goal.loop-c-preserved
loop-c-preserved c =
    let left = characters_left c.loop-c.self in
    let whole = letters_at c.args.is_quoted None (characters_left c.args.self.now) in
    elim c.match-branch-2.branch [
      | in-Escape w ↦
          let escaped : turn c.args.is_quoted c.loop-c.escape c.in-Some.c.letter ≡ Ok Escape = c.in_ok-read_turn.ensures ∙ ap Ok w.in-Escape.is in
          rw (c.skip.ensures, w.letters-is, w.escape-is)
          (letters-escape c.args.is_quoted c.loop-c.escape c.in-Some.c left (string_bytes c.loop-c.letters) whole c.in-Some.ensures escaped c.loop-c.invariant)
      | in-Take+in_ok-push-in-Take w ↦
          let taken : turn c.args.is_quoted c.loop-c.escape c.in-Some.c.letter ≡ Ok Take = c.in_ok-read_turn.ensures ∙ ap Ok w.in-Take.is in
          rw (c.skip.ensures, w.letters-is, w.escape-is, w.in_ok-push-in-Take.ensures.bytes)
          (letters-take c.args.is_quoted c.loop-c.escape c.in-Some.c left (string_bytes c.loop-c.letters) whole c.in-Some.ensures taken c.loop-c.invariant)
    ]

pub returns-in-Some-escape : goal.returns-in-Some-escape
returns-in-Some-escape c =
    rw (c.refuse.ensures)
    (letters-unfinished c.args.is_quoted c.loop-c.escape c.in-Some-escape.place (characters_left c.loop-c.self) (string_bytes c.loop-c.letters)
    (letters_at c.args.is_quoted None (characters_left c.args.self.now)) (sym c.in_default.is ∙ c.peek.ensures) c.in-Some-escape.is c.loop-c.invariant)

pub returns-in-None : goal.returns-in-None
returns-in-None c =
    letters-done c.args.is_quoted c.loop-c.escape (characters_left c.loop-c.self) (string_bytes c.loop-c.letters)
    (letters_at c.args.is_quoted None (characters_left c.args.self.now)) (sym c.in_default.is ∙ c.peek.ensures) c.in-None.is c.loop-c.invariant
