use Rattle.std.proofs.Common.{◌≡◌, ◌<◌, ◌↔◌, ◌++◌, length, [], true, false, Some, List, ℕ, Option, ap, refl, ◌∙◌, arith, if◌then◌else◌}
use Rattle.std.specs.Io.BufRead.{strip_last, first_line, drop_through}
use Rattle.std.specs.Io.KnownBytes.{prepend_known}
use Rattle.std.proofs.lemmas.Option.{IfSome_then}
use Rattle.qm_script.specs.Lines.{pending, unread, TakesPiece}
use Rattle.qm_script.specs.declared.lines.Lines.{Lines}
use Rattle.qm_script.proofs.LineBytes.{has_break-append, carried-on, carried-end, carried-break, carried-none, slice_range-empty, IsLine, IsLastLine}
use Rattle.qm_script.proofs.LineBytes.{pending_of}
use Rattle.qm_script.proofs.lines.Lines.next_line.Goals as goal

-- after the end of the input nothing is unread
unread-ended : (lines : Lines) → lines.ended ≡ true → unread lines ≡ []
unread-ended lines ended =
    let taken = lines.read_to_end ended in
    slice_range-empty lines.chunk lines.start lines.end (omega arith)

pending-ended : (lines : Lines) (known : Option (List ℕ)) → lines.ended ≡ true → pending lines known ≡ Some []
pending-ended lines known ended = ap (λ b. if b then Some [] else prepend_known (unread lines) known) ended

pub returns-then-not-branch-clause-line : goal.returns-then-not-branch-clause-line
returns-then-not-branch-clause-line g c =
    let ended : c.fill.new.self.ended ≡ true = c.in_ok-fill.ensures.end c.if-not-branch.true in
    let over = pending-ended c.fill.new.self (g.R.Read.remaining c.fill.new.input) ended in
    let carried = rw over at (carried-on _ _ _ c.loop.line.items c.loop.invariant.carried c.in_ok-fill.ensures.left) in
    let last = carried-end _ c.loop.line.items c.loop.invariant.unbroken carried in
    IfSome_then _ {P = IsLastLine c.loop.line.items} {Q = λ bytes. c.loop.line.items ≡ first_line bytes} last (λ bytes is. is.0)

pub returns-then-not-branch-clause-left : goal.returns-then-not-branch-clause-left
returns-then-not-branch-clause-left g c =
    let ended : c.fill.new.self.ended ≡ true = c.in_ok-fill.ensures.end c.if-not-branch.true in
    let over = pending-ended c.fill.new.self (g.R.Read.remaining c.fill.new.input) ended in
    let carried = rw over at (carried-on _ _ _ c.loop.line.items c.loop.invariant.carried c.in_ok-fill.ensures.left) in
    let last = carried-end _ c.loop.line.items c.loop.invariant.unbroken carried in
    IfSome_then _ {P = IsLastLine c.loop.line.items}
    {Q = λ bytes. pending c.fill.new.self (g.R.Read.remaining c.fill.new.input) ≡ Some (drop_through 10 bytes)} last (λ bytes is. over ∙ is.1)

pub returns-then-branch-clause-answer : goal.returns-then-branch-clause-answer
returns-then-branch-clause-answer g c =
    let piece : TakesPiece true (unread c.fill.new.self) (unread c.take_piece.new.self) c.loop.line.items c.take_piece.new.line.items =
    rw c.if-branch.true at c.in_ok-take_piece.ensures.piece in
    let carried = carried-on _ _ _ c.loop.line.items c.loop.invariant.carried c.in_ok-fill.ensures.left in
    let found = carried-break _ c.fill.new.self.ended _ c.loop.line.items (unread c.fill.new.self) piece.0
    (unread c.take_piece.new.self) (unread-ended c.fill.new.self) c.loop.invariant.unbroken piece.1 piece.2 carried in
    IfSome_then _ {P = IsLine (c.loop.line.items ++ piece.0) (pending_of c.fill.new.self.ended (unread c.take_piece.new.self)
    (g.R.Read.remaining c.fill.new.input))} {Q = λ bytes. (true ≡ true) ↔ (0 < length bytes)} found (λ bytes is. (λ _. is.0, λ _. refl))

pub returns-then-branch-clause-line : goal.returns-then-branch-clause-line
returns-then-branch-clause-line g c =
    let piece : TakesPiece true (unread c.fill.new.self) (unread c.take_piece.new.self) c.loop.line.items c.take_piece.new.line.items =
    rw c.if-branch.true at c.in_ok-take_piece.ensures.piece in
    let carried = carried-on _ _ _ c.loop.line.items c.loop.invariant.carried c.in_ok-fill.ensures.left in
    let found = carried-break _ c.fill.new.self.ended _ c.loop.line.items (unread c.fill.new.self) piece.0
    (unread c.take_piece.new.self) (unread-ended c.fill.new.self) c.loop.invariant.unbroken piece.1 piece.2 carried in
    IfSome_then _ {P = IsLine (c.loop.line.items ++ piece.0)
    (pending_of c.fill.new.self.ended (unread c.take_piece.new.self) (g.R.Read.remaining c.fill.new.input))} {Q = λ bytes.
    c.drop_carriage_return.new.line.items ≡ first_line bytes} found (λ bytes is. c.drop_carriage_return.ensures ∙ ap (strip_last 13) piece.3 ∙ is.1)

pub returns-then-branch-clause-left : goal.returns-then-branch-clause-left
returns-then-branch-clause-left g c =
    let piece : TakesPiece true (unread c.fill.new.self) (unread c.take_piece.new.self) c.loop.line.items c.take_piece.new.line.items =
    rw c.if-branch.true at c.in_ok-take_piece.ensures.piece in
    let carried = carried-on _ _ _ c.loop.line.items c.loop.invariant.carried c.in_ok-fill.ensures.left in
    let found = carried-break _ c.fill.new.self.ended _ c.loop.line.items (unread c.fill.new.self) piece.0
    (unread c.take_piece.new.self) (unread-ended c.fill.new.self) c.loop.invariant.unbroken piece.1 piece.2 carried in
    IfSome_then _
    {P = IsLine (c.loop.line.items ++ piece.0) (pending_of c.fill.new.self.ended (unread c.take_piece.new.self) (g.R.Read.remaining c.fill.new.input))}
    {Q = λ bytes. pending c.take_piece.new.self (g.R.Read.remaining c.fill.new.input) ≡ Some (drop_through 10 bytes)} found (λ bytes is. ap (λ b.
    if b then Some [] else prepend_known (unread c.take_piece.new.self) (g.R.Read.remaining c.fill.new.input)) c.in_ok-take_piece.ensures.ended ∙ is.2)

pub loop-preserved : goal.loop-preserved
loop-preserved g c =
    let piece : TakesPiece false (unread c.fill.new.self) (unread c.take_piece.new.self) c.loop.line.items c.take_piece.new.line.items =
    rw c.if-branch.false at c.in_ok-take_piece.ensures.piece in
    let carried = carried-on _ _ _ c.loop.line.items c.loop.invariant.carried c.in_ok-fill.ensures.left in
    let on = carried-none _ c.fill.new.self.ended _ c.loop.line.items (unread c.fill.new.self) (unread-ended c.fill.new.self) carried in
    record {
      unbroken = rw piece.2 (has_break-append c.loop.line.items (unread c.fill.new.self) c.loop.invariant.unbroken piece.0);
      carried = rw (piece.2, piece.1, c.in_ok-take_piece.ensures.ended) on;
    }
