use Rattle.std.proofs.Common.{◌+◌, ◌-◌, ◌≤◌, ◌∷◌, ◌++◌, take, drop, ap, sym, ◌∙◌, arith}
use Rattle.std.proofs.lemmas.List.{length-take}
use Rattle.qm_script.specs.Lines.{unread}
use Rattle.qm_script.proofs.LineBytes.{position-break, position-none, drop-slice_range, slice_range-empty}
use Rattle.qm_script.proofs.lines.Lines.take_piece.Goals as goal

pub returns-in_ok-extend_from_slice-in-Some-clause-piece : goal.returns-in_ok-extend_from_slice-in-Some-clause-piece
returns-in_ok-extend_from_slice-in-Some-clause-piece c =
    let lines = c.args.self.now in
    let at = position-break (unread lines) c.in-Some.len (sym c.in-Some.ensures) in
    let room : lines.start + (c.in-Some.len + 1) ≤ lines.end = omega (arith, at.0, length-take (lines.end - lines.start) (drop lines.start lines.chunk)) in (
      take c.in-Some.len (unread lines),
      at.1 ∙ ap (λ r. take c.in-Some.len (unread lines) ++ (10 ∷ r))
          (drop-slice_range lines.chunk lines.start lines.end (c.in-Some.len + 1) room),
      at.2,
      c.in_ok-extend_from_slice-in-Some.ensures.items,
    )

pub returns-in_ok-extend_from_slice-in-None-clause-piece : goal.returns-in_ok-extend_from_slice-in-None-clause-piece
returns-in_ok-extend_from_slice-in-None-clause-piece c =
    let lines = c.args.self.now in (
      position-none (unread lines) (sym c.in-None.ensures),
      slice_range-empty lines.chunk lines.end lines.end (omega arith),
      c.in_ok-extend_from_slice-in-None.ensures.items,
    )
