use Rattle.std.proofs.Common.{◌∙◌, sym}
use Rattle.qm_script.specs.Lines.{unread}
use Rattle.qm_script.proofs.LineBytes.{has_break-position}
use Rattle.qm_script.proofs.lines.Lines.has_line.Goals as goal

pub returns : goal.returns
returns c = c.is_some.ensures ∙ has_break-position (unread c.args.self.now) c.line_end.result (sym c.line_end.ensures)
