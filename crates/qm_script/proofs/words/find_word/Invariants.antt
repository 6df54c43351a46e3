-- Only blanks stand before the place, and none from there on.
use Rattle.std.proofs.Common.{◌≡◌, ◌≤◌, drop}
use Rattle.std.specs.Str.{IsCharBoundary}
use Rattle.qm_script.specs.Script.{line_words}
use Rattle.qm_script.proofs.BlankLemmas.{HasNoBlank}
use Rattle.qm_script.proofs.words.find_word.Given as goal

abbrev pub invariant-loop-at : goal.invariant-loop-at
invariant-loop-at l = record {
  order : l.start ≤ l.at;
  boundary : IsCharBoundary l.line l.start;
  none : HasNoBlank l.line l.start l.at;
  words : line_words (drop l.start l.line) ≡ line_words (drop l.from l.line);
}
