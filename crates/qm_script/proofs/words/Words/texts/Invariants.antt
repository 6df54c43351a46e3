use Rattle.std.proofs.Common.{◌≡◌, ◌-◌}
use Rattle.qm_script.specs.Cursor.{words_left}
use Rattle.qm_script.specs.Script.{many_at, word_at}
use Rattle.qm_script.specs.Spelled.{texts}
use Rattle.qm_script.proofs.Reading.{with_front}
use Rattle.qm_script.proofs.words.Words.texts.Given as goal

abbrev pub invariant-loop : goal.invariant-loop
invariant-loop l =
    with_front (texts l.texts.items) (many_at word_at (l.count - l.counter) (words_left l.self)) ≡ many_at word_at l.count (words_left l.initial.self)
