-- No word has a member, and there is no cell yet.
use Rattle.std.proofs.Common.{◌≡◌, ℕ, ap, false, get_or}
use Rattle.qm_docset.specs.Words.{words_have}
use Rattle.qm_docset.proofs.BitSetLemmas.{words_have-replicate}
use Rattle.qm_term.specs.Cells.{cell_of, cells_has}
use Rattle.qm_term.specs.declared.wand.cells.Cell.{Cell}
use Rattle.qm_term.proofs.StretchPlaces.{all_clear, none_there}
use Rattle.qm_term.proofs.wand.cells.Cells.new.Goals as goal

pub returns-clause-clear : goal.returns-clause-clear
unfolding cells_has cell_of
returns-clause-clear g c = λ d.
    let words = c.in_ok-words.words.items in
    let cells = c.in_ok-cells.cells.items in
    let clear : Cell _ = record { bound = 0; state = c.clear.new.self } in
    let none : (x : ℕ) → words_have words x ≡ false = λ x.
    rw (c.in_ok-words.ensures.items_if_clones_equal (λ word same. same)) (words_have-replicate 64 c.empty.result c.empty.ensures x) in
    (none_there 0 words none d, all_clear 0 cells clear (λ x. ap (λ xs. get_or xs x clear) c.in_ok-cells.ensures.items) d)
