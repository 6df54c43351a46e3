-- What is added is clear, as what was there is.
use Rattle.std.proofs.Common.{◌≡◌, ℕ, arith, get_or}
use Rattle.qm_term.specs.Cells.{cell_of, cells_has}
use Rattle.qm_term.proofs.StretchPlaces.{all_clear, clear_cells, clear_resized, clear_words, none_there}
use Rattle.qm_term.proofs.wand.cells.Cells.begin.Goals as goal

pub returns-then-len-count-clause-clear : goal.returns-then-len-count-clause-clear
unfolding cells_has cell_of
returns-then-len-count-clause-clear g c = λ d.
    let w = c.args.self.now in
    let none = clear_words w.start w.words.items (λ x. (c.requires.clear x).0) in
    let old = clear_cells w.start w.cells.items w.clear (λ x. (c.requires.clear x).1) in
    let ok = c.resize.ensures.succeeds (omega (arith, w.room, c.requires.count)) in
    let now : (x : ℕ) → get_or c.resize.new.self.items x w.clear ≡ w.clear = clear_resized w.cells.items c.resize.new.self.items w.clear c.args.count old
    (omega (arith, rw ok at c.resize.ensures.len, c.resize.new.self.ok.0))
    (λ k below inside. c.resize.ensures.by_index.0 k w.clear below (omega (arith, inside, w.cells.ok.0)))
    (λ k past below. c.resize.ensures.by_index.1 k w.clear ok (omega (arith, past, w.cells.ok.0)) below) in
    (none_there c.args.start w.words.items none d, all_clear c.args.start c.resize.new.self.items w.clear now d)

pub returns-else-len-count-clause-clear : goal.returns-else-len-count-clause-clear
unfolding cells_has cell_of
returns-else-len-count-clause-clear g c = λ d.
    let w = c.args.self.now in
    let none = clear_words w.start w.words.items (λ x. (c.requires.clear x).0) in
    let now = clear_cells w.start w.cells.items w.clear (λ x. (c.requires.clear x).1) in
    (none_there c.args.start w.words.items none d, all_clear c.args.start w.cells.items w.clear now d)
