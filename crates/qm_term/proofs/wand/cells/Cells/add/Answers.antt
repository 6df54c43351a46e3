-- A place is a bit and a cell.
use Rattle.std.proofs.Common.{◌∙◌, ℕ, ◌+◌, ◌-◌, ◌<◌, ◌≤◌, ◌==◌, ◌||◌, List, ap, arith, get_or, length, set, refl, subst, sym}
use Rattle.std.proofs.lemmas.List.{length-set}
use Rattle.qm_docset.specs.Entry.{greatest_score}
use Rattle.qm_docset.specs.Words.{words_have}
use Rattle.qm_term.specs.Cells.{cell_of, cells_has}
use Rattle.qm_term.specs.declared.wand.cells.Cell.{Cell}
use Rattle.qm_combine.proofs.WindowWords.{has_at, has_at-put}
use Rattle.qm_term.proofs.StretchPlaces.{cell_at, cell_here, cell_other, cell_put, cell_read}
use Rattle.qm_term.proofs.WandSteps.{whole}
use Rattle.qm_term.proofs.wand.cells.Cells.add.Goals as goal

pub put-requires-clause-place : goal.put-requires-clause-place
put-requires-clause-place g c = omega (arith, ap length c.deref_mut-2.ensures.value, c.requires.span.0, c.requires.span.1)

pub put-requires-clause-words : goal.put-requires-clause-words
put-requires-clause-words g c =
    let w = c.args.self.now in
    omega (arith, ap length c.deref_mut.ensures.value, w.words.ok.0, w.sixty_four, w.few, w.cells.ok.0, c.requires.span.0, c.requires.span.1)

pub put-requires-clause-room : goal.put-requires-clause-room
unfolding cell_of
put-requires-clause-room g c = λ d.
    let w = c.args.self.now in
    let inside : c.args.doc - w.start < length w.cells.items = omega (arith, c.requires.span.0, c.requires.span.1) in
    let is = cell_read w.start w.cells.items c.deref_mut-2.result.now w.clear c.args.doc c.requires.span.0 inside c.deref_mut-2.ensures.value d in
    subst (λ (x : Cell _). g.C.ScoreCombiner.has_room x.state c.args.score) (sym is) c.requires.room

pub put-requires-clause-fits : goal.put-requires-clause-fits
unfolding cell_of
put-requires-clause-fits g c = λ d.
    let w = c.args.self.now in
    let inside : c.args.doc - w.start < length w.cells.items = omega (arith, c.requires.span.0, c.requires.span.1) in
    let is = cell_read w.start w.cells.items c.deref_mut-2.result.now w.clear c.args.doc c.requires.span.0 inside c.deref_mut-2.ensures.value d in
    subst (λ (x : Cell _). x.bound + c.args.bound ≤ greatest_score) (sym is) c.requires.fits

pub returns : goal.returns
unfolding cells_has cell_of
returns g c =
    let w = c.args.self.now in
    let doc : ℕ = c.args.doc in
    let low = c.requires.span.0 in
    let inside : doc - w.start < length w.cells.items = omega (arith, low, c.requires.span.1) in
    let words = whole w.words.len w.words.items c.put.new.words w.words.ok.0 (c.put.auto.words ∙ ap length c.deref_mut.ensures.value) in
    let is = c.put.ensures.cells w.clear ∙ ap (λ (xs : List (Cell _)). set xs (doc - w.start) (record {
      bound = (get_or xs (doc - w.start) w.clear).bound + c.args.bound;
      state = g.C.ScoreCombiner.step (get_or xs (doc - w.start) w.clear).state c.args.score;
    })) c.deref_mut-2.ensures.value in
    let cells = whole w.cells.len w.cells.items c.put.new.cells w.cells.ok.0 (c.put.auto.cells ∙ ap length c.deref_mut-2.ensures.value) ∙ is in
    let v : Cell _ = record {
      bound = (get_or w.cells.items (doc - w.start) w.clear).bound + c.args.bound;
      state = g.C.ScoreCombiner.step (get_or w.cells.items (doc - w.start) w.clear).state c.args.score;
    } in
    let here = cell_here w.start w.cells.items w.clear v doc low in
    let there = ap (λ (xs : List (Cell _)). cell_at w.start xs w.clear doc) cells ∙ cell_put w.start w.cells.items w.clear v doc low inside in
    record {
      has = λ d. ap (λ ws. has_at w.start ws d) words ∙ has_at-put w.start doc w.words.items c.put.new.words low (λ x. c.put.ensures.words x
          ∙ ap (λ ws. x == doc - w.start || words_have ws x) c.deref_mut.ensures.value) d;
      sum = ap (λ (x : Cell _). x.bound) there ∙ ap (λ (x : Cell _). x.bound + c.args.bound) (sym here);
      state = ap (λ (x : Cell _). x.state) there ∙ ap (λ (x : Cell _). g.C.ScoreCombiner.step x.state c.args.score) (sym here);
      others = λ d other. ap (λ (xs : List (Cell _)). cell_at w.start xs w.clear d) cells ∙ cell_other w.start w.cells.items w.clear v doc low d other;
      alike = record {
        start = refl;
        end = ap (λ (xs : List (Cell _)). w.start + length xs) cells ∙ ap (λ (n : ℕ). w.start + n) (length-set w.cells.items (doc - w.start) v);
        clear = refl;
      };
    }
