-- The least member of a word is the first document; it is taken out as a bit and a cell.
use Rattle.std.proofs.Common.{◌≡◌, ◌∙◌, ℕ, ◌+◌, ◌-◌, ◌*◌, ◌/◌, ◌%◌, ◌<◌, ◌≤◌, ◌==◌, ◌&&◌, not, true, ap, arith, eq-eqb, get_or, length, refl, set, subst, sym}
use Rattle.std.proofs.lemmas.Bool.{false≢true}
use Rattle.std.proofs.lemmas.List.{get_or_read, length-set}
use Rattle.qm_docset.proofs.BitSetLemmas.{words_have-remove}
use Rattle.qm_docset.proofs.MembersLemmas.{IsFirst}
use Rattle.qm_docset.specs.Words.{words_have}
use Rattle.qm_docset.specs.TinySet.{tiny_has}
use Rattle.qm_combine.proofs.WindowWords.{has_at-from, none_in, unmasked, first_in}
use Rattle.qm_term.specs.Cells.{cell_of, cells_has}
use Rattle.qm_term.proofs.StretchPlaces.{cell_at, cell_here, cell_other, cell_put, has_at-taken}
use Rattle.qm_term.proofs.wand.cells.Cells.pop_first.Goals as goal
use Rattle.qm_term.proofs.wand.cells.Cells.pop_first.Goals.{In_ok-lowest}
use Rattle.qm_term.proofs.wand.cells.Cells.pop_first.Given.{Over}

pub returns-in_err-lowest-clause-none : goal.returns-in_err-lowest-clause-none
unfolding cells_has
returns-in_err-lowest-clause-none g c = λ _ d from to.
    let w = c.args.self.now in
    let words = w.words.items in
    let i = c.args.word in
    let inside : i < length words = omega (arith, c.requires.word, w.sixty_four, w.words.ok.0) in
    let none = none_in words i (64 * i) c.index.result.now (λ y above before. absurd (omega (arith, above, before)))
    (λ x small. unmasked words (64 * i) i x c.index.result.now inside c.index.ensures (omega arith) small) c.in_err-lowest.ensures.lowest in
    has_at-from w.start words d (omega (arith, from)) ∙ none (d - w.start) (omega (arith, from)) (omega (arith, from, to))

found : (g : Over) (c : In_ok-lowest g)
    → (c.in_ok-lowest.lowest < 64)
    × IsFirst (words_have c.args.self.now.words.items) (64 * c.args.word) (64 * (c.args.word + 1)) (64 * c.args.word + c.in_ok-lowest.lowest)
found g c =
    let w = c.args.self.now in
    let words = w.words.items in
    let i = c.args.word in
    let inside : i < length words = omega (arith, c.requires.word, w.sixty_four, w.words.ok.0) in
    first_in words i (64 * i) c.index.result.now (λ y above before. absurd (omega (arith, above, before)))
    (λ x small. unmasked words (64 * i) i x c.index.result.now inside c.index.ensures (omega arith) small)
    (64 * (i + 1)) c.in_ok-lowest.lowest (omega arith) c.in_ok-lowest.ensures.lowest

-- the document at this place
there : (g : Over) (c : In_ok-lowest g) → cells_has c.args.self.now (c.args.self.now.start + (c.args.word * 64 + c.in_ok-lowest.lowest)) ≡ true
unfolding cells_has
there g c =
    let w = c.args.self.now in
    let doc = w.start + (c.args.word * 64 + c.in_ok-lowest.lowest) in
    let place : doc - w.start ≡ 64 * c.args.word + c.in_ok-lowest.lowest = omega arith in
    has_at-from w.start w.words.items doc (omega arith) ∙ rw place (found g c).1.member

pub index-cell-requires : goal.index-cell-requires
index-cell-requires g c =
    let w = c.args.self.now in
    let inside = c.requires.inside _ (there g (goal.at.index-cell-requires g c).In_ok-lowest) in
    omega (arith, inside, w.cells.ok.0)

pub index_mut-requires-2 : goal.index_mut-requires-2
index_mut-requires-2 g c =
    let w = c.args.self.now in
    let inside = c.requires.inside _ (there g (goal.at.index_mut-requires-2 g c).In_ok-lowest) in
    omega (arith, inside, w.cells.ok.0)

pub overflow_cast-result : goal.overflow_cast-result
overflow_cast-result g c = omega (arith, (found g (goal.at.overflow_cast-result g c).In_ok-lowest).0, c.requires.word)

pub overflow_add-result : goal.overflow_add-result
overflow_add-result g c = omega (arith, (found g (goal.at.overflow_add-result g c).In_ok-lowest).0, c.args.self.now.within, c.requires.word)

pub returns-clause-first : goal.returns-clause-first
unfolding cells_has
returns-clause-first g c =
    let w = c.args.self.now in
    let is = (goal.at.returns-clause-first g c).In_ok-lowest in
    let first = (found g is).1 in
    record {
      has = there g is;
      before = λ d from to. has_at-from w.start w.words.items d (omega (arith, from))
          ∙ first.none_before (d - w.start) (omega (arith, from)) (omega (arith, from, to));
      below = omega (arith, (found g is).0);
    }

pub returns-clause-taken : goal.returns-clause-taken
unfolding cells_has cell_of
returns-clause-taken g c =
    let w = c.args.self.now in
    let is = (goal.at.returns-clause-taken g c).In_ok-lowest in
    let i = c.args.word in
    let lowest = c.in_ok-lowest.lowest in
    let place = i * 64 + lowest in
    let doc = w.start + place in
    let small = (found g is).0 in
    let at : doc - w.start ≡ place = omega arith in
    let low : w.start ≤ doc = omega arith in
    let inside : place < length w.cells.items = omega (arith, c.requires.inside doc (there g is), w.cells.ok.0) in
    let within : i < length w.words.items = omega (arith, c.requires.word, w.sixty_four, w.words.ok.0) in
    let div : place / 64 ≡ i = omega (arith, small) in
    let rest : lowest ≡ place % 64 = omega (arith, small) in
    let was = c.index.result.now in
    let left = c.pop_lowest.new.self in
    let less : (x : ℕ) → tiny_has left x ≡ (tiny_has was x && not (x == place % 64)) =
    subst (λ k. (x : ℕ) → tiny_has left x ≡ (tiny_has was x && not (x == k))) rest c.in_ok-lowest.ensures.others in
    let removed : (x : ℕ) → words_have (set w.words.items i left) x ≡ (words_have w.words.items x && not (x == place)) =
    subst (λ k. (x : ℕ) → words_have (set w.words.items k left) x ≡ (words_have w.words.items x && not (x == place))) div
    (words_have-remove w.words.items place was left (omega (arith, div, within)) (subst (λ k. was ≡ get_or w.words.items k was) (sym div) c.index.ensures)
    less) in
    record {
      cell = get_or_read w.cells.items place c.index-cell.result.now inside c.index-cell.ensures w.clear
          ∙ ap (λ k. get_or w.cells.items k w.clear) (sym at) ∙ sym (cell_here w.start w.cells.items w.clear w.clear doc low);
      has = has_at-taken w.start doc w.words.items (set w.words.items i left) low
          (subst (λ k. (x : ℕ) → words_have (set w.words.items i left) x ≡ (words_have w.words.items x && not (x == k))) (sym at) removed);
      cleared = subst (λ k. cell_at w.start (set w.cells.items k w.clear) w.clear doc ≡ w.clear) at
          (cell_put w.start w.cells.items w.clear w.clear doc low (omega (arith, at, inside)));
      others = λ d other.
          subst (λ k. cell_at w.start (set w.cells.items k w.clear) w.clear d ≡ cell_at w.start w.cells.items w.clear d) at
          (cell_other w.start w.cells.items w.clear w.clear doc low d (λ e. absurd (false≢true (sym other ∙ eq-eqb d doc e))));
      alike = record { start = refl; end = omega (arith, length-set w.cells.items place w.clear); clear = refl };
    }
