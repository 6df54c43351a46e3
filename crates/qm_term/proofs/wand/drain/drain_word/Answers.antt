-- One by one the documents of the word are taken out and gone over.
use Rattle.std.proofs.Common.{◌≡◌, ◌∙◌, ℕ, ◌+◌, ◌*◌, ◌≤◌, ◌&&◌, ◌==◌, List, ◌∷◌, ap, arith, length, not, of_z, pos, refl, subst, sym, to_z, w64}
use Rattle.std.proofs.lemmas.Int.{to_z-of_z}
use Rattle.std.proofs.lemmas.List.Elements.{All-head, All-tail}
use Rattle.qm_docset.specs.Entry.{greatest_score}
use Rattle.qm_term.specs.Cells.{LackAll, Shown, all_shown, cell_of, cells_start, entries_shown}
use Rattle.qm_term.specs.RunCounts.{one_if_above}
use Rattle.qm_term.specs.Runs.{InRange, MayTurn, Turn, MayPrune}
use Rattle.qm_term.specs.RunScorers.{ticks_of}
use Rattle.qm_term.specs.Stretches.{AreWithin}
use Rattle.qm_term.specs.declared.wand.cells.Cell.{Cell}
use Rattle.qm_term.proofs.StretchShown.{all_taken, goes_further, goes_nowhere, goes_one, has_from, lacks_all, shown_at, tidy_taken, was_there}
use Rattle.qm_term.proofs.WandPlain.{at_most_one}
use Rattle.qm_term.proofs.wand.drain.drain_word.Goals as goal
use Rattle.qm_term.proofs.wand.drain.drain_word.Goals.{In-Some}
use Rattle.qm_term.proofs.wand.drain.drain_word.Given.{Over}

pub loop-taken-init : goal.loop-taken-init
loop-taken-init g c =
    let is = to_z-of_z w64 c.args.threshold c.ranges.threshold in
    record {
      taken = record { had = λ d here. here; tidy = c.requires.tidy; alike = record { start = refl; end = refl; clear = refl } };
      within = c.requires.within;
      before = c.requires.before;
      room = omega arith;
      may = rw is c.requires.callable;
      goes = goes_nowhere (InRange (goal.F-step g)) g.C.ScoreCombiner.value (to_z w64 (of_z w64 c.args.threshold)) c.args.callback.now c.args.cells.now _;
    }

pub pop_first-requires-clause-inside : goal.pop_first-requires-clause-inside
pop_first-requires-clause-inside g c = λ d here.
    let inv = c.loop-taken.invariant in
    omega (arith, c.requires.inside d (inv.taken.had d here), inv.taken.alike.end)

-- what is shown begins with the document
shown : (g : Over) (c : In-Some g)
    → all_shown g.C.ScoreCombiner.value c.loop-taken.cells ≡ shown_at g.C.ScoreCombiner.value c.loop-taken.cells c.in-Some.taken.doc
    ∷ all_shown g.C.ScoreCombiner.value c.pop_first.new.self
shown g c =
    let inv = c.loop-taken.invariant in
    let w = c.loop-taken.cells in
    let doc : ℕ = c.in-Some.taken.doc in
    let start : cells_start w ≡ cells_start c.args.cells.now = inv.taken.alike.start in
    let before : LackAll w (cells_start w) doc =
    λ d from to. lacks_all w 0 (cells_start c.args.cells.now + 64 * c.args.word) doc inv.before
    (λ x past below. c.in-Some.ensures.first.before x (omega (arith, past, start)) below) d (omega arith) to in
    all_taken g.C.ScoreCombiner.value w c.pop_first.new.self doc c.in-Some.ensures.first.has c.in-Some.ensures.taken.has c.in-Some.ensures.taken.others
    c.in-Some.ensures.taken.alike (has_from w doc c.in-Some.ensures.first.has)
    (omega (arith, c.requires.inside doc (inv.taken.had doc c.in-Some.ensures.first.has), inv.taken.alike.end)) before

within_first : (g : Over) (c : In-Some g) →
    (g.C.ScoreCombiner.value (cell_of c.loop-taken.cells c.in-Some.taken.doc).state ≤ (cell_of c.loop-taken.cells c.in-Some.taken.doc).bound)
    × ((cell_of c.loop-taken.cells c.in-Some.taken.doc).bound ≤ greatest_score)
within_first g c =
    All-head (λ (e : Shown). (e.score ≤ e.bound) × (e.bound ≤ greatest_score)) _ _ (subst AreWithin (shown g c) c.loop-taken.invariant.within)

pub score_cell-threshold-requires-clause-within : goal.score_cell-threshold-requires-clause-within
score_cell-threshold-requires-clause-within g c =
    subst (λ (x : Cell _). g.C.ScoreCombiner.value x.state ≤ x.bound) (sym c.in-Some.ensures.taken.cell)
    (within_first g (goal.at.score_cell-threshold-requires-clause-within g c).In-Some).0

pub score_cell-threshold-requires-clause-bound : goal.score_cell-threshold-requires-clause-bound
score_cell-threshold-requires-clause-bound g c =
    subst (λ (x : Cell _). x.bound ≤ greatest_score) (sym c.in-Some.ensures.taken.cell)
    (within_first g (goal.at.score_cell-threshold-requires-clause-bound g c).In-Some).1

pub score_cell-threshold-requires-clause-room : goal.score_cell-threshold-requires-clause-room
score_cell-threshold-requires-clause-room g c =
    omega (
      arith,
      ap length (shown g (goal.at.score_cell-threshold-requires-clause-room g c).In-Some),
      c.loop-taken.invariant.room,
      c.requires.room,
    )

pub score_cell-threshold-requires-clause-callable : goal.score_cell-threshold-requires-clause-callable
score_cell-threshold-requires-clause-callable g c =
    let th = to_z w64 c.loop-taken.threshold-bits in
    let may = subst (λ (xs : List Shown). MayPrune (InRange (goal.F-step g)) (goal.F-pre g) th c.loop-taken.callback (entries_shown xs))
    (shown g (goal.at.score_cell-threshold-requires-clause-callable g c).In-Some) c.loop-taken.invariant.may in
    subst (λ (x : Cell _). MayTurn (goal.F-pre g) th c.loop-taken.callback c.in-Some.taken.doc (g.C.ScoreCombiner.value x.state))
    (sym c.in-Some.ensures.taken.cell) may.0

pub loop-taken-preserved : goal.loop-taken-preserved
loop-taken-preserved g c =
    let call = InRange (goal.F-step g) in
    let th = to_z w64 c.loop-taken.threshold-bits in
    let value = g.C.ScoreCombiner.value in
    let inv = c.loop-taken.invariant in
    let old = c.loop-taken.cells in
    let new = c.pop_first.new.self in
    let doc : ℕ = c.in-Some.taken.doc in
    let e = c.in-Some.ensures.taken in
    let is = shown g (goal.at.loop-taken-preserved g c).In-Some in
    let scored = c.score_cell-threshold in
    let after = to_z w64 (of_z w64 scored.result) in
    let same_threshold : after ≡ scored.result = to_z-of_z w64 scored.result (record { sfits = scored.type_inv }) in
    let one = one_if_above th (cell_of old doc).bound in
    let ticks : ticks_of scored.new.ticks ≡ ticks_of c.loop-taken.ticks + one = scored.ensures.ticks
    ∙ ap (λ (x : Cell _). ticks_of c.loop-taken.ticks + one_if_above th x.bound) e.cell in
    let turn : Turn call th c.loop-taken.callback doc (pos (value (cell_of old doc).state)) after scored.new.callback =
    subst (λ (x : Cell _). Turn call th c.loop-taken.callback doc (pos (value x.state)) after scored.new.callback) e.cell
    (subst (λ t. Turn call th c.loop-taken.callback doc (pos (value c.in-Some.taken.cell.state)) t scored.new.callback) (sym same_threshold) scored.ensures.turn) in
    let start = to_z w64 (of_z w64 c.args.threshold) in
    let may = subst (λ (xs : List Shown). MayPrune call (goal.F-pre g) th c.loop-taken.callback (entries_shown xs)) is inv.may in
    record {
      taken = record {
        had = λ d here. inv.taken.had d (was_there value old new doc c.in-Some.ensures.first.has e.has e.others d here);
        tidy = λ d none. tidy_taken value old new doc c.in-Some.ensures.first.has e.has e.others inv.taken.tidy e.cleared d none ∙ sym e.alike.clear;
        alike = record {
          start = e.alike.start ∙ inv.taken.alike.start;
          end = e.alike.end ∙ inv.taken.alike.end;
          clear = e.alike.clear ∙ inv.taken.alike.clear;
        };
      };
      within = All-tail (λ (x : Shown). (x.score ≤ x.bound) × (x.bound ≤ greatest_score)) _ _ (subst AreWithin is inv.within);
      before = λ d from to. e.has d ∙ ap (λ b. b && not (d == doc)) (inv.before d from to);
      room = omega (arith, ap length is, inv.room, ticks, at_most_one th (cell_of old doc).bound);
      may = may.1 after scored.new.callback turn;
      goes = goes_further call value start th after c.args.callback.now c.loop-taken.callback scored.new.callback c.args.cells.now old new
          (ticks_of c.args.ticks.now) (ticks_of c.loop-taken.ticks) (ticks_of scored.new.ticks) inv.goes
          (goes_one call value th after c.loop-taken.callback scored.new.callback old new (ticks_of c.loop-taken.ticks) (ticks_of scored.new.ticks) doc is turn ticks);
    }

pub loop-taken-smaller : goal.loop-taken-smaller
loop-taken-smaller g c = omega (arith, ap length (shown g (goal.at.loop-taken-smaller g c).In-Some))

pub returns-clause-before : goal.returns-clause-before
returns-clause-before g c =
    let inv = c.loop-taken.invariant in
    let start = inv.taken.alike.start in
    subst (λ w. LackAll w 0 (cells_start c.args.cells.now + 64 * (c.args.word + 1))) (sym (c.in_default.ensures.same refl))
    (lacks_all c.loop-taken.cells 0 (cells_start c.args.cells.now + 64 * c.args.word) (cells_start c.args.cells.now + 64 * (c.args.word + 1)) inv.before
    (λ d past below. c.in_default.ensures.none refl d (omega (arith, past, start)) (omega (arith, below, start))))
