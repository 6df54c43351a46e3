use Rattle.std.proofs.Common.{◌≡◌, ◌≤◌, ◌+◌, ◌++◌, ◌∙◌, [], ◌∷◌, ap, arith, drop, length, refl, sym}
use Rattle.std.proofs.lemmas.List.{length_push}
use Rattle.std.proofs.lemmas.Result.{err_from_is_err_and}
use Rattle.std.proofs.lemmas.Slice.Zip.{zip_end, zip_turn}
use Rattle.birchagain.specs.Placed.{placed_draft, placed_from, placed_word}
use Rattle.birchagain.specs.declared.refusal.Refusal.TheVariants.{UnevenRows}
use Rattle.birchagain.proofs.PlacedRows.{left-next, none-bad, none-left, placed-joined, placed-more, placed-next}
use Rattle.birchagain.proofs.WordRefusals.{cut-even, rows-refused}
use Rattle.birchagain.proofs.placed.placed_document.Goals as goal

pub loop-end-preserved : goal.loop-end-preserved
loop-end-preserved c =
    let bytes = c.args.bytes.now in
    let places = c.args.places.now in
    let start = c.loop-end.start in
    let first = c.loop-end.first in
    let end = c.in-Some.end.now in
    let last = c.in-Some.last.now in
    let k = length c.loop-end.yielded in
    let n = length (c.loop-end.yielded ++ (c.in-Some.end, c.in-Some.last) ∷ []) in
    let more : n ≡ k + 1 = length_push c.loop-end.yielded (c.in-Some.end, c.in-Some.last) in
    let turn = zip_turn c.args.ends.now c.args.place_ends.now c.loop-end.yielded c.into_iter-end-iterator.result c.loop-end.end-iterator
    c.next.new.self c.next.result (cc) (cc) c.loop-end.yielded_by (c.in-Some.end, c.in-Some.last) c.in-Some.is c.next.ensures.steps in
    let ends : drop k c.args.ends.now ≡ end ∷ drop n c.args.ends.now = left-next c.args.ends.now k n end turn.0 (turn.2 0) more in
    let lasts : drop k c.args.place_ends.now ≡ last ∷ drop n c.args.place_ends.now =
    left-next c.args.place_ends.now k n last turn.1 (turn.3 0) more in
    let word = c.in_ok-term.ensures in
    let given : record { term = c.in_ok-term.term; positions = c.in_ok-term.positions.items } ≡ placed_word start end first last bytes places =
    λ i. record { term = word.term i; positions = word.places i } in
    let rest = placed_from end last (drop n c.args.ends.now) (drop n c.args.place_ends.now) bytes places in record {
      words = ap (λ l. l ++ rest) (c.in_ok-add_term.ensures.added ∙ (λ i. c.loop-end.document.terms ++ (given i) ∷ []))
          ∙ placed-more bytes places start first end last _ _ _ _ c.loop-end.document.terms _ ends lasts c.loop-end.invariant.words;
      lengths = c.in_ok-add_term.ensures.lengths ∙ c.loop-end.invariant.lengths;
      good = λ are. c.loop-end.invariant.good (placed-joined bytes places start first end last _ _ _ _ ends lasts word.good are);
      left = λ all. (placed-next bytes places start first end last _ _ _ _ ends lasts (c.loop-end.invariant.left all)).1;
    }

pub returns-in_err-term-clause-refused : goal.returns-in_err-term-clause-refused
returns-in_err-term-clause-refused c =
    let p = err_from_is_err_and c.from_residual.result c.from_residual.ensures.1 in
    let turn = zip_turn c.args.ends.now c.args.place_ends.now c.loop-end.yielded c.into_iter-end-iterator.result c.loop-end.end-iterator
    c.next.new.self c.next.result (cc) (cc) c.loop-end.yielded_by (c.in-Some.end, c.in-Some.last) c.in-Some.is c.next.ensures.steps in
    let k = length c.loop-end.yielded in
    let ends = left-next c.args.ends.now k (k + 1) c.in-Some.end.now turn.0 (turn.2 0) refl in
    let lasts = left-next c.args.place_ends.now k (k + 1) c.in-Some.last.now turn.1 (turn.3 0) refl in
    rw (p.1, p.2) (rows-refused c.in_err-term.field-0.0 c.args.ends.now c.args.place_ends.now c.args.bytes.now c.args.places.now _
    (λ all. (placed-next c.args.bytes.now c.args.places.now c.loop-end.start c.loop-end.first c.in-Some.end.now c.in-Some.last.now _ _ _ _
    ends lasts (c.loop-end.invariant.left all)).0) c.in_err-term.ensures.refused)

pub returns-in_err-term-clause-uneven : goal.returns-in_err-term-clause-uneven
returns-in_err-term-clause-uneven c =
    let p = err_from_is_err_and c.from_residual.result c.from_residual.ensures.1 in
    let even : length c.args.place_ends.now ≡ length c.args.ends.now = omega (arith, c.if-place_ends-ends.false) in
    let other : c.in_err-term.field-0.0 ≡ UnevenRows → ⊥ = cut-even c.in_err-term.field-0.0 _ c.in_err-term.ensures.refused in
    rw (p.1, p.2) (λ is _. other (cc), λ uneven. absurd (uneven even))

pub returns-clause-draft : goal.returns-clause-draft
unfolding placed_draft
returns-clause-draft c =
    let turns = zip_end c.args.ends.now c.args.place_ends.now c.loop-end.yielded c.into_iter-end-iterator.result c.loop-end.end-iterator
    c.next.new.self c.next.result (cc) (cc) c.loop-end.yielded_by c.in-None.is c.next.ensures.steps in
    let all : length c.args.ends.now ≤ length c.loop-end.yielded = omega (arith, turns, c.if-place_ends-ends.false) in
    let terms = c.in_ok-set_length.ensures.terms
    ∙ sym (none-left c.args.bytes.now c.args.places.now c.loop-end.start c.loop-end.first (length c.loop-end.yielded) c.args.ends.now
    c.args.place_ends.now c.loop-end.document.terms all) ∙ c.loop-end.invariant.words in
    let lengths = c.in_ok-set_length.ensures.set
    ∙ (λ i. c.loop-end.invariant.lengths i ++ (c.body.ensures i, c.args.length) ∷ []) in
    λ i. record { terms = terms i; lengths = lengths i }

pub returns-clause-good : goal.returns-clause-good
returns-clause-good c =
    let turns = zip_end c.args.ends.now c.args.place_ends.now c.loop-end.yielded c.into_iter-end-iterator.result c.loop-end.end-iterator
    c.next.new.self c.next.result (cc) (cc) c.loop-end.yielded_by c.in-None.is c.next.ensures.steps in
    c.loop-end.invariant.good (none-bad c.args.bytes.now c.args.places.now c.loop-end.start c.loop-end.first (length c.loop-end.yielded)
    c.args.ends.now c.args.place_ends.now (omega (arith, turns, c.if-place_ends-ends.false)) (omega (arith, turns, c.if-place_ends-ends.false)))
