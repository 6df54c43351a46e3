-- One more offset.
use Rattle.std.proofs.Common.{ℕ, map, max, arith}
use Rattle.std.proofs.lemmas.List.{get_or-map, length-map}
use Rattle.std.proofs.lemmas.List.Sums.{fold_more}
use Rattle.qm_phrase.proofs.phrase_terms.greatest_offset.Goals as goal

pub loop-term-preserved : goal.loop-term-preserved
loop-term-preserved c =
    let terms = c.args.terms.now in
    let i = c.loop-term.term-index in
    let offset : ℕ × ℕ → ℕ = λ pair. pair.0 in
    let more = fold_more max 0 (map offset terms) i 0 (omega (arith, length-map terms offset)) in
    let here = get_or-map offset terms i (0, 0) 0 (omega arith) in
    omega (arith, more, here, c.loop-term.invariant, c.max-greatest.ensures)
