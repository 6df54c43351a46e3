use Rattle.std.proofs.Common.{◌++◌, ◌∙◌, ℕ, [], ◌∷◌, append_assoc, ap, sym}
use Rattle.std.specs.Int.{w64, to_le_bytes}
use Rattle.std.specs.List.{flat_map}
use Rattle.std.proofs.lemmas.List.Elements.{All-append, All-cons, All-nil}
use Rattle.qm_schema.specs.Term.{TermKey}
use Rattle.qm_store.specs.TermBytes.{term_bytes}
use Rattle.qm_store.specs.Weights.{IsWeight, weight_bytes}
use Rattle.qm_store.proofs.weight_bytes.push_weights.Goals as goal

pub loop-term-preserved : goal.loop-term-preserved
loop-term-preserved c =
    let at = c.loop-term in
    let w : TermKey × ℕ = (c.in-Some.term.now, c.in-Some.weight.now) in
    let left = c.next.new.self in
    let word = to_le_bytes w64 w.1 in
    let done = at.invariant.done in
    let written = c.in_ok-push_word.ensures.added ∙ ap (λ l. l ++ word) c.in_ok-push_term.ensures.added ∙ append_assoc at.out.items (term_bytes w.0) word in
    record {
      whole =
          ap (λ l. l ++ flat_map weight_bytes left) written
          ∙ append_assoc at.out.items (weight_bytes w) (flat_map weight_bytes left)
          ∙ ap (λ l. at.out.items ++ flat_map weight_bytes l) (sym c.in-Some.ensures.steps)
          ∙ at.invariant.whole;
      done = (
        done.0 ++ w ∷ [],
        append_assoc done.0 (w ∷ []) left ∙ ap (λ l. done.0 ++ l) (sym c.in-Some.ensures.steps) ∙ done.1,
        All-append IsWeight done.0 (w ∷ []) done.2 (All-cons IsWeight w [] (record { term = c.in_ok-push_term.ensures.some; fits = c.push_word.ensures.fits }) (All-nil IsWeight)),
      );
    }
