use Rattle.std.proofs.Common.{◌≡◌, ◌<◌, ℕ, inl, inr, arith, ◌∙◌, sym, subst}
use Rattle.std.specs.List.{range_with_len}
use Rattle.std.proofs.lemmas.Bool.{cases_eq}
use Rattle.std.proofs.lemmas.List.{get_or-set_other, length-set}
use Rattle.std.proofs.lemmas.Grind.{get_or-set_at, same_number_lists}
use Rattle.std.proofs.lemmas.List.FromFn.{get_or-range_with_len, length-range_with_len}
use Rattle.birchagain.proofs.start.norms.Goals as goal

pub loop-id-preserved : goal.loop-id-preserved
loop-id-preserved c = record {
  len = length-set c.loop-id.norms c.loop-id.id c.loop-id.id ∙ c.loop-id.invariant.len;
  filled = λ k d below. elim (cases_eq k c.loop-id.id) [
    | inl here ↦ get_or-set_at c.loop-id.norms c.loop-id.id k c.loop-id.id d here (omega arith) ∙ sym here
    | inr other ↦ get_or-set_other c.loop-id.norms c.loop-id.id k c.loop-id.id d other ∙ c.loop-id.invariant.filled k d (omega arith)
  ];
}

pub returns-clause-ascending : goal.returns-clause-ascending
returns-clause-ascending c = λ i j d le below.
    let first = c.loop-id.invariant.filled i d (omega arith) in
    let second = c.loop-id.invariant.filled j d (omega arith) in
    omega arith

pub returns-clause-words : goal.returns-clause-words
returns-clause-words c =
    let inv = c.loop-id.invariant in
    same_number_lists _ (range_with_len 0 256) (inv.len ∙ sym (length-range_with_len 0 256)) (λ k below.
    let within : k < 256 = ap_lt inv.len below in
    let here = inv.filled k 0 (omega (arith, within)) in
    let there = get_or-range_with_len 0 256 k 0 within in
    omega (arith, here, there))
  where
    ap_lt : {k m n : ℕ} → m ≡ n → k < m → k < n
    ap_lt {k} e h = subst (λ x. k < x) e h
