use Rattle.std.proofs.Common.{◌≡◌, ◌-◌, All, drop, take, ℕ, arith, subst, ap, ◌∙◌, suc}
use Rattle.qm_phrase.proofs.PrefixEnds.{begins-greatest, end-decides_at, raised}
use Rattle.qm_phrase.proofs.prefix.prefix_end.Goals as goal

pub returns-then-length-eq0-clause-end : goal.returns-then-length-eq0-clause-end
returns-then-length-eq0-clause-end c text bytes past =
    begins-greatest c.args.prefix.now text
    (subst (λ n. All (λ byte. byte ≡ 255) (drop n c.args.prefix.now)) c.if-length-eq0.true c.length_without_trailing_max-length.ensures.trailing) bytes past

pub returns-clause-end : goal.returns-clause-end
returns-clause-end c text bytes past = let l = c.length_without_trailing_max-length.ensures in
    let n = c.length_without_trailing_max-length.result in let m : ℕ = n - 1 in
    let next : n ≡ suc m = omega (arith, c.if-length-eq0.false) in
    end-decides_at c.args.prefix.now m (omega (arith, l.within, next)) (l.last (omega (arith, next)))
    (subst (λ k. All (λ byte. byte ≡ 255) (drop k c.args.prefix.now)) next l.trailing) _ text
    (raised c.args.prefix.now c.in_ok-end.end.items m c.index_mut.result.now (omega (arith, l.within, next))
    (c.in_ok-end.ensures.items ∙ ap (λ k. take k c.args.prefix.now) next) c.index_mut.ensures.value) bytes past
