-- A row as its records show it.
use Rattle.std.proofs.Common.{◌≡◌, ◌∙◌, ℕ, ℤ, zero, suc, ◌<◌, ◌≤◌, ◌<ℤ◌, ◌≤ℤ◌, List, [], ◌∷◌, cond, length, get_or, leb, map, pos}
use Rattle.std.proofs.Common.{ap, arith, inl, inr, refl, subst, sym}
use Rattle.std.specs.Prelude.{All}
use Rattle.std.proofs.lemmas.List.Elements.{All-head, All-tail}
use Rattle.qm_term.specs.Heads.{IsRecord, listed, lists, shown}
use Rattle.qm_term.specs.Members.{Member, total}
use Rattle.qm_term.specs.Pivot.{IsHead, IsPivot, NoPivot, head, reach, top_by, total_top}
use Rattle.qm_term.specs.declared.wand.heads.Head.{Head}

shown_top : (ms : List Member) (q : ℕ) (h : Head) → IsRecord ms h → top_by q (shown h) ≡ top_by q (listed ms h)
shown_top ms q h r = ap (λ (i : ℕ). cond (leb i q) h.max_score 0) r.doc ∙ ap (λ (i : ℕ). cond (leb (head (listed ms h)) q) i 0) r.top

pub shown_reach : (ms : List Member) (q : ℕ) (hs : List Head) → All (IsRecord ms) hs → reach q (map shown hs) ≡ reach q (lists ms hs)
unfolding total
shown_reach ms q [] r = refl
shown_reach ms q (h ∷ hs) r = omega (arith, shown_top ms q h (All-head (IsRecord ms) h hs r), shown_reach ms q hs (All-tail (IsRecord ms) h hs r))

pub shown_tops : (ms : List Member) (hs : List Head) → All (IsRecord ms) hs → total_top (map shown hs) ≡ total_top (lists ms hs)
unfolding total
shown_tops ms [] r = refl
shown_tops ms (h ∷ hs) r = omega (arith, (All-head (IsRecord ms) h hs r).top, shown_tops ms hs (All-tail (IsRecord ms) h hs r))

shown_head : (ms : List Member) (q : ℕ) (hs : List Head) → All (IsRecord ms) hs → IsHead q (map shown hs) → IsHead q (lists ms hs)
shown_head ms q [] r h = h
shown_head ms q (x ∷ hs) r h =
    elim h [ inl e ↦ inl (sym (All-head (IsRecord ms) x hs r).doc ∙ e) | inr f ↦ inr (shown_head ms q hs (All-tail (IsRecord ms) x hs r) f) ]

head_shown : (ms : List Member) (q : ℕ) (hs : List Head) → All (IsRecord ms) hs → IsHead q (lists ms hs) → IsHead q (map shown hs)
head_shown ms q [] r h = h
head_shown ms q (x ∷ hs) r h =
    elim h [ inl e ↦ inl ((All-head (IsRecord ms) x hs r).doc ∙ e) | inr f ↦ inr (head_shown ms q hs (All-tail (IsRecord ms) x hs r) f) ]

pub pivot_shown : (ms : List Member) (th : ℤ) (p : ℕ) (hs : List Head) → All (IsRecord ms) hs → IsPivot th (map shown hs) p → IsPivot th (lists ms hs) p
pivot_shown ms th p hs r v = record {
  below_end = v.below_end;
  is_head = shown_head ms p hs r v.is_head;
  reaches = subst (λ (n : ℕ). th <ℤ pos n) (shown_reach ms p hs r) v.reaches;
  least = λ q less h. subst (λ (n : ℕ). pos n ≤ℤ th) (shown_reach ms q hs r) (v.least q less (head_shown ms q hs r h));
}

pub no_pivot_shown : (ms : List Member) (th : ℤ) (hs : List Head) → All (IsRecord ms) hs → NoPivot th (map shown hs) → NoPivot th (lists ms hs)
no_pivot_shown ms th hs r v = λ q less h. subst (λ (n : ℕ). pos n ≤ℤ th) (shown_reach ms q hs r) (v q less (head_shown ms q hs r h))

-- where a record stands on p, the first does
pub some_front : (ms : List Member) (p n : ℕ) (hs : List Head) → All (IsRecord ms) hs →
    IsHead p (lists ms hs) → ((k : ℕ) (d : Head) → n ≤ k → k < length hs → p < (get_or hs k d).doc) → 0 < n
some_front ms p (suc n) hs r h others = omega arith
some_front ms p zero [] r h others = absurd h
some_front ms p zero (x ∷ hs) r h others =
    elim h [
      | inl e ↦ absurd (omega (arith, others 0 x (omega arith) (omega arith), (All-head (IsRecord ms) x hs r).doc))
      | inr f ↦ some_front ms p zero hs (All-tail (IsRecord ms) x hs r) f (λ k d from l. others (suc k) d (omega arith) (omega arith))
    ]
