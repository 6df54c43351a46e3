-- The order of bytes at a prefix and at its end.
use Rattle.std.specs.Prelude.{◌≡◌, ℕ, ◌+◌, ◌<◌, ◌↔◌, List, [], ◌∷◌, ◌++◌, All, length, take}
use Rattle.std.proofs.Math.Seq.{split_at, take-set-lt, take-suc-set}
use Rattle.std.proofs.Math.ListN.{set}
use Rattle.std.proofs.lemmas.List.{get_or-take, get_or_default}
use Rattle.std.proofs.Common.{drop, get_or, suc, arith, sym, ap, refl, ◌∙◌, inl, inr, subst}
use Rattle.std.specs.Ordering.{nat_cmp, ordering_then}
use Rattle.std.specs.Cmp.{nat_cmp_is}
use Rattle.std.specs.Cmp.Lexicographic.{slice_cmp}
use Rattle.std.specs.declared.cmp.Ordering.TheVariants.{Less, Equal, Greater}
use Rattle.std.proofs.lemmas.Bool.{cases_lt, cases_order}
use Rattle.std.proofs.lemmas.List.Elements.{All-head, All-tail}
use Rattle.qm_phrase.specs.PrefixEnd.{AreBytes, BeginsWith, IsBefore}

-- a lesser first byte decides
before-head : (x y : ℕ) (xs ys : List ℕ) → x < y → IsBefore (x ∷ xs) (y ∷ ys)
before-head x y xs ys h = ap (λ o. ordering_then o (slice_cmp nat_cmp xs ys)) (sym (nat_cmp_is x y Less h))

before-greater : (x y : ℕ) (xs ys : List ℕ) → y < x → ¬ IsBefore (x ∷ xs) (y ∷ ys)
before-greater x y xs ys h b =
    let o : slice_cmp nat_cmp (x ∷ xs) (y ∷ ys) ≡ Greater = ap (λ o. ordering_then o (slice_cmp nat_cmp xs ys)) (sym (nat_cmp_is x y Greater h)) in
    cc

-- and behind equal ones the rest
before-same : (x y : ℕ) (xs ys : List ℕ) → x ≡ y → slice_cmp nat_cmp (x ∷ xs) (y ∷ ys) ≡ slice_cmp nat_cmp xs ys
before-same x y xs ys e = ap (λ o. ordering_then o (slice_cmp nat_cmp xs ys)) (sym (nat_cmp_is x y Equal e))

abbrev pub IsFull : ℕ → Type 0
IsFull b = b ≡ 255

-- behind a prefix of bytes 255 no text of bytes comes that does not begin with it
pub begins-greatest : (prefix text : List ℕ) → All IsFull prefix → AreBytes text → ¬ IsBefore text prefix → BeginsWith prefix text
begins-greatest [] text full bytes past = refl
begins-greatest (b ∷ bs) [] full bytes past = absurd (past refl)
begins-greatest (b ∷ bs) (c ∷ cs) full bytes past =
    elim (cases_lt c b) [
      | inl less ↦ absurd (past (before-head c b cs bs less))
      | inr more ↦
          let top : b ≡ 255 = All-head IsFull b bs full in
          let byte : c < 256 = All-head (λ x. x < 256) c cs bytes in
          let same : c ≡ b = omega arith in
          let rest : take (length bs) cs ≡ bs =
          begins-greatest bs cs (All-tail IsFull b bs full) (All-tail (λ x. x < 256) c cs bytes) (λ k. past (before-same c b cs bs same ∙ k)) in
          (λ i. same i ∷ rest i)
    ]

not-below-next : (c b : ℕ) (cs : List ℕ) → b < c → ¬ IsBefore (c ∷ cs) ((b + 1) ∷ [])
not-below-next c b cs above before =
    elim (cases_lt (b + 1) c) [
      | inl past ↦ before-greater c (b + 1) cs [] past before
      | inr near ↦ not-before-empty cs (sym (before-same c (b + 1) cs [] (omega arith)) ∙ before)
    ]
  where
    not-before-empty : (xs : List ℕ) → ¬ IsBefore xs []
    not-before-empty [] h = cc
    not-before-empty (x ∷ xs) h = cc

-- Past the last byte below 255 of a prefix, raised by one, stands no text that begins with it, and each
-- text before that begins with it.
pub end-decides : (front : List ℕ) (b : ℕ) (rest text : List ℕ) → b < 255 → All IsFull rest → AreBytes text →
    ¬ IsBefore text (front ++ b ∷ rest) → BeginsWith (front ++ b ∷ rest) text ↔ IsBefore text (front ++ (b + 1) ∷ [])
end-decides [] b rest [] less full bytes past = absurd (past refl)
end-decides [] b rest (c ∷ cs) less full bytes past =
    elim (cases_order c b) [
      | inl same ↦ (
        λ _. before-head c (b + 1) cs [] (omega arith),
        λ _. let behind : BeginsWith rest cs =
            begins-greatest rest cs full (All-tail (λ x. x < 256) c cs bytes) (λ k. past (before-same c b cs rest same ∙ k)) in λ i. same i ∷ behind i,
      )
      | inr (inl below) ↦ absurd (past (before-head c b cs rest below))
      | inr (inr above) ↦ (
        λ begins. let first : c ≡ b = cc in absurd (omega arith),
        λ before. absurd (not-below-next c b cs above before),
      )
    ]
end-decides (a ∷ front) b rest [] less full bytes past = absurd (past refl)
end-decides (a ∷ front) b rest (c ∷ cs) less full bytes past =
    elim (cases_order c a) [
      | inl same ↦
          let behind =
          end-decides front b rest cs less full (All-tail (λ x. x < 256) c cs bytes) (λ k. past (before-same c a cs (front ++ b ∷ rest) same ∙ k)) in (
            λ begins. let shorter : BeginsWith (front ++ b ∷ rest) cs = cc in before-same c a cs (front ++ (b + 1) ∷ []) same ∙ behind.0 shorter,
            λ before. let shorter = behind.1 (sym (before-same c a cs (front ++ (b + 1) ∷ []) same) ∙ before) in λ i. same i ∷ shorter i,
          )
      | inr (inl below) ↦ absurd (past (before-head c a cs (front ++ b ∷ rest) below))
      | inr (inr above) ↦ (
        λ begins. let first : c ≡ a = cc in absurd (omega arith),
        λ before. absurd (before-greater c a cs (front ++ (b + 1) ∷ []) above before),
      )
    ]

-- The same where the prefix is cut at `m`, behind which its bytes are all 255.
pub end-decides_at : (prefix : List ℕ) (m : ℕ) → m < length prefix → get_or prefix m 0 < 255 → All IsFull (drop (suc m) prefix) → (end text : List ℕ) →
    end ≡ take m prefix ++ (get_or prefix m 0 + 1) ∷ [] → AreBytes text → ¬ IsBefore text prefix → BeginsWith prefix text ↔ IsBefore text end
end-decides_at prefix m here less full end text is bytes past =
    let whole : prefix ≡ take m prefix ++ get_or prefix m 0 ∷ drop (suc m) prefix = split_at prefix m 0 here in
    let decided = end-decides (take m prefix) (get_or prefix m 0) (drop (suc m) prefix) text less full bytes (subst (λ p. ¬ IsBefore text p) whole past) in
    let by_prefix : BeginsWith prefix text ↔ IsBefore text (take m prefix ++ (get_or prefix m 0 + 1) ∷ []) =
    subst (λ p. BeginsWith p text ↔ IsBefore text (take m prefix ++ (get_or prefix m 0 + 1) ∷ [])) (sym whole) decided in
    subst (λ e. BeginsWith prefix text ↔ IsBefore text e) (sym is) by_prefix

-- the last byte of a front, raised by one
pub raised : (prefix front : List ℕ) (m b : ℕ) → m < length prefix → front ≡ take (suc m) prefix →
    b ≡ get_or front m b → set front m (b + 1) ≡ take m prefix ++ (get_or prefix m 0 + 1) ∷ []
raised prefix front m b here is last =
    let within : m < suc m = omega arith in
    let byte : b ≡ get_or prefix m 0 = last ∙ ap (λ l. get_or l m b) is ∙ get_or-take (suc m) prefix m b within ∙ get_or_default prefix m b 0 here in
    ap (λ l. set l m (b + 1)) is ∙ sym (take-set-lt (suc m) prefix m (b + 1) within)
    ∙ take-suc-set prefix m (b + 1) here ∙ ap (λ x. take m prefix ++ (x + 1) ∷ []) byte
