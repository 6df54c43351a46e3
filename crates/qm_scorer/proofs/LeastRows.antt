-- The least of each span of a row, as the row changes.
use Rattle.std.proofs.Common.{◌≡◌, ℕ, zero, suc, ◌+◌, ◌*◌, ◌<◌, ◌≤◌, ◌/◌, ◌%◌, Bool, false, List, [], ◌∷◌, ◌++◌, drop, get_or, length, min, set, take, arith, refl, sym, ap, ◌∙◌, subst, length-drop}
use Rattle.std.specs.List.{count_by}
use Rattle.std.proofs.lemmas.List.{drop-drop, drop-set-add, drop-set-lt, get_or-drop, get_or-take, length-set, length-take, take-append-drop, take-set-le}
use Rattle.std.proofs.lemmas.List.Sums.{count_by_more_no}
use Rattle.qm_docset.specs.declared.numbers.TheConstants.{TERMINATED}
use Rattle.qm_scorer.specs.LeastDocs.{AreLeasts, least_of}

pub least_of-most : (ds : List ℕ) → least_of ds ≤ TERMINATED
least_of-most [] = omega arith
least_of-most (d ∷ ds) = omega (arith, least_of-most ds)

pub least_of-le : (ds : List ℕ) (k x : ℕ) → k < length ds → least_of ds ≤ get_or ds k x
least_of-le [] k x h = absurd (omega (arith, h))
least_of-le (d ∷ ds) zero x h = omega arith
least_of-le (d ∷ ds) (suc k) x h = omega (arith, least_of-le ds k x (omega (arith, h)))

least_of-append : (xs ys : List ℕ) → least_of (xs ++ ys) ≡ min (least_of xs) (least_of ys)
least_of-append [] ys = omega (arith, least_of-most ys)
least_of-append (x ∷ xs) ys = omega (arith, least_of-append xs ys)

pub least_of-more : (ds : List ℕ) (d : ℕ) → least_of (ds ++ d ∷ []) ≡ min (least_of ds) (min d TERMINATED)
least_of-more ds d = least_of-append ds (d ∷ [])

-- their least is that of all
pub AreLeasts-least : (ls row : List ℕ) → AreLeasts ls row → least_of ls ≡ least_of row
AreLeasts-least [] row h = ap least_of (sym h)
AreLeasts-least (l ∷ ls) row h =
    omega (arith, h.1, AreLeasts-least ls (drop 32 row) h.2, least_of-append (take 32 row) (drop 32 row), ap least_of (take-append-drop 32 row))

-- they are as many as there are spans
pub AreLeasts-many : (ls row : List ℕ) → AreLeasts ls row → length row ≤ 32 * length ls
AreLeasts-many [] row h = omega (arith, ap length h)
AreLeasts-many (l ∷ ls) row h = omega (arith, AreLeasts-many ls (drop 32 row) h.2, length-drop 32 row)

pub AreLeasts-few : (ls row : List ℕ) → AreLeasts ls row → 32 * length ls < length row + 32
AreLeasts-few [] row h = omega arith
AreLeasts-few (l ∷ ls) row h = omega (arith, h.0, AreLeasts-few ls (drop 32 row) h.2, length-drop 32 row)

-- each is at or before those of its span
AreLeasts-before : (ls row : List ℕ) (j r k : ℕ) → AreLeasts ls row → k ≡ 32 * j + r → r < 32 → k < length row → get_or ls j 0 ≤ get_or row k 0
AreLeasts-before [] row j r k h is within below = absurd (omega (arith, ap length h, below))
AreLeasts-before (l ∷ ls) row zero r k h is within below =
    omega (arith, h.1, least_of-le (take 32 row) k 0 (omega (arith, length-take 32 row, is, within, below)), get_or-take 32 row k 0 (omega (arith, is, within)))
AreLeasts-before (l ∷ ls) row (suc j) r k h is within below =
    let rest : ℕ = 32 * j + r in
    let same : 32 + rest ≡ k = omega (arith, is) in
    omega (
      arith,
      AreLeasts-before ls (drop 32 row) j r rest h.2 refl within (omega (arith, length-drop 32 row, below, same)),
      get_or-drop 32 row rest 0,
      ap (λ n. get_or row n 0) same,
    )

-- where the leasts of some spans are at or past a target, so are the documents in them
pub AreLeasts-passed : (ls row : List ℕ) (target a b k : ℕ) → AreLeasts ls row → ((j : ℕ) → a ≤ j → j < b → target ≤ get_or ls j 0) →
    32 * a ≤ k → k < 32 * b → k < length row → target ≤ get_or row k 0
AreLeasts-passed ls row target a b k h passed from to within =
    omega (
      arith,
      passed (k / 32) (omega (arith, from)) (omega (arith, to)),
      AreLeasts-before ls row (k / 32) (k % 32) k h (omega arith) (omega arith) within,
    )

-- a document that is put in a place changes the least of its span alone
AreLeasts-set : (ls row : List ℕ) (j r k d : ℕ) → AreLeasts ls row → k ≡ 32 * j + r → r < 32 → k < length row →
    AreLeasts (set ls j (least_of (take 32 (drop (32 * j) (set row k d))))) (set row k d)
AreLeasts-set [] row j r k d h is within below = absurd (omega (arith, ap length h, below))
AreLeasts-set (l ∷ ls) row zero r k d h is within below = (
  omega (arith, length-set row k d, h.0),
  refl,
  subst (AreLeasts ls) (sym (drop-set-lt 32 row k d (omega (arith, is, within)))) h.2,
)
AreLeasts-set (l ∷ ls) row (suc j) r k d h is within below =
    let rest : ℕ = 32 * j + r in
    let same : 32 + rest ≡ k = omega (arith, is) in
    let behind : drop 32 (set row k d) ≡ set (drop 32 row) rest d = ap (λ n. drop 32 (set row n d)) (sym same) ∙ drop-set-add 32 row rest d in
    let span : drop (32 * suc j) (set row k d) ≡ drop (32 * j) (set (drop 32 row) rest d) = ap (λ n. drop n (set row k d)) (omega arith)
    ∙ sym (drop-drop (32 * j) 32 (set row k d)) ∙ ap (drop (32 * j)) behind in (
      omega (arith, length-set row k d, h.0),
      h.1 ∙ ap least_of (sym (take-set-le 32 row k d (omega (arith, same)))),
      subst (λ ds. AreLeasts (set ls j (least_of (take 32 ds))) (drop 32 (set row k d))) (sym span)
          (subst (AreLeasts (set ls j (least_of (take 32 (drop (32 * j) (set (drop 32 row) rest d)))))) (sym behind)
          (AreLeasts-set ls (drop 32 row) j r rest d h.2 refl within (omega (arith, length-drop 32 row, below, same)))),
    )

pub AreLeasts-put : (ls row : List ℕ) (k d : ℕ) → AreLeasts ls row → k < length row →
    AreLeasts (set ls (k / 32) (least_of (take 32 (drop (32 * (k / 32)) (set row k d))))) (set row k d)
AreLeasts-put ls row k d h below = AreLeasts-set ls row (k / 32) (k % 32) k d h (omega arith) (omega arith) below

-- nothing is counted between two places
pub count-passed : (p : ℕ → Bool) (xs : List ℕ) (i n : ℕ) → i + n ≤ length xs → ((k : ℕ) → i ≤ k → k < i + n → p (get_or xs k 0) ≡ false) →
    count_by p (take (i + n) xs) ≡ count_by p (take i xs)
count-passed p xs i zero within none = ap (λ k. count_by p (take k xs)) (omega arith)
count-passed p xs i (suc n) within none =
    ap (λ k. count_by p (take k xs)) (omega arith)
    ∙ count_by_more_no p xs (i + n) 0 (omega (arith, within)) (none (i + n) (omega arith) (omega arith))
    ∙ count-passed p xs i n (omega (arith, within)) (λ k from below. none k from (omega (arith, below)))
