-- What is made of the numbers of a range that pass a test.
use Rattle.std.proofs.Common.{◌≡◌, ℕ, ◌+◌, ◌<◌, ◌≤◌, Bool, true, false, cond, List, [], ◌∷◌, ◌++◌, map, filter, refl, ap, sym, ◌∙◌, arith, suc, zero, add-zero}
use Rattle.std.specs.List.{range_with_len}

kept-same : {Y : Type 0} (b c : Bool) (y z : Y) (ys zs : List Y) → b ≡ c → (b ≡ true → y ≡ z) → ys ≡ zs → cond b (y ∷ ys) ys ≡ cond c (z ∷ zs) zs
kept-same true c y z ys zs same h e = ap (λ x. x ∷ ys) (h refl) ∙ ap (λ r. z ∷ r) e ∙ ap (λ b. cond b (z ∷ zs) zs) same
kept-same false c y z ys zs same h e = e ∙ ap (λ b. cond b (z ∷ zs) zs) same

map-kept : {Y : Type 0} (f : ℕ → Y) (b : Bool) (d : ℕ) (ds : List ℕ) → map f (cond b (d ∷ ds) ds) ≡ cond b (f d ∷ map f ds) (map f ds)
map-kept f true d ds = refl
map-kept f false d ds = refl

-- the same of two tests and two functions that agree within the range
pub map-filter-range : {Y : Type 0} (p q : ℕ → Bool) (f g : ℕ → Y) (a n : ℕ) → ((d : ℕ) → a ≤ d → d < a + n → p d ≡ q d) →
    ((d : ℕ) → a ≤ d → d < a + n → p d ≡ true → f d ≡ g d) → map f (filter p (range_with_len a n)) ≡ map g (filter q (range_with_len a n))
map-filter-range p q f g a zero same agree = refl
map-filter-range p q f g a (suc n) same agree =
    let rest = map-filter-range p q f g (a + 1) n (λ d low high. same d (omega arith) (omega arith))
    (λ d low high passes. agree d (omega arith) (omega arith) passes) in
    let here : p a ≡ q a = same a (omega arith) (omega arith) in
    map-kept f (p a) a (filter p (range_with_len (a + 1) n))
    ∙ kept-same (p a) (q a) (f a) (g a) (map f (filter p (range_with_len (a + 1) n)))
    (map g (filter q (range_with_len (a + 1) n))) here (agree a (omega arith) (omega arith)) rest
    ∙ sym (map-kept g (q a) a (filter q (range_with_len (a + 1) n)))

next : (a d : ℕ) → a + 1 + d ≡ a + (d + 1)
next a d = omega arith

-- the same of two ranges, on which tests and functions agree place by place
pub map-filter-shifted : {Y : Type 0} (p q : ℕ → Bool) (f g : ℕ → Y) (a b n : ℕ) → ((d : ℕ) → d < n → p (a + d) ≡ q (b + d)) →
    ((d : ℕ) → d < n → f (a + d) ≡ g (b + d)) → map f (filter p (range_with_len a n)) ≡ map g (filter q (range_with_len b n))
map-filter-shifted p q f g a b zero same agree = refl
map-filter-shifted p q f g a b (suc n) same agree =
    let rest = map-filter-shifted p q f g (a + 1) (b + 1) n
    (λ d below. ap p (next a d) ∙ same (d + 1) (omega arith) ∙ ap q (sym (next b d)))
    (λ d below. ap f (next a d) ∙ agree (d + 1) (omega arith) ∙ ap g (sym (next b d))) in
    let here : p a ≡ q b = ap p (sym (add-zero a)) ∙ same 0 (omega arith) ∙ ap q (add-zero b) in
    let equal : f a ≡ g b = ap f (sym (add-zero a)) ∙ agree 0 (omega arith) ∙ ap g (add-zero b) in
    map-kept f (p a) a (filter p (range_with_len (a + 1) n))
    ∙ kept-same (p a) (q b) (f a) (g b) (map f (filter p (range_with_len (a + 1) n))) (map g (filter q (range_with_len (b + 1) n))) here (λ passes. equal) rest
    ∙ sym (map-kept g (q b) b (filter q (range_with_len (b + 1) n)))

pub range-append : (a n m : ℕ) → range_with_len a (n + m) ≡ range_with_len a n ++ range_with_len (a + n) m
range-append a zero m =
    let e : zero + m ≡ m = omega arith in
    let f : a ≡ a + zero = omega arith in
    ap (range_with_len a) e ∙ ap (λ k. range_with_len k m) f
range-append a (suc n) m =
    let e : suc n + m ≡ suc (n + m) = omega arith in
    let f : a + 1 + n ≡ a + suc n = omega arith in
    ap (range_with_len a) e ∙ ap (λ r. a ∷ r) (range-append (a + 1) n m ∙ ap (λ k. range_with_len (a + 1) n ++ range_with_len k m) f)

pub map-map : {X Y Z : Type 0} (g : Y → Z) (f : X → Y) (xs : List X) → map g (map f xs) ≡ map (λ x. g (f x)) xs
map-map g f [] = refl
map-map g f (x ∷ xs) = ap (λ r. g (f x) ∷ r) (map-map g f xs)
