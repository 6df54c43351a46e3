-- Facts on lists that know nothing of cursors.
use Rattle.std.specs.Prelude.{◌≡◌, ℕ, ◌+◌, ◌-◌, ◌<◌, ◌≤◌, ◌==◌, ◌||◌, Bool, true, false, List, [], ◌∷◌, ◌++◌, length, filter, map, take, All}
use Rattle.std.specs.List.{list_any, range_with_len}
use Rattle.std.proofs.Common.{zero, suc, cond, refl, ap, ◌∙◌, arith, inl, inr, zero-add}
use Rattle.std.proofs.lemmas.Bool.{cases_Bool}
use Rattle.std.proofs.lemmas.List.{take_at}
use Rattle.std.proofs.lemmas.List.Elements.{All-head, All-tail}

-- what a vector holds that was lent as a slice of all its elements
pub whole : {X : Type 0} (n : ℕ) (new rest : List X) → length new ≡ n → take n (new ++ rest) ≡ new
whole n new rest long = take_at new rest n long

-- ---- mapped lists

pub map-map : {X Y Z : Type 0} (f : Y → Z) (g : X → Y) (xs : List X) → map f (map g xs) ≡ map (λ x. f (g x)) xs
map-map f g [] = refl
map-map f g (x ∷ xs) = ap (λ r. f (g x) ∷ r) (map-map f g xs)

pub map-same : {X Y : Type 0} (P : X → Type 0) (f g : X → Y) (xs : List X) → All P xs → ((x : X) → P x → f x ≡ g x) → map f xs ≡ map g xs
map-same P f g [] all same = refl
map-same P f g (x ∷ xs) all same = ap (λ y. y ∷ map f xs) (same x (All-head P x xs all)) ∙ ap (λ r. g x ∷ r) (map-same P f g xs (All-tail P x xs all) same)

pub list_any-map : {X Y : Type 0} (p : Y → Bool) (f : X → Y) (xs : List X) → list_any p (map f xs) ≡ list_any (λ x. p (f x)) xs
list_any-map p f [] = refl
list_any-map p f (x ∷ xs) = ap (λ b. p (f x) || b) (list_any-map p f xs)

-- ---- filtered lists

pub filter-map : {X Y : Type 0} (p : Y → Bool) (f : X → Y) (xs : List X) → filter p (map f xs) ≡ map f (filter (λ x. p (f x)) xs)
filter-map p f [] = refl
filter-map p f (x ∷ xs) = elim (cases_Bool (p (f x))) [ inl passes ↦ rw (passes, filter-map p f xs) | inr fails ↦ rw (fails, filter-map p f xs) ]

pub filter-all : {X : Type 0} (p : X → Bool) (xs : List X) → All (λ x. p x ≡ true) xs → filter p xs ≡ xs
filter-all p [] all = refl
filter-all p (x ∷ xs) all = rw (All-head (λ y. p y ≡ true) x xs all, filter-all p xs (All-tail (λ y. p y ≡ true) x xs all))

pub filter-none : {X : Type 0} (p : X → Bool) (xs : List X) → All (λ x. p x ≡ false) xs → filter p xs ≡ []
filter-none p [] all = refl
filter-none p (x ∷ xs) all = rw (All-head (λ y. p y ≡ false) x xs all, filter-none p xs (All-tail (λ y. p y ≡ false) x xs all))

pub filter-same : {X : Type 0} (p q : X → Bool) (xs : List X) → ((x : X) → p x ≡ q x) → filter p xs ≡ filter q xs
filter-same p q [] same = refl
filter-same p q (x ∷ xs) same = ap (λ b. cond b (x ∷ filter p xs) (filter p xs)) (same x) ∙ ap (λ r. cond (q x) (x ∷ r) r) (filter-same p q xs same)

-- the numbers of a range that pass, by two tests that agree there
pub filter-range_same : (p q : ℕ → Bool) (a n : ℕ) → ((d : ℕ) → a ≤ d → d < a + n → p d ≡ q d) → filter p (range_with_len a n) ≡ filter q (range_with_len a n)
filter-range_same p q a zero same = refl
filter-range_same p q a (suc n) same =
    ap (λ b. cond b (a ∷ filter p (range_with_len (a + 1) n)) (filter p (range_with_len (a + 1) n))) (same a (omega arith) (omega arith))
    ∙ ap (λ r. cond (q a) (a ∷ r) r) (filter-range_same p q (a + 1) n (λ d above below. same d (omega arith) (omega arith)))

pub filter-range_none : (p : ℕ → Bool) (a n : ℕ) → ((d : ℕ) → a ≤ d → d < a + n → p d ≡ false) → filter p (range_with_len a n) ≡ []
filter-range_none p a zero none = refl
filter-range_none p a (suc n) none =
    ap (λ b. cond b (a ∷ filter p (range_with_len (a + 1) n)) (filter p (range_with_len (a + 1) n))) (none a (omega arith) (omega arith))
    ∙ filter-range_none p (a + 1) n (λ d above below. none d (omega arith) (omega arith))

filter-longer : (p : ℕ → Bool) (a n m : ℕ) → ((d : ℕ) → a + n ≤ d → d < a + n + m → p d ≡ false) →
    filter p (range_with_len a (n + m)) ≡ filter p (range_with_len a n)
filter-longer p a zero m none = rw (zero-add m) (filter-range_none p a m (λ d above below. none d (omega arith) (omega arith)))
filter-longer p a (suc n) m none =
    let more : suc n + m ≡ suc (n + m) = omega arith in
    ap (λ k. filter p (range_with_len a k)) more
    ∙ ap (λ r. cond (p a) (a ∷ r) r) (filter-longer p (a + 1) n m (λ d above below. none d (omega arith) (omega arith)))

-- where no number from n on passes, those below n are all that do
pub filter-below : (p : ℕ → Bool) (n most : ℕ) → n ≤ most → ((d : ℕ) → n ≤ d → d < most → p d ≡ false) →
    filter p (range_with_len 0 most) ≡ filter p (range_with_len 0 n)
filter-below p n most h none =
    let split : most ≡ n + (most - n) = omega arith in
    ap (λ k. filter p (range_with_len 0 k)) split ∙ filter-longer p 0 n (most - n) (λ d above below. none d (omega arith) (omega arith))

-- whether a number is among those of a range that pass
pub list_any-outside : (p : ℕ → Bool) (a n d : ℕ) → ((x : ℕ) → a ≤ x → x < a + n → (x == d) ≡ false) →
    list_any (λ y. y == d) (filter p (range_with_len a n)) ≡ false
list_any-outside p a zero d other = refl
list_any-outside p a (suc n) d other =
    let rest = list_any-outside p (a + 1) n d (λ x above below. other x (omega arith) (omega arith)) in
    elim (cases_Bool (p a)) [ inl passes ↦ rw (passes, other a (omega arith) (omega arith)) rest | inr fails ↦ rw fails rest ]
