-- Which names are among others.
use Rattle.std.proofs.Common.{◌≡◌, ◌≢◌, inl, inr, ℕ, zero, suc, ◌<◌, ◌||◌, Bool, true, false, List, [], ◌∷◌, ◌++◌, length, get_or, map, All, refl, sym, ap, subst, arith}
use Rattle.std.proofs.lemmas.Bool.{cases_Bool, both_ways, or_cases}
use Rattle.std.proofs.lemmas.Slice.Eq.{bytes_eq-Decides}
use Rattle.std.specs.Str.{bytes_eq}
use Rattle.qm_folder.specs.Names.{Name, AreDistinct, is_among}

pub neither : (x y : Bool) → (x || y) ≡ false → (x ≡ false) × (y ≡ false)
neither true y none = absurd (cc none)
neither false y none = (refl, none)

pub none_of_both : (x y : Bool) → x ≡ false → y ≡ false → (x || y) ≡ false
none_of_both true y a b = absurd (cc a)
none_of_both false y a b = b

pub same_itself : (n : Name) → bytes_eq n n ≡ true
same_itself n = (bytes_eq-Decides n n).1 refl

pub same_name : (n m : Name) → bytes_eq n m ≡ true → n ≡ m
same_name n m same = (bytes_eq-Decides n m).0 same

pub other_name : (n m : Name) → n ≢ m → bytes_eq n m ≡ false
other_name n m differs = elim (cases_Bool (bytes_eq n m)) [ inl same ↦ absurd (differs (same_name n m same)) | inr other ↦ other ]

pub not_alone : (n m : Name) → bytes_eq n m ≡ false → is_among (m ∷ []) n ≡ false
not_alone n m other = none_of_both (bytes_eq n m) false other refl

pub alone : (n m : Name) → is_among (m ∷ []) n ≡ false → bytes_eq n m ≡ false
alone n m none = (neither (bytes_eq n m) false none).0

-- a name that is not among others is none of them
pub differs_from : (ms : List Name) (n m : Name) → is_among ms m ≡ true → is_among ms n ≡ false → bytes_eq n m ≡ false
differs_from ms n m there none = other_name n m (λ same. both_ways (is_among ms n) none (subst (λ (x : Name). is_among ms x ≡ true) (sym same) there))

pub among_both : (xs ys : List Name) (n : Name) → is_among (xs ++ ys) n ≡ false → (is_among xs n ≡ false) × (is_among ys n ≡ false)
among_both [] ys n none = (refl, none)
among_both (x ∷ xs) ys n none =
    let parts = neither (bytes_eq n x) (is_among (xs ++ ys) n) none in
    let rest = among_both xs ys n parts.1 in (none_of_both (bytes_eq n x) (is_among xs n) parts.0 rest.0, rest.1)

-- what holds of each of some names holds of each name among them
pub among_all : (Q : Name → Type 0) (ms : List Name) → All Q ms → (n : Name) → is_among ms n ≡ true → Q n
among_all Q [] all n there = absurd (cc there)
among_all Q (m ∷ ms) all n there = elim (or_cases (bytes_eq n m) (is_among ms n) there) [
  | inl here ↦ subst Q (sym (same_name n m here)) (all 0 m (omega arith))
  | inr later ↦ among_all Q ms (λ k d lt. all (suc k) d (omega arith)) n later
]

pub name_at : {X : Type 0} (name : X → Name) (xs : List X) (k : ℕ) (d : X) → k < length xs → is_among (map name xs) (name (get_or xs k d)) ≡ true
name_at name [] k d lt = absurd (omega arith)
name_at name (x ∷ xs) zero d lt = ap (λ (b : Bool). b || is_among (map name xs) (name x)) (same_itself (name x))
name_at name (x ∷ xs) (suc k) d lt =
    let there = name_at name xs k d (omega arith) in
    elim (bytes_eq (name (get_or xs k d)) (name x)) as (λ (b : Bool). (b || is_among (map name xs) (name (get_or xs k d))) ≡ true) [ true ↦ refl | false ↦ there ]

-- of distinct names no two are the same
pub distinct_at : {X : Type 0} (name : X → Name) (xs : List X) (j k : ℕ) (d e : X) → AreDistinct (map name xs) → j < k → k < length xs → bytes_eq (name (get_or xs j d)) (name (get_or xs k e)) ≡ false
distinct_at name [] j k d e distinct lt in_range = absurd (omega arith)
distinct_at name (x ∷ xs) j zero d e distinct lt in_range = absurd (omega arith)
distinct_at name (x ∷ xs) zero (suc k) d e distinct lt in_range =
    differs_from (map name xs) (name x) (name (get_or xs k e)) (name_at name xs k e (omega arith)) distinct.0
distinct_at name (x ∷ xs) (suc j) (suc k) d e distinct lt in_range = distinct_at name xs j k d e distinct.1 (omega arith) (omega arith)

-- what holds of each element's name holds of each of the names
pub all_names : {X : Type 0} (name : X → Name) (Q : Name → Type 0) (xs : List X) → All (λ x. Q (name x)) xs → (k : ℕ) (d : Name) → k < length (map name xs) → Q (get_or (map name xs) k d)
all_names name Q [] all k d lt = absurd (omega arith)
all_names name Q (x ∷ xs) all zero d lt = all 0 x (omega arith)
all_names name Q (x ∷ xs) all (suc k) d lt = all_names name Q xs (λ j e less. all (suc j) e (omega arith)) k d (omega arith)

pub among_each : {X : Type 0} (name : X → Name) (Q : Name → Type 0) (xs : List X) → All (λ x. Q (name x)) xs → (n : Name) → is_among (map name xs) n ≡ true → Q n
among_each name Q xs all = among_all Q (map name xs) (all_names name Q xs all)
