-- A loop that changes each element of a row, by what is read of it.
use Rattle.std.proofs.Common.{◌≡◌, ℕ, zero, suc, ◌+◌, ◌<◌, ◌≤◌, List, [], ◌∷◌, ◌++◌, add-one, length, map, take, drop, get_or, set, ap, ◌∙◌, arith}
use Rattle.std.proofs.lemmas.List.{append-nil, drop_all, take_all}

-- one more element was changed
pub each_more : {X Y : Type 0} (f : X → Y) (g : Y → Y) (rows : List X) (ys : List Y) (i : ℕ) (x d : X) → i < length rows →
    map f rows ≡ map g (take i ys) ++ drop i ys → f x ≡ g (f (get_or rows i d)) → map f (set rows i x) ≡ map g (take (i + 1) ys) ++ drop (i + 1) ys
each_more f g [] ys i x d h so_far here = absurd (omega arith)
each_more f g (r ∷ rows) [] zero x d h so_far here = absurd (cc)
each_more f g (r ∷ rows) [] (suc i) x d h so_far here = absurd (cc)
each_more f g (r ∷ rows) (y ∷ ys) zero x d h so_far here =
    let first : f r ≡ y = cc in
    let rest : map f rows ≡ ys = cc in
    λ j. (here ∙ ap g first) j ∷ rest j
each_more f g (r ∷ rows) (y ∷ ys) (suc i) x d h so_far here =
    let first : f r ≡ g y = cc in
    let rest : map f rows ≡ map g (take i ys) ++ drop i ys = cc in
    let more = rw add-one at (each_more f g rows ys i x d (omega arith) rest here) in
    rw add-one (λ j. first j ∷ more j)

-- all were changed
pub each_done : {Y : Type 0} (g : Y → Y) (ys : List Y) (i : ℕ) → length ys ≤ i → map g (take i ys) ++ drop i ys ≡ map g ys
each_done g ys i h = ap (λ r. map g r ++ drop i ys) (take_all i ys h) ∙ ap (λ r. map g ys ++ r) (drop_all i ys h) ∙ append-nil (map g ys)

-- one more element was changed, into what a list says of it
pub each_set : {X Y : Type 0} (f : X → Y) (rows : List X) (zs ys : List Y) (i : ℕ) (x : X) (e : Y) → i < length rows → length zs ≡ length rows →
    length ys ≡ length rows → map f rows ≡ take i zs ++ drop i ys → f x ≡ get_or zs i e → map f (set rows i x) ≡ take (i + 1) zs ++ drop (i + 1) ys
each_set f [] zs ys i x e h long wide so_far here = absurd (omega arith)
each_set f (r ∷ rows) [] ys i x e h long wide so_far here = absurd (omega arith)
each_set f (r ∷ rows) (z ∷ zs) [] i x e h long wide so_far here = absurd (omega arith)
each_set f (r ∷ rows) (z ∷ zs) (y ∷ ys) zero x e h long wide so_far here =
    let rest : map f rows ≡ ys = cc in
    λ j. here j ∷ rest j
each_set f (r ∷ rows) (z ∷ zs) (y ∷ ys) (suc i) x e h long wide so_far here =
    let first : f r ≡ z = cc in
    let rest : map f rows ≡ take i zs ++ drop i ys = cc in
    let more = rw add-one at (each_set f rows zs ys i x e (omega arith) (omega arith) (omega arith) rest here) in
    rw add-one (λ j. first j ∷ more j)

pub each_set_done : {Y : Type 0} (zs ys : List Y) (i : ℕ) → length zs ≤ i → length ys ≤ i → take i zs ++ drop i ys ≡ zs
each_set_done zs ys i h k = ap (λ r. r ++ drop i ys) (take_all i zs h) ∙ ap (λ r. zs ++ r) (drop_all i ys k) ∙ append-nil zs
