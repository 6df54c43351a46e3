-- The terms of a phrase and their members, one by one.
use Rattle.std.proofs.Common.{◌≡◌, ℕ, zero, suc, ◌+◌, ◌<◌, List, [], ◌∷◌, All, length, map, take, drop, get_or, set, add-one, refl, ap, sym, ◌∙◌, arith, subst}
use Rattle.std.specs.Global.{Vec}
use Rattle.std.proofs.lemmas.List.{get_or-map, length-map}
use Rattle.std.proofs.lemmas.List.Elements.{All-get_or, All-map}
use Rattle.qm_docset.specs.ListFacts.{map-map}
use Rattle.qm_postings.specs.Positions.{shifted}
use Rattle.qm_phrase.specs.Phrase.{shifted_each}
use Rattle.qm_phrase.specs.Places.{HasPassed, HavePassed, past}
use Rattle.qm_phrase.specs.TermRows.{AreInside, each_of, member_positions, rows_left, term_of, terms_of}
use Rattle.qm_phrase.specs.Terms.{unpassed}
use Rattle.qm_phrase.specs.declared.term_row.TermRow.{TermRow}

-- what stands past the last term
abbrev pub no_term : TermRow
no_term = record { member = 0; row = record { shift = 0; passed = 0 } }

-- each term has a member
pub inside_at : (count : ℕ) (rows : List TermRow) (i : ℕ) → AreInside count (terms_of rows) → i < length rows → (get_or rows i no_term).member < count
inside_at count rows i inside below =
    let long = length-map rows term_of in
    let here : (get_or (terms_of rows) i (0, 0)).1 < count = inside i (0, 0) (omega arith) in
    omega (arith, here, ap (λ t. t.1) (get_or-map term_of rows i no_term (0, 0) below))

-- what is read of the positions of a member
pub read_is : (positions : List (Vec ℕ)) (k : ℕ) (own : Vec ℕ) (ps : List ℕ) → k < length positions → own ≡ get_or positions k own → ps ≡ own.items →
    ps ≡ get_or (member_positions positions) k []
read_is positions k own ps below is read = read ∙ ap (λ v. v.items) is ∙ sym (get_or-map (λ v. v.items) positions k own [] below)

get_or-mapped : {X Y : Type 0} (g : X → Y) (xs : List X) (k : ℕ) (e : X) → get_or (map g xs) k (g e) ≡ g (get_or xs k e)
get_or-mapped g [] k e = refl
get_or-mapped g (x ∷ xs) zero e = refl
get_or-mapped g (x ∷ xs) (suc k) e = get_or-mapped g xs k e

-- what is made of each term's list is what each has of those that are made of the members' lists
pub each_of-map : {X Y : Type 0} (g : List X → List Y) → g [] ≡ [] → (xs : List (List X)) (terms : List (ℕ × ℕ)) →
    map g (each_of xs terms) ≡ each_of (map g xs) terms
each_of-map g none xs [] = refl
each_of-map g none xs (t ∷ terms) =
    let here : g (get_or xs t.1 []) ≡ get_or (map g xs) t.1 [] = sym (get_or-mapped g xs t.1 []) ∙ ap (get_or (map g xs) t.1) none in
    let rest = each_of-map g none xs terms in
    λ i. here i ∷ rest i

-- where the members' lists are made into the same, so are the terms'
pub each_of-same : {X Y : Type 0} (g : List X → List Y) → g [] ≡ [] → (new old : List (List X)) (terms : List (ℕ × ℕ)) → map g new ≡ map g old →
    map g (each_of new terms) ≡ map g (each_of old terms)
each_of-same g none new old terms same =
    each_of-map g none new terms ∙ ap (λ r. each_of r terms) same ∙ sym (each_of-map g none old terms)

-- what holds of each member's list holds of each term's
pub All-each_of : {X : Type 0} (Q : List X → Type 0) (xs : List (List X)) (terms : List (ℕ × ℕ)) → AreInside (length xs) terms → All Q xs →
    All Q (each_of xs terms)
All-each_of {X} Q xs terms inside all =
    let list : ℕ × ℕ → List X = λ t. get_or xs t.1 [] in
    All-map Q list terms (λ k d below. All-get_or Q xs (get_or terms k d).1 [] (inside k d below) all)

-- terms that begin anew have all places of their members
pub rows_left-begun : (positions : List (Vec ℕ)) (rows : List TermRow) →
    rows_left positions (map unpassed rows) ≡ shifted_each (map (λ t. t.0) (terms_of rows)) (each_of (member_positions positions) (terms_of rows))
rows_left-begun positions [] = refl
rows_left-begun positions (row ∷ rows) =
    ap (λ r. shifted row.row.shift (get_or (member_positions positions) row.member []) ∷ r) (rows_left-begun positions rows)

pub terms_of-begun : (rows : List TermRow) → terms_of (map unpassed rows) ≡ terms_of rows
terms_of-begun rows = map-map term_of unpassed rows

-- One more term has passed a place, and what lies below a floor.

pub passed_more : {X : Type 0} (f : X → List ℕ) (place floor : ℕ) (rows : List X) (ys : List (List ℕ)) (i : ℕ) (x d : X) → i < length rows →
    length ys ≡ length rows → HavePassed floor (map (past place) (take i ys)) (take i (map f rows)) → drop i (map f rows) ≡ drop i ys →
    HasPassed floor (past place (f (get_or rows i d))) (f x) →
    HavePassed floor (map (past place) (take (i + 1) ys)) (take (i + 1) (map f (set rows i x))) × (drop (i + 1) (map f (set rows i x)) ≡ drop (i + 1) ys)
passed_more f place floor [] ys i x d h long so_far rest here = absurd (omega arith)
passed_more f place floor (r ∷ rows) [] i x d h long so_far rest here = absurd (omega arith)
passed_more f place floor (r ∷ rows) (y ∷ ys) zero x d h long so_far rest here =
    let first : f r ≡ y = cc in
    let others : map f rows ≡ ys = cc in
    ((subst (λ z. HasPassed floor (past place z) (f x)) first here, tt), others)
passed_more f place floor (r ∷ rows) (y ∷ ys) (suc i) x d h long so_far rest here =
    let more = rw add-one at (passed_more f place floor rows ys i x d (omega arith) (omega arith) so_far.1 rest here) in
    rw add-one ((so_far.0, more.0), more.1)
