-- Names with one behind them.
use Rattle.std.proofs.Common.{◌≡◌, ◌||◌, Bool, true, false, List, [], ◌∷◌, ◌++◌, refl, ap, ◌∙◌}
use Rattle.std.specs.Str.{bytes_eq}
use Rattle.qm_folder.specs.Names.{AreDistinct, Name, is_among}
use Rattle.std.proofs.lemmas.Bool.{both_ways}
use Rattle.std.proofs.Math.Bool.{or-false}
use Rattle.qm_folder.proofs.NameLists.{neither, none_of_both, other_name, same_itself}

grouped : (a r b : Bool) → (a || (r || b)) ≡ ((a || r) || b)
grouped true r b = refl
grouped false r b = refl

pub among_last : (names : List Name) (name n : Name) → is_among (names ++ name ∷ []) n ≡ (is_among names n || bytes_eq n name)
among_last [] name n = or-false (bytes_eq n name)
among_last (m ∷ names) name n = ap (λ (b : Bool). bytes_eq n m || b) (among_last names name n) ∙ grouped (bytes_eq n m) (is_among names n) (bytes_eq n name)

pub not_same : (n m : Name) → bytes_eq n m ≡ false → bytes_eq m n ≡ false
not_same n m other = other_name m n (λ same. both_ways (bytes_eq n m) other (ap (λ (x : Name). bytes_eq n x) same ∙ same_itself n))

pub distinct_more : (names : List Name) (name : Name) → AreDistinct names → is_among names name ≡ false → AreDistinct (names ++ name ∷ [])
distinct_more [] name distinct other = (refl, tt)
distinct_more (m ∷ names) name distinct other =
    let parts = neither (bytes_eq name m) (is_among names name) other in
    (among_last names name m ∙ none_of_both (is_among names m) (bytes_eq m name) distinct.0 (not_same name m parts.0), distinct_more names name distinct.1 parts.1)
