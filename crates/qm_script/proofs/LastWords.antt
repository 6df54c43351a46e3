-- The last of some words, as a prefix.
use Rattle.std.proofs.Common.{◌≡◌, ℕ, ◌-◌, ◌<◌, true, List, [], ◌∷◌, length, String, string_bytes, Some, None, slice_get, suc, refl, ap, ◌∙◌, arith}
use Rattle.std.specs.Global.{Global}
use Rattle.std.proofs.lemmas.Option.{slice_get-get_or}
use Rattle.birchagain.specs.Body.{body_term}
use Rattle.qm_script.specs.PrefixFree.{PrefixTest}
use Rattle.qm_script.specs.Prefixes.{last_passes}
use Rattle.qm_script.specs.Spelled.{texts}

pub last_passes-some : (test : PrefixTest) (most : ℕ) (words : List (String Global)) (w : String Global) →
    slice_get words (length words - 1) ≡ Some w → last_passes test most (texts words) ≡ test (body_term (string_bytes w)) most
last_passes-some test most [] w e = cc
last_passes-some test most (x ∷ []) w e = let same : x ≡ w = cc in ap (λ v. test (body_term (string_bytes v)) most) same
last_passes-some test most (x ∷ y ∷ words) w e =
    let place : suc (length (y ∷ words) - 1) ≡ length (x ∷ y ∷ words) - 1 = omega arith in
    last_passes-some test most (y ∷ words) w (ap (slice_get (x ∷ y ∷ words)) place ∙ e)

pub last_passes-none : (test : PrefixTest) (most : ℕ) (words : List (String Global)) →
    slice_get words (length words - 1) ≡ None → last_passes test most (texts words) ≡ true
last_passes-none test most [] e = refl
last_passes-none test most (x ∷ words) e =
    let last : length (x ∷ words) - 1 < length (x ∷ words) = omega arith in
    let here = slice_get-get_or (x ∷ words) (length (x ∷ words) - 1) x last in
    cc
