-- The names of files that lie in bytes, in a list.
use Rattle.std.proofs.Common.{◌≡◌, ℕ, ◌||◌, Bool, true, false, cond, List, [], ◌∷◌, Option, Some, String, option_map, is_some, refl, sym, ap, ◌∙◌}
use Rattle.std.specs.BTreeMap.{is_at}
use Rattle.std.specs.Cmp.Lexicographic.{slice_cmp}
use Rattle.std.specs.List.{AllByRecursion}
use Rattle.std.specs.List.Sorted.{IsStrictlySortedBy}
use Rattle.std.specs.Map.{keys_of, lookup}
use Rattle.std.specs.Ordering.{is_eq, nat_cmp}
use Rattle.std.specs.Str.{bytes_eq}
use Rattle.std.specs.String.{string_bytes, string_cmp}
use Rattle.std.specs.declared.alloc.Global.{Global}
use Rattle.std.specs.declared.cmp.Ordering.TheVariants.{Less}
use Rattle.std.proofs.lemmas.Map.Text.{is_eq-slice_cmp}
use denote.Ref.{Bor}
use Rattle.qm_folder.specs.Names.{AreDistinct, Name, is_among, names_of}
use Rattle.qm_folder.proofs.NameLists.{none_of_both}
use Rattle.birchagain_bytes.specs.PackedFolder.{Files, contents_in}

others-apart : (k : String Global) (ks : List (String Global)) → AllByRecursion (λ y. string_cmp k y ≡ Less) ks → is_among (names_of ks) (string_bytes k) ≡ false
others-apart k [] all = refl
others-apart k (y ∷ ys) all =
    none_of_both (bytes_eq (string_bytes k) (string_bytes y)) (is_among (names_of ys) (string_bytes k))
    (sym (is_eq-slice_cmp (string_bytes k) (string_bytes y)) ∙ ap is_eq all.0) (others-apart k ys all.1)

-- names in order are distinct
pub distinct-keys : (ks : List (String Global)) → IsStrictlySortedBy string_cmp ks → AreDistinct (names_of ks)
unfolding IsStrictlySortedBy
distinct-keys [] sorted = tt
distinct-keys (k ∷ ks) sorted = (others-apart k ks sorted.0, distinct-keys ks sorted.1)

some-of-cond : (b : Bool) (x : Bor (List ℕ)) (r : Option (Bor (List ℕ))) →
    is_some (option_map (λ v. v.now) (cond b (Some x) r)) ≡ (b || is_some (option_map (λ v. v.now) r))
some-of-cond true x r = refl
some-of-cond false x r = refl

abbrev is_named : Name → String Global → Bool
is_named n k = is_at (λ (x : String Global). slice_cmp nat_cmp n (string_bytes x)) k

keys-looked-up : (es : List (String Global × Bor (List ℕ))) (n : Name) → is_among (names_of (keys_of es)) n ≡ is_some (option_map (λ v. v.now) (lookup (is_named n) es))
keys-looked-up [] n = refl
keys-looked-up (e ∷ es) n =
    (λ i. sym (is_eq-slice_cmp n (string_bytes e.0)) i || keys-looked-up es n i) ∙ sym (some-of-cond (is_named n e.0) e.1 (lookup (is_named n) es))

-- they are the names under which files stand
pub keys-seen : (m : Files) (n : Name) → is_among (names_of (keys_of m.entries)) n ≡ is_some (contents_in m n)
keys-seen m n = keys-looked-up m.entries n
