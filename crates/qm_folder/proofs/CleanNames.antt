-- The test of an update's names: the new names are taken into a set, one after another.
use Rattle.std.proofs.Common.{◌≡◌, inl, inr, ℕ, ◌+◌, ◌<◌, ◌||◌, Bool, not, Ordering, true, false, List, [], ◌∷◌, ◌++◌, map, take, drop, length, get_or, refl, sym, ◌∙◌, ap, subst}
use Rattle.std.proofs.lemmas.Bool.{both_ways, or_cases}
use Rattle.std.proofs.lemmas.List.{map-append, take-append-drop, take_more}
use Rattle.std.proofs.lemmas.Map.Text.{is_eq-slice_cmp}
use Rattle.std.proofs.Math.Bool.{or-false}
use Rattle.std.specs.BTreeMap.{is_at}
use Rattle.std.specs.BTreeSet.{insert_key}
use Rattle.std.specs.List.{list_any}
use Rattle.std.specs.Cmp.Lexicographic.{slice_cmp}
use Rattle.std.specs.Ordering.{match_ordering, nat_cmp}
use Rattle.std.specs.Str.{bytes_eq}
use Rattle.std.specs.declared.cmp.Ordering.TheVariants.{Less, Equal, Greater}
use denote.Ref.{Bor}
use Rattle.qm_folder.specs.Clean.{IsClean}
use Rattle.qm_folder.specs.Names.{AreDistinct, Name, is_among}
use Rattle.qm_folder.specs.declared.updating.TheConstants.{MANIFEST, STAGED}
use Rattle.qm_folder.proofs.ComparedFiles.{by_bytes, equal_names, next_is}
use Rattle.qm_folder.proofs.GivenNames.{among_last, distinct_more, not_same}
use Rattle.qm_folder.proofs.NameLists.{alone, among_both, name_at, neither, none_of_both, other_name, same_name}

-- the names of a manifest
abbrev pub of_manifest : List Name
of_manifest = MANIFEST.now ∷ STAGED.now ∷ []

-- the names that references point to
abbrev pub pointed : List (Bor Name) → List Name
pointed keys = map (λ k. k.now) keys

abbrev pub by_pointed : Bor Name → Bor Name → Ordering
by_pointed x y = slice_cmp nat_cmp x.now y.now

-- whether a set of references has a name
abbrev pub has_key : Name → List (Bor Name) → Bool
has_key q keys = list_any (is_at (λ k. slice_cmp nat_cmp q k.now)) keys

pub key-among : (q : Name) (keys : List (Bor Name)) → has_key q keys ≡ is_among (pointed keys) q
key-among q [] = refl
key-among q (k ∷ keys) = λ i. is_eq-slice_cmp q k.now i || key-among q keys i

or_swapped : (a b r : Bool) → (b || (a || r)) ≡ ((a || r) || b)
or_swapped true true r = refl
or_swapped true false r = refl
or_swapped false true true = refl
or_swapped false true false = refl
or_swapped false false r = sym (or-false r)

or_again : (a r : Bool) → (a || r) ≡ ((a || r) || a)
or_again true r = refl
or_again false r = sym (or-false r)

or_grouped : (a r b : Bool) → (a || (r || b)) ≡ ((a || r) || b)
or_grouped true r b = refl
or_grouped false r b = refl

inserted : (key : Bor Name) (keys : List (Bor Name)) (q : Name) → is_among (pointed (insert_key by_pointed keys key)) q ≡ (is_among (pointed keys) q || bytes_eq q key.now)
inserted key [] q = or-false (bytes_eq q key.now)
inserted key (x ∷ keys) q = elim (by_bytes key.now x.now) as (λ o. by_bytes key.now x.now ≡ o
    → is_among (pointed (match_ordering o (key ∷ x ∷ keys) (x ∷ keys) (x ∷ insert_key by_pointed keys key))) q ≡ (is_among (pointed (x ∷ keys)) q || bytes_eq q key.now)) [
      | Less ↦ λ lt. or_swapped (bytes_eq q x.now) (bytes_eq q key.now) (is_among (pointed keys) q)
      | Equal ↦ λ eq. or_again (bytes_eq q x.now) (is_among (pointed keys) q) ∙ ap (λ (n : Name). (bytes_eq q x.now || is_among (pointed keys) q) || bytes_eq q n) (sym (equal_names key.now x.now eq))
      | Greater ↦ λ gt. ap (λ (b : Bool). bytes_eq q x.now || b) (inserted key keys q) ∙ or_grouped (bytes_eq q x.now) (is_among (pointed keys) q) (bytes_eq q key.now)
    ] refl

-- the names so far are distinct, are in the set, and none is the manifest's
pub record AreTaken (keys : List (Bor Name)) (names : List Name) : Type 0 where
  pub taken : (q : Name) → is_among (pointed keys) q ≡ is_among names q
  pub distinct : AreDistinct names
  pub no_manifest : is_among names MANIFEST.now ≡ false
  pub no_staged : is_among names STAGED.now ≡ false

pub none_taken : (keys : List (Bor Name)) → keys ≡ [] → AreTaken keys []
none_taken keys none = record { taken = λ q. ap (λ (ks : List (Bor Name)). is_among (pointed ks) q) none; distinct = tt; no_manifest = refl; no_staged = refl }

pub more_taken : (keys more : List (Bor Name)) (names : List Name) (key : Bor Name) → AreTaken keys names → more ≡ insert_key by_pointed keys key → is_among of_manifest key.now ≡ false → is_among (pointed keys) key.now ≡ false
    → AreTaken more (names ++ key.now ∷ [])
more_taken keys more names key so_far is other fresh = record {
  taken = λ q. ap (λ (ks : List (Bor Name)). is_among (pointed ks) q) is ∙ inserted key keys q ∙ ap (λ (b : Bool). b || bytes_eq q key.now) (so_far.taken q) ∙ sym (among_last names key.now q);
  distinct = distinct_more names key.now so_far.distinct (sym (so_far.taken key.now) ∙ fresh);
  no_manifest = among_last names key.now MANIFEST.now ∙ none_of_both (is_among names MANIFEST.now) (bytes_eq MANIFEST.now key.now) so_far.no_manifest (not_same key.now MANIFEST.now both.0);
  no_staged = among_last names key.now STAGED.now ∙ none_of_both (is_among names STAGED.now) (bytes_eq STAGED.now key.now) so_far.no_staged (not_same key.now STAGED.now (alone key.now STAGED.now both.1));
}
  where
    both : (bytes_eq key.now MANIFEST.now ≡ false) × (is_among (STAGED.now ∷ []) key.now ≡ false)
    both = neither (bytes_eq key.now MANIFEST.now) (is_among (STAGED.now ∷ []) key.now) other

-- ---- why names are not clean

among_is : (ms : List Name) (n m : Name) → n ≡ m → is_among ms n ≡ true → is_among ms m ≡ true
among_is ms n m same there = subst (λ (x : Name). is_among ms x ≡ true) same there

-- a name of the manifest that is among some
of_manifest_there : (ms : List Name) (n : Name) → is_among ms MANIFEST.now ≡ false → is_among ms STAGED.now ≡ false → is_among of_manifest n ≡ true → is_among ms n ≡ true → ⊥
of_manifest_there ms n no_manifest no_staged is there = elim (or_cases (bytes_eq n MANIFEST.now) (is_among (STAGED.now ∷ []) n) is) [
  | inl first ↦ both_ways (is_among ms MANIFEST.now) no_manifest (among_is ms n MANIFEST.now (same_name n MANIFEST.now first) there)
  | inr second ↦ both_ways (is_among ms STAGED.now) no_staged (among_is ms n STAGED.now (same_name n STAGED.now (sym (or-false (bytes_eq n STAGED.now)) ∙ second)) there)
]

pub manifest_is_new : (new gone : List Name) (n : Name) → is_among of_manifest n ≡ true → is_among new n ≡ true → IsClean new gone → ⊥
manifest_is_new new gone n is there clean = of_manifest_there new n clean.no_manifest clean.no_staged is there

pub manifest_is_gone : (new gone : List Name) (n : Name) → is_among of_manifest n ≡ true → is_among gone n ≡ true → IsClean new gone → ⊥
manifest_is_gone new gone n is there clean = of_manifest_there gone n clean.manifest_stays clean.staged_stays is there

pub new_is_gone : (new gone : List Name) (n : Name) → is_among new n ≡ true → is_among gone n ≡ true → IsClean new gone → ⊥
new_is_gone new gone n is_new is_gone clean = both_ways (is_among gone n) (clean.new_stay n is_new) is_gone

-- of distinct names none stands among those before it
none_before : (xs ys : List Name) (n : Name) → AreDistinct (xs ++ n ∷ ys) → is_among xs n ≡ false
none_before [] ys n distinct = refl
none_before (x ∷ xs) ys n distinct =
    let apart = neither (bytes_eq x n) (is_among ys x) (among_both xs (n ∷ ys) x distinct.0).1 in
    none_of_both (bytes_eq n x) (is_among xs n) (not_same x n apart.0) (none_before xs ys n distinct.1)

pub stands_twice : (new gone front back : List Name) (n : Name) → new ≡ front ++ n ∷ back → is_among front n ≡ true → IsClean new gone → ⊥
stands_twice new gone front back n is there clean = both_ways (is_among front n) (none_before front back n (subst AreDistinct is clean.distinct)) there

-- ---- the names that are gone, one after another

-- of the names that stay, those are gone that are among the rest
pub record AreLeft (new gone rest : List Name) : Type 0 where
  pub manifest : is_among gone MANIFEST.now ≡ is_among rest MANIFEST.now
  pub staged : is_among gone STAGED.now ≡ is_among rest STAGED.now
  pub each : (n : Name) → is_among new n ≡ true → is_among gone n ≡ is_among rest n

pub all_left : (new gone : List Name) → AreLeft new gone gone
all_left new gone = record { manifest = refl; staged = refl; each = λ n is. refl }

pub one_less : (new gone rest : List Name) (name : Name) → AreLeft new gone (name ∷ rest) → is_among of_manifest name ≡ false → is_among new name ≡ false → AreLeft new gone rest
one_less new gone rest name left other old = record {
  manifest = left.manifest ∙ past MANIFEST.now (not_same name MANIFEST.now both.0);
  staged = left.staged ∙ past STAGED.now (not_same name STAGED.now (alone name STAGED.now both.1));
  each = λ n is. left.each n is ∙ past n (other_name n name (λ same. both_ways (is_among new name) old (among_is new n name same is)));
}
  where
    both : (bytes_eq name MANIFEST.now ≡ false) × (is_among (STAGED.now ∷ []) name ≡ false)
    both = neither (bytes_eq name MANIFEST.now) (is_among (STAGED.now ∷ []) name) other

    past : (n : Name) → bytes_eq n name ≡ false → is_among (name ∷ rest) n ≡ is_among rest n
    past n differs = ap (λ (b : Bool). b || is_among rest n) differs

pub clean : (keys : List (Bor Name)) (new gone : List Name) → AreTaken keys new → AreLeft new gone [] → IsClean new gone
clean keys new gone taken left = record {
  distinct = taken.distinct;
  no_manifest = taken.no_manifest;
  no_staged = taken.no_staged;
  manifest_stays = left.manifest;
  staged_stays = left.staged;
  new_stay = left.each;
}

-- ---- the names of a list, and the one at a place

module _ {X : Type 0} (name : X → Name) (xs : List X) (i : ℕ) (x : X) (lt : i < length xs) (is : x ≡ get_or xs i x) where
  pub name_there : is_among (map name xs) (name x) ≡ true
  name_there = subst (λ (y : X). is_among (map name xs) (name y) ≡ true) (sym is) (name_at name xs i x lt)

  pub names_split : map name xs ≡ map name (take i xs) ++ name x ∷ map name (drop (i + 1) xs)
  names_split =
      ap (map name) (sym (take-append-drop i xs)) ∙ map-append name (take i xs) (drop i xs) ∙ ap (λ (ys : List X). map name (take i xs) ++ map name ys) (next_is xs i x lt is)

  pub names_more : map name (take (i + 1) xs) ≡ map name (take i xs) ++ name x ∷ []
  names_more =
      ap (map name) (take_more xs i x lt) ∙ map-append name (take i xs) (get_or xs i x ∷ []) ∙ ap (λ (y : X). map name (take i xs) ++ name y ∷ []) (sym is)

pub was_there : (b : Bool) → not b ≡ false → b ≡ true
was_there true is = refl
was_there false is = absurd (cc is)

pub was_not : (b : Bool) → not b ≡ true → b ≡ false
was_not true is = absurd (cc is)
was_not false is = refl
