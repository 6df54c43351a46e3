-- The files that an index has kept beside those that are found: of two whose paths come first, which stays.
use Rattle.std.proofs.Common.{◌≡◌, ◌⊎◌, inl, inr, ℕ, ◌+◌, ◌-◌, ◌<◌, ◌≤◌, zero, suc, ◌&&◌, ◌||◌, Bool, true, false, List, [], ◌∷◌, ◌++◌, cond, map, drop, get_or, length, refl, sym, ◌∙◌, ap, subst, arith}
use Rattle.std.specs.List.{AllByRecursion, list_any, range_with_len}
use Rattle.std.specs.List.Sorted.{IsStrictlySortedBy}
use Rattle.std.specs.Cmp.Lexicographic.{slice_cmp, nat_list_cmp_total}
use Rattle.std.specs.Ordering.{is_eq, is_ge, nat_cmp, ordering_reverse}
use Rattle.std.specs.Str.{bytes_eq}
use Rattle.std.specs.declared.cmp.Ordering.{Ordering}
use Rattle.std.specs.declared.cmp.Ordering.TheVariants.{Less, Equal, Greater}
use Rattle.std.proofs.Math.Bool.{and-true, or-false}
use Rattle.std.proofs.lemmas.List.{append_assoc, append-nil, drop_all, drop_more, length-drop}
use Rattle.std.proofs.lemmas.Map.Keys.{sorted_head, sorted_tail}
use Rattle.std.proofs.lemmas.Map.Text.{is_eq-slice_cmp}
use Rattle.qm_folder.specs.Names.{Name}
use Rattle.qm_folder.specs.Paths.{Ascend}
use Rattle.qm_folder.specs.Changes.{found_path, gone, is_as_read, is_kept, kept_path, places_left, same_stamp, stays, to_read}
use Rattle.qm_folder.specs.declared.found_file.FoundFile.{FoundFile}
use Rattle.qm_folder.specs.declared.kept_file.KeptFile.{KeptFile}
use Rattle.qm_folder.proofs.NameLists.{none_of_both, same_itself, same_name}

abbrev pub by_bytes : Name → Name → Ordering
by_bytes = slice_cmp nat_cmp

-- a name is before each of these
abbrev pub IsBelow : Name → List Name → Type 0
IsBelow x ys = AllByRecursion (λ y. by_bytes x y ≡ Less) ys

lesser_differs : (x y : Name) → by_bytes x y ≡ Less → bytes_eq x y ≡ false
lesser_differs x y e = sym (is_eq-slice_cmp x y) ∙ ap is_eq e

greater_differs : (x y : Name) → by_bytes x y ≡ Greater → bytes_eq x y ≡ false
greater_differs x y e = sym (is_eq-slice_cmp x y) ∙ ap is_eq e

pub equal_names : (x y : Name) → by_bytes x y ≡ Equal → x ≡ y
equal_names x y e = same_name x y (sym (is_eq-slice_cmp x y) ∙ ap is_eq e)

below_differs : (x y : Name) → by_bytes y x ≡ Less → bytes_eq x y ≡ false
below_differs x y e = greater_differs x y (nat_list_cmp_total.antisymm x y ∙ ap ordering_reverse e)

pub lesser_of_greater : (x y : Name) → by_bytes x y ≡ Greater → by_bytes y x ≡ Less
lesser_of_greater x y e = nat_list_cmp_total.antisymm y x ∙ ap ordering_reverse e

below_tail : (x y : Name) (ys : List Name) → by_bytes x y ≡ Less → IsBelow y ys → IsBelow x ys
below_tail x y [] lt all = tt
below_tail x y (z ∷ ys) lt all = (nat_list_cmp_total.trans x y z lt all.0, below_tail x y ys lt all.1)

below_all : (x y : Name) (ys : List Name) → by_bytes x y ≡ Less → Ascend (y ∷ ys) → IsBelow x (y ∷ ys)
below_all x y ys lt up = (lt, below_tail x y ys lt (sorted_head by_bytes y ys up))

second_false : (a b : Bool) → b ≡ false → (a && b) ≡ false
second_false true b is = is
second_false false b is = refl

-- ---- which kept files stay, and which found ones are kept

none_as_read : (k : KeptFile) (fs : List FoundFile) → IsBelow (kept_path k) (map found_path fs) → list_any (is_as_read k) fs ≡ false
none_as_read k [] below = refl
none_as_read k (f ∷ fs) below =
    none_of_both (is_as_read k f) (list_any (is_as_read k) fs)
    (ap (λ (b : Bool). b && same_stamp k.stamp f.stamp) (lesser_differs (kept_path k) (found_path f) below.0)) (none_as_read k fs below.1)

-- a kept file whose path comes before all that are found
stays_not : (k : KeptFile) (fs : List FoundFile) → IsBelow (kept_path k) (map found_path fs) → stays fs k ≡ false
unfolding stays
stays_not k fs below = second_false k.settled (list_any (is_as_read k) fs) (none_as_read k fs below)

-- a found file decides of no kept one whose path comes behind
stay_without : (f : FoundFile) (fs : List FoundFile) (ks : List KeptFile) → IsBelow (found_path f) (map kept_path ks) → AllByRecursion (λ k. stays (f ∷ fs) k ≡ stays fs k) ks
unfolding stays
stay_without f fs [] below = tt
stay_without f fs (k ∷ ks) below = (
  ap (λ (b : Bool). k.settled && ((b && same_stamp k.stamp f.stamp) || list_any (is_as_read k) fs)) (below_differs (kept_path k) (found_path f) below.0),
  stay_without f fs ks below.1,
)

-- where the same kept files stay, the same found ones are kept
kept_alike : (xs ys : List FoundFile) (g : FoundFile) (ks : List KeptFile) → AllByRecursion (λ k. stays xs k ≡ stays ys k) ks → is_kept ks xs g ≡ is_kept ks ys g
unfolding is_kept
kept_alike xs ys g [] all = refl
kept_alike xs ys g (k ∷ ks) all = λ i. (all.0 i && bytes_eq (kept_path k) (found_path g)) || kept_alike xs ys g ks all.1 i

-- a found file whose path comes before all that are kept
kept_not : (fs : List FoundFile) (f : FoundFile) (ks : List KeptFile) → IsBelow (found_path f) (map kept_path ks) → is_kept ks fs f ≡ false
unfolding is_kept
kept_not fs f [] below = refl
kept_not fs f (k ∷ ks) below =
    none_of_both (stays fs k && bytes_eq (kept_path k) (found_path f)) (is_kept ks fs f)
    (second_false (stays fs k) (bytes_eq (kept_path k) (found_path f)) (below_differs (kept_path k) (found_path f) below.0)) (kept_not fs f ks below.1)

-- a kept file that doesn't stay keeps none
kept_without : (k : KeptFile) (ks : List KeptFile) (fs : List FoundFile) (g : FoundFile) → stays fs k ≡ false → is_kept (k ∷ ks) fs g ≡ is_kept ks fs g
unfolding is_kept
kept_without k ks fs g is = ap (λ (b : Bool). (b && bytes_eq (kept_path k) (found_path g)) || is_kept ks fs g) is

-- nor does it keep a file of another path
kept_beside : (k : KeptFile) (ks : List KeptFile) (fs : List FoundFile) (g : FoundFile) → bytes_eq (kept_path k) (found_path g) ≡ false → is_kept (k ∷ ks) fs g ≡ is_kept ks fs g
unfolding is_kept
kept_beside k ks fs g other = ap (λ (b : Bool). b || is_kept ks fs g) (second_false (stays fs k) (bytes_eq (kept_path k) (found_path g)) other)

pub for_all : {X : Type 0} (P : X → Type 0) → ((x : X) → P x) → (xs : List X) → AllByRecursion P xs
for_all P each [] = tt
for_all P each (x ∷ xs) = (each x, for_all P each xs)

-- ---- the first kept file, and the first found one

module _ (k : KeptFile) (ks : List KeptFile) (f : FoundFile) (fs : List FoundFile) (kept_up : Ascend (map kept_path (k ∷ ks))) (found_up : Ascend (map found_path (f ∷ fs))) where
  -- the kept one comes first
  pub record IsFirstKept : Type 0 where
    pub away : stays (f ∷ fs) k ≡ false
    pub others : AllByRecursion (λ g. is_kept (k ∷ ks) (f ∷ fs) g ≡ is_kept ks (f ∷ fs) g) (f ∷ fs)

  pub first_kept : by_bytes (kept_path k) (found_path f) ≡ Less → IsFirstKept
  first_kept lt = record { away = away; others = for_all (λ g. is_kept (k ∷ ks) (f ∷ fs) g ≡ is_kept ks (f ∷ fs) g) (λ g. kept_without k ks (f ∷ fs) g away) (f ∷ fs) }
    where
      away : stays (f ∷ fs) k ≡ false
      away = stays_not k (f ∷ fs) (below_all (kept_path k) (found_path f) (map found_path fs) lt found_up)

  -- the found one does
  pub record IsFirstFound : Type 0 where
    pub fresh : is_kept (k ∷ ks) (f ∷ fs) f ≡ false
    pub stay : AllByRecursion (λ j. stays (f ∷ fs) j ≡ stays fs j) (k ∷ ks)
    pub others : AllByRecursion (λ g. is_kept (k ∷ ks) (f ∷ fs) g ≡ is_kept (k ∷ ks) fs g) fs

  pub first_found : by_bytes (kept_path k) (found_path f) ≡ Greater → IsFirstFound
  first_found gt = record {
    fresh = kept_not (f ∷ fs) f (k ∷ ks) below;
    stay = stay;
    others = for_all (λ g. is_kept (k ∷ ks) (f ∷ fs) g ≡ is_kept (k ∷ ks) fs g) (λ g. kept_alike (f ∷ fs) fs g (k ∷ ks) stay) fs;
  }
    where
      below : IsBelow (found_path f) (map kept_path (k ∷ ks))
      below = below_all (found_path f) (kept_path k) (map kept_path ks) (lesser_of_greater (kept_path k) (found_path f) gt) kept_up

      stay : AllByRecursion (λ j. stays (f ∷ fs) j ≡ stays fs j) (k ∷ ks)
      stay = stay_without f fs (k ∷ ks) below

  -- they have the same path
  pub record AreBoth : Type 0 where
    pub this : stays (f ∷ fs) k ≡ (k.settled && same_stamp k.stamp f.stamp)
    pub kept : is_kept (k ∷ ks) (f ∷ fs) f ≡ stays (f ∷ fs) k
    pub stay : AllByRecursion (λ j. stays (f ∷ fs) j ≡ stays fs j) ks
    pub others : AllByRecursion (λ g. is_kept (k ∷ ks) (f ∷ fs) g ≡ is_kept ks fs g) fs

  pub both : by_bytes (kept_path k) (found_path f) ≡ Equal → AreBoth
  unfolding stays is_kept
  both eq = record {
    this = this;
    kept = kept;
    stay = stay;
    others = others fs above_rest;
  }
    where
      same : kept_path k ≡ found_path f
      same = equal_names (kept_path k) (found_path f) eq

      is_same : bytes_eq (kept_path k) (found_path f) ≡ true
      is_same = ap (λ (n : Name). bytes_eq (kept_path k) n) (sym same) ∙ same_itself (kept_path k)

      above_rest : IsBelow (kept_path k) (map found_path fs)
      above_rest = subst (λ (n : Name). IsBelow n (map found_path fs)) (sym same) (sorted_head by_bytes (found_path f) (map found_path fs) found_up)

      kept_above : IsBelow (found_path f) (map kept_path ks)
      kept_above = subst (λ (n : Name). IsBelow n (map kept_path ks)) same (sorted_head by_bytes (kept_path k) (map kept_path ks) kept_up)

      this : stays (f ∷ fs) k ≡ (k.settled && same_stamp k.stamp f.stamp)
      this =
          ap (λ (b : Bool). k.settled && ((b && same_stamp k.stamp f.stamp) || list_any (is_as_read k) fs)) is_same
          ∙ ap (λ (b : Bool). k.settled && (same_stamp k.stamp f.stamp || b)) (none_as_read k fs above_rest)
          ∙ ap (λ (b : Bool). k.settled && b) (or-false (same_stamp k.stamp f.stamp))

      kept : is_kept (k ∷ ks) (f ∷ fs) f ≡ stays (f ∷ fs) k
      kept =
          ap (λ (b : Bool). (stays (f ∷ fs) k && b) || is_kept ks (f ∷ fs) f) is_same
          ∙ ap (λ (b : Bool). (stays (f ∷ fs) k && true) || b) (kept_not (f ∷ fs) f ks kept_above)
          ∙ or-false (stays (f ∷ fs) k && true)
          ∙ and-true (stays (f ∷ fs) k)

      stay : AllByRecursion (λ j. stays (f ∷ fs) j ≡ stays fs j) ks
      stay = stay_without f fs ks kept_above

      others : (gs : List FoundFile) → IsBelow (kept_path k) (map found_path gs) → AllByRecursion (λ g. is_kept (k ∷ ks) (f ∷ fs) g ≡ is_kept ks fs g) gs
      others [] below = tt
      others (g ∷ gs) below = (
        kept_beside k ks (f ∷ fs) g (lesser_differs (kept_path k) (found_path g) below.0) ∙ kept_alike (f ∷ fs) fs g ks stay,
        others gs below.1,
      )

-- ---- the places that are still to be listed

places_alike : {X : Type 0} (p q : X → Bool) (n : ℕ) (xs : List X) → AllByRecursion (λ x. p x ≡ q x) xs → places_left p n xs ≡ places_left q n xs
places_alike p q n [] all = refl
places_alike p q n (x ∷ xs) all = λ i. cond (all.0 i) (places_alike p q (n + 1) xs all.1 i) (n ∷ places_alike p q (n + 1) xs all.1 i)

place_passed : {X : Type 0} (p : X → Bool) (n : ℕ) (x : X) (xs : List X) → p x ≡ true → places_left p n (x ∷ xs) ≡ places_left p (n + 1) xs
place_passed p n x xs is = ap (λ (b : Bool). cond b (places_left p (n + 1) xs) (n ∷ places_left p (n + 1) xs)) is

place_left : {X : Type 0} (p : X → Bool) (n : ℕ) (x : X) (xs : List X) → p x ≡ false → places_left p n (x ∷ xs) ≡ n ∷ places_left p (n + 1) xs
place_left p n x xs is = ap (λ (b : Bool). cond b (places_left p (n + 1) xs) (n ∷ places_left p (n + 1) xs)) is

-- where none passes, all places are left
all_left : {X : Type 0} (p : X → Bool) (n : ℕ) (xs : List X) → AllByRecursion (λ x. p x ≡ false) xs → places_left p n xs ≡ range_with_len n (length xs)
all_left p n [] all = refl
all_left p n (x ∷ xs) all = place_left p n x xs all.0 ∙ ap (λ (ms : List ℕ). n ∷ ms) (all_left p (n + 1) xs all.1)

unfoldable pub gone_from : ℕ → List KeptFile → List FoundFile → List ℕ
gone_from i ks fs = places_left (stays fs) i ks

unfoldable pub read_from : ℕ → List KeptFile → List FoundFile → List ℕ
read_from j ks fs = places_left (is_kept ks fs) j fs

-- a step of both lists lists these places
pub record Steps (i j : ℕ) (ks : List KeptFile) (fs : List FoundFile) (gs rs : List ℕ) (more_i more_j : ℕ) (more_ks : List KeptFile) (more_fs : List FoundFile) : Type 0 where
  gone : gone_from i ks fs ≡ gs ++ gone_from more_i more_ks more_fs
  read : read_from j ks fs ≡ rs ++ read_from more_j more_ks more_fs

module _ (i j : ℕ) (k : KeptFile) (ks : List KeptFile) (f : FoundFile) (fs : List FoundFile) (kept_up : Ascend (map kept_path (k ∷ ks))) (found_up : Ascend (map found_path (f ∷ fs))) where
  pub lesser : by_bytes (kept_path k) (found_path f) ≡ Less → Steps i j (k ∷ ks) (f ∷ fs) (i ∷ []) [] (i + 1) j ks (f ∷ fs)
  unfolding gone_from read_from
  lesser lt = let first = first_kept k ks f fs kept_up found_up lt in record {
    gone = place_left (stays (f ∷ fs)) i k ks first.away;
    read = places_alike (is_kept (k ∷ ks) (f ∷ fs)) (is_kept ks (f ∷ fs)) j (f ∷ fs) first.others;
  }

  pub greater : by_bytes (kept_path k) (found_path f) ≡ Greater → Steps i j (k ∷ ks) (f ∷ fs) [] (j ∷ []) i (j + 1) (k ∷ ks) fs
  unfolding gone_from read_from
  greater gt = let first = first_found k ks f fs kept_up found_up gt in record {
    gone = places_alike (stays (f ∷ fs)) (stays fs) i (k ∷ ks) first.stay;
    read =
        place_left (is_kept (k ∷ ks) (f ∷ fs)) j f fs first.fresh
        ∙ ap (λ (ms : List ℕ). j ∷ ms) (places_alike (is_kept (k ∷ ks) (f ∷ fs)) (is_kept (k ∷ ks) fs) (j + 1) fs first.others);
  }

  pub unchanged : by_bytes (kept_path k) (found_path f) ≡ Equal → (k.settled && same_stamp k.stamp f.stamp) ≡ true → Steps i j (k ∷ ks) (f ∷ fs) [] [] (i + 1) (j + 1) ks fs
  unfolding gone_from read_from
  unchanged eq is = let it = both k ks f fs kept_up found_up eq in record {
    gone = place_passed (stays (f ∷ fs)) i k ks (it.this ∙ is) ∙ places_alike (stays (f ∷ fs)) (stays fs) (i + 1) ks it.stay;
    read =
        place_passed (is_kept (k ∷ ks) (f ∷ fs)) j f fs (it.kept ∙ it.this ∙ is)
        ∙ places_alike (is_kept (k ∷ ks) (f ∷ fs)) (is_kept ks fs) (j + 1) fs it.others;
  }

  pub changed : by_bytes (kept_path k) (found_path f) ≡ Equal → (k.settled && same_stamp k.stamp f.stamp) ≡ false → Steps i j (k ∷ ks) (f ∷ fs) (i ∷ []) (j ∷ []) (i + 1) (j + 1) ks fs
  unfolding gone_from read_from
  changed eq is = let it = both k ks f fs kept_up found_up eq in record {
    gone = place_left (stays (f ∷ fs)) i k ks (it.this ∙ is) ∙ ap (λ (ms : List ℕ). i ∷ ms) (places_alike (stays (f ∷ fs)) (stays fs) (i + 1) ks it.stay);
    read =
        place_left (is_kept (k ∷ ks) (f ∷ fs)) j f fs (it.kept ∙ it.this ∙ is)
        ∙ ap (λ (ms : List ℕ). j ∷ ms) (places_alike (is_kept (k ∷ ks) (f ∷ fs)) (is_kept ks fs) (j + 1) fs it.others);
  }

-- ---- what is listed so far

-- what is listed, and what is still to be listed of the files from two places on, is all
pub record AreListed (kept : List KeptFile) (found : List FoundFile) (i j : ℕ) (gs rs : List ℕ) : Type 0 where
  pub gone : gs ++ gone_from i (drop i kept) (drop j found) ≡ gone kept found
  pub read : rs ++ read_from j (drop i kept) (drop j found) ≡ to_read kept found

pub none_listed : (kept : List KeptFile) (found : List FoundFile) (gs rs : List ℕ) → gs ≡ [] → rs ≡ [] → AreListed kept found 0 0 gs rs
unfolding gone_from read_from gone to_read
none_listed kept found gs rs no_gs no_rs = record {
  gone = ap (λ (ms : List ℕ). ms ++ gone_from 0 kept found) no_gs;
  read = ap (λ (ms : List ℕ). ms ++ read_from 0 kept found) no_rs;
}

more_listed : (before more after now left all : List ℕ) → before ++ now ≡ all → now ≡ more ++ left → after ≡ before ++ more → after ++ left ≡ all
more_listed before more after now left all was step is =
    ap (λ (ms : List ℕ). ms ++ left) is ∙ append_assoc before more left ∙ ap (λ (ms : List ℕ). before ++ ms) (sym step) ∙ was

ascend_from : {X : Type 0} (path : X → Name) (n : ℕ) (xs : List X) → Ascend (map path xs) → Ascend (map path (drop n xs))
ascend_from path zero xs up = up
ascend_from path (suc n) [] up = up
ascend_from path (suc n) (x ∷ xs) up = ascend_from path n xs (sorted_tail by_bytes (path x) (map path xs) up)

pub next_is : {X : Type 0} (xs : List X) (n : ℕ) (x : X) → n < length xs → x ≡ get_or xs n x → drop n xs ≡ x ∷ drop (n + 1) xs
next_is {X} xs n x lt is = drop_more xs n x lt ∙ ap (λ (y : X). y ∷ drop (n + 1) xs) (sym is)

module _ (kept : List KeptFile) (found : List FoundFile) (i j : ℕ) (gs rs : List ℕ) (k : KeptFile) (f : FoundFile) (kept_up : Ascend (map kept_path kept)) (found_up : Ascend (map found_path found)) (so_far : AreListed kept found i j gs rs)
    (i_lt : i < length kept) (j_lt : j < length found) (k_is : k ≡ get_or kept i k) (f_is : f ≡ get_or found j f) where
  kept_next : drop i kept ≡ k ∷ drop (i + 1) kept
  kept_next = next_is kept i k i_lt k_is

  found_next : drop j found ≡ f ∷ drop (j + 1) found
  found_next = next_is found j f j_lt f_is

  kept_from : Ascend (map kept_path (k ∷ drop (i + 1) kept))
  kept_from = subst (λ (xs : List KeptFile). Ascend (map kept_path xs)) kept_next (ascend_from kept_path i kept kept_up)

  found_from : Ascend (map found_path (f ∷ drop (j + 1) found))
  found_from = subst (λ (xs : List FoundFile). Ascend (map found_path xs)) found_next (ascend_from found_path j found found_up)

  after_step : (more_gs more_rs : List ℕ) (next_i next_j : ℕ) (gs_after rs_after : List ℕ) → Steps i j (k ∷ drop (i + 1) kept) (f ∷ drop (j + 1) found) more_gs more_rs next_i next_j (drop next_i kept) (drop next_j found)
      → gs_after ≡ gs ++ more_gs → rs_after ≡ rs ++ more_rs → AreListed kept found next_i next_j gs_after rs_after
  after_step more_gs more_rs next_i next_j gs_after rs_after step gs_are rs_are = record {
    gone = more_listed gs more_gs gs_after (gone_from i (drop i kept) (drop j found)) (gone_from next_i (drop next_i kept) (drop next_j found)) (gone kept found) so_far.gone ((λ t. gone_from i (kept_next t) (found_next t)) ∙ step.gone) gs_are;
    read = more_listed rs more_rs rs_after (read_from j (drop i kept) (drop j found)) (read_from next_j (drop next_i kept) (drop next_j found)) (to_read kept found) so_far.read ((λ t. read_from j (kept_next t) (found_next t)) ∙ step.read) rs_are;
  }

  pub after_lesser : (gs_after : List ℕ) → by_bytes (kept_path k) (found_path f) ≡ Less → gs_after ≡ gs ++ i ∷ [] → AreListed kept found (i + 1) j gs_after rs
  after_lesser gs_after lt gs_are = after_step (i ∷ []) [] (i + 1) j gs_after rs step gs_are (sym (append-nil rs))
    where
      step : Steps i j (k ∷ drop (i + 1) kept) (f ∷ drop (j + 1) found) (i ∷ []) [] (i + 1) j (drop (i + 1) kept) (drop j found)
      step = subst (λ (xs : List FoundFile). Steps i j (k ∷ drop (i + 1) kept) (f ∷ drop (j + 1) found) (i ∷ []) [] (i + 1) j (drop (i + 1) kept) xs) (sym found_next) (lesser i j k (drop (i + 1) kept) f (drop (j + 1) found) kept_from found_from lt)

  pub after_greater : (rs_after : List ℕ) → by_bytes (kept_path k) (found_path f) ≡ Greater → rs_after ≡ rs ++ j ∷ [] → AreListed kept found i (j + 1) gs rs_after
  after_greater rs_after gt rs_are = after_step [] (j ∷ []) i (j + 1) gs rs_after step (sym (append-nil gs)) rs_are
    where
      step : Steps i j (k ∷ drop (i + 1) kept) (f ∷ drop (j + 1) found) [] (j ∷ []) i (j + 1) (drop i kept) (drop (j + 1) found)
      step = subst (λ (xs : List KeptFile). Steps i j (k ∷ drop (i + 1) kept) (f ∷ drop (j + 1) found) [] (j ∷ []) i (j + 1) xs (drop (j + 1) found)) (sym kept_next) (greater i j k (drop (i + 1) kept) f (drop (j + 1) found) kept_from found_from gt)

  pub after_both : (gs_after rs_after : List ℕ) (stay : Bool) → by_bytes (kept_path k) (found_path f) ≡ Equal → stay ≡ (k.settled && same_stamp k.stamp f.stamp) → gs_after ≡ gs ++ cond stay [] (i ∷ []) → rs_after ≡ rs ++ cond stay [] (j ∷ [])
      → AreListed kept found (i + 1) (j + 1) gs_after rs_after
  after_both gs_after rs_after true eq is gs_are rs_are = after_step [] [] (i + 1) (j + 1) gs_after rs_after (unchanged i j k (drop (i + 1) kept) f (drop (j + 1) found) kept_from found_from eq (sym is)) gs_are rs_are
  after_both gs_after rs_after false eq is gs_are rs_are =
      after_step (i ∷ []) (j ∷ []) (i + 1) (j + 1) gs_after rs_after (changed i j k (drop (i + 1) kept) f (drop (j + 1) found) kept_from found_from eq (sym is)) gs_are rs_are

-- ---- one of the lists is through

pub none_stays : (k : KeptFile) → stays [] k ≡ false
unfolding stays
none_stays k = second_false k.settled false refl

pub gone_at_end : (kept : List KeptFile) (found : List FoundFile) (i j : ℕ) → (length kept ≤ i) ⊎ (length found ≤ j) → gone_from i (drop i kept) (drop j found) ≡ range_with_len i (length kept - i)
unfolding gone_from
gone_at_end kept found i j (inl through) =
    let none : length kept - i ≡ 0 = omega arith in
    ap (λ (ks : List KeptFile). places_left (stays (drop j found)) i ks) (drop_all i kept through) ∙ ap (range_with_len i) (sym none)
gone_at_end kept found i j (inr through) =
    ap (λ (fs : List FoundFile). places_left (stays fs) i (drop i kept)) (drop_all j found through)
    ∙ all_left (stays []) i (drop i kept) (for_all (λ k. stays [] k ≡ false) none_stays (drop i kept))
    ∙ ap (range_with_len i) (length-drop i kept)

pub read_at_end : (kept : List KeptFile) (found : List FoundFile) (i j : ℕ) → (length kept ≤ i) ⊎ (length found ≤ j) → read_from j (drop i kept) (drop j found) ≡ range_with_len j (length found - j)
unfolding read_from is_kept
read_at_end kept found i j (inl through) =
    ap (λ (ks : List KeptFile). places_left (is_kept ks (drop j found)) j (drop j found)) (drop_all i kept through)
    ∙ all_left (is_kept [] (drop j found)) j (drop j found) (for_all (λ f. is_kept [] (drop j found) f ≡ false) (λ f. refl) (drop j found))
    ∙ ap (range_with_len j) (length-drop j found)
read_at_end kept found i j (inr through) =
    let none : length found - j ≡ 0 = omega arith in
    ap (λ (fs : List FoundFile). places_left (is_kept (drop i kept) (drop j found)) j fs) (drop_all j found through) ∙ ap (range_with_len j) (sym none)

pub range_next : (from end : ℕ) → from < end → range_with_len from (end - from) ≡ from ∷ range_with_len (from + 1) (end - (from + 1))
range_next from end lt = let more : end - from ≡ suc (end - (from + 1)) = omega arith in ap (range_with_len from) more

-- ---- paths that ascend

module _ {X : Type 0} (path : X → Name) (xs : List X) (n : ℕ) (x y : X) (in_range : n + 1 < length xs) (x_is : x ≡ get_or xs n x) (y_is : y ≡ get_or xs (n + 1) y) where
  two_next : drop n xs ≡ x ∷ y ∷ drop (n + 1 + 1) xs
  two_next = next_is xs n x (omega arith) x_is ∙ ap (λ (ys : List X). x ∷ ys) (next_is xs (n + 1) y in_range y_is)

  pub ascend_before : by_bytes (path x) (path y) ≡ Less → Ascend (map path (drop (n + 1) xs)) → Ascend (map path (drop n xs))
  unfolding IsStrictlySortedBy
  ascend_before lt up =
      let from_y = subst (λ (ys : List X). Ascend (map path ys)) (next_is xs (n + 1) y in_range y_is) up in
      subst (λ (ys : List X). Ascend (map path ys)) (sym two_next) (below_all (path x) (path y) (map path (drop (n + 1 + 1) xs)) lt from_y, from_y)

  pub ascend_then : Ascend (map path xs) → by_bytes (path x) (path y) ≡ Less
  ascend_then up = (sorted_head by_bytes (path x) (map path (y ∷ drop (n + 1 + 1) xs)) (subst (λ (ys : List X). Ascend (map path ys)) two_next (ascend_from path n xs up))).0

pub less_of : (o : Ordering) → is_ge o ≡ false → o ≡ Less
less_of Less is = refl
less_of Equal is = absurd (cc is)
less_of Greater is = absurd (cc is)

pub not_less : (o : Ordering) → is_ge o ≡ true → o ≡ Less → ⊥
not_less Less is lt = cc is
not_less Equal is lt = cc lt
not_less Greater is lt = cc lt

pub one_ascends : {X : Type 0} (path : X → Name) (xs : List X) → length xs ≤ 1 → Ascend (map path xs)
unfolding IsStrictlySortedBy
one_ascends path [] short = tt
one_ascends path (x ∷ []) short = (tt, tt)
one_ascends path (x ∷ y ∷ xs) short = absurd (omega arith)
