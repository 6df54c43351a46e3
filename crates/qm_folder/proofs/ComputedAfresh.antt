-- Behind its changes an index has what one has that is made afresh.
use Rattle.std.proofs.Common.{◌≡◌, inl, inr, ℕ, ◌+◌, ◌≤◌, zero, suc, ◌==◌, ◌&&◌, Bool, not, true, false, List, [], ◌∷◌, ◌++◌, All, IsTrue, cond, map, length, refl, sym, ◌∙◌, ap, subst, arith}
use Rattle.std.proofs.lemmas.Bool.{and_parts, cases_Bool, eqb-true}
use Rattle.std.proofs.lemmas.List.{map-append}
use Rattle.std.proofs.lemmas.Simd.{map-map}
use Rattle.std.proofs.lemmas.List.Elements.{All-cons, All-nil}
use Rattle.std.proofs.lemmas.List.Sorted.{IsPermutation-filter_both, IsPermutation-map}
use Rattle.std.proofs.lemmas.Map.Keys.{IsDistinct-IsPermutation, IsDistinct-from_sorted, sorted_tail}
use Rattle.std.proofs.lemmas.Map.Text.{is_eq-slice_cmp}
use Rattle.std.specs.Cmp.Lexicographic.{nat_list_eq_equiv}
use Rattle.std.specs.List.{AllByRecursion, IsDistinct, filter}
use Rattle.std.specs.List.Sorted.{IsPermutation}
use Rattle.std.specs.Str.{bytes_eq}
use Rattle.std.specs.declared.cmp.Ordering.TheVariants.{Less, Equal, Greater}
use Rattle.qm_folder.specs.Names.{Name}
use Rattle.qm_folder.specs.Afresh.{IsAfresh, ReadFile, as_found, as_kept, files_after, files_left, files_read}
use Rattle.qm_folder.specs.Paths.{Ascend}
use Rattle.qm_folder.specs.Changes.{found_path, is_kept, kept_path, same_stamp, stays}
use Rattle.qm_folder.specs.declared.file_stamp.FileStamp.{FileStamp}
use Rattle.qm_folder.specs.declared.found_file.FoundFile.{FoundFile}
use Rattle.qm_folder.specs.declared.kept_file.KeptFile.{KeptFile}
use Rattle.qm_folder.proofs.ComparedFiles.{both, by_bytes, equal_names, first_found, first_kept, none_stays}

filter_alike : {X : Type 0} (p q : X → Bool) (xs : List X) → AllByRecursion (λ x. p x ≡ q x) xs → filter p xs ≡ filter q xs
filter_alike p q [] all = refl
filter_alike p q (x ∷ xs) all = λ i. cond (all.0 i) (x ∷ filter_alike p q xs all.1 i) (filter_alike p q xs all.1 i)

filter_first : {X : Type 0} (p : X → Bool) (x : X) (xs : List X) → p x ≡ true → filter p (x ∷ xs) ≡ x ∷ filter p xs
filter_first p x xs is = ap (λ (b : Bool). cond b (x ∷ filter p xs) (filter p xs)) is

filter_past : {X : Type 0} (p : X → Bool) (x : X) (xs : List X) → p x ≡ false → filter p (x ∷ xs) ≡ filter p xs
filter_past p x xs is = ap (λ (b : Bool). cond b (x ∷ filter p xs) (filter p xs)) is

filter_none : {X : Type 0} (p : X → Bool) → ((x : X) → p x ≡ false) → (xs : List X) → filter p xs ≡ []
filter_none p none [] = refl
filter_none p none (x ∷ xs) = filter_past p x xs (none x) ∙ filter_none p none xs

passing : {X : Type 0} (P : X → Type 0) (p : X → Bool) → ((x : X) → p x ≡ true → P x) → (xs : List X) → All P (filter p xs)
passing P p each [] = All-nil P
passing P p each (x ∷ xs) = elim (cases_Bool (p x)) [
  | inl is ↦ subst (All P) (sym (filter_first p x xs is)) (All-cons P x (filter p xs) (each x is) (passing P p each xs))
  | inr is_not ↦ subst (All P) (sym (filter_past p x xs is_not)) (passing P p each xs)
]

stamp_is : (s t : FileStamp) → same_stamp s t ≡ true → s ≡ t
stamp_is s t is =
    let three = and_parts ((s.size == t.size) && (s.bytes_changed == t.bytes_changed) && (s.changed == t.changed)) (s.inode == t.inode) is in
    let two = and_parts ((s.size == t.size) && (s.bytes_changed == t.bytes_changed)) (s.changed == t.changed) three.0 in
    let one = and_parts (s.size == t.size) (s.bytes_changed == t.bytes_changed) two.0 in
    λ i. record {
      size = eqb-true s.size t.size one.0 i;
      bytes_changed = eqb-true s.bytes_changed t.bytes_changed one.1 i;
      changed = eqb-true s.changed t.changed two.1 i;
      inode = eqb-true s.inode t.inode three.1 i;
    }

none_kept : (fs : List FoundFile) (f : FoundFile) → is_kept [] fs f ≡ false
unfolding is_kept
none_kept fs f = refl

-- what stays of a kept list, as it is read, and the files of the found one that are kept so
abbrev SameFiles : List KeptFile → List FoundFile → Type 0
SameFiles ks fs = map as_kept (filter (stays fs) ks) ≡ map as_found (filter (is_kept ks fs) fs)

same_files : (n : ℕ) (ks : List KeptFile) (fs : List FoundFile) → length ks + length fs ≤ n → Ascend (map kept_path ks) → Ascend (map found_path fs) → SameFiles ks fs
same_files n [] fs le kept_up found_up = sym (ap (map as_found) (filter_none (is_kept [] fs) (none_kept fs) fs))
same_files n (k ∷ ks) [] le kept_up found_up = ap (map as_kept) (filter_none (stays []) none_stays (k ∷ ks))
same_files zero (k ∷ ks) (f ∷ fs) le kept_up found_up = absurd (omega arith)
same_files (suc n) (k ∷ ks) (f ∷ fs) le kept_up found_up = elim (by_bytes (kept_path k) (found_path f)) as (λ o. by_bytes (kept_path k) (found_path f) ≡ o → SameFiles (k ∷ ks) (f ∷ fs)) [
  | Less ↦ λ lt.
      let first = first_kept k ks f fs kept_up found_up lt in
      ap (map as_kept) (filter_past (stays (f ∷ fs)) k ks first.away)
      ∙ same_files n ks (f ∷ fs) (omega arith) (sorted_tail by_bytes (kept_path k) (map kept_path ks) kept_up) found_up
      ∙ ap (map as_found) (sym (filter_alike (is_kept (k ∷ ks) (f ∷ fs)) (is_kept ks (f ∷ fs)) (f ∷ fs) first.others))
  | Greater ↦ λ gt.
      let first = first_found k ks f fs kept_up found_up gt in
      ap (map as_kept) (filter_alike (stays (f ∷ fs)) (stays fs) (k ∷ ks) first.stay)
      ∙ same_files n (k ∷ ks) fs (omega arith) kept_up (sorted_tail by_bytes (found_path f) (map found_path fs) found_up)
      ∙ ap (map as_found) (sym (filter_past (is_kept (k ∷ ks) (f ∷ fs)) f fs first.fresh ∙ filter_alike (is_kept (k ∷ ks) (f ∷ fs)) (is_kept (k ∷ ks) fs) fs first.others))
  | Equal ↦ λ eq.
      let it = both k ks f fs kept_up found_up eq in
      let rest = same_files n ks fs (omega arith) (sorted_tail by_bytes (kept_path k) (map kept_path ks) kept_up) (sorted_tail by_bytes (found_path f) (map found_path fs) found_up) in
      let left : filter (stays (f ∷ fs)) ks ≡ filter (stays fs) ks = filter_alike (stays (f ∷ fs)) (stays fs) ks it.stay in
      let kept : filter (is_kept (k ∷ ks) (f ∷ fs)) fs ≡ filter (is_kept ks fs) fs = filter_alike (is_kept (k ∷ ks) (f ∷ fs)) (is_kept ks fs) fs it.others in
      elim (cases_Bool (stays (f ∷ fs) k)) [
        | inl stays_so ↦
            let same : as_kept k ≡ as_found f =
            λ i. record { path = equal_names (kept_path k) (found_path f) eq i; stamp = stamp_is k.stamp f.stamp (and_parts k.settled (same_stamp k.stamp f.stamp) (sym it.this ∙ stays_so)).1 i } in
            ap (map as_kept) (filter_first (stays (f ∷ fs)) k ks stays_so ∙ ap (λ (xs : List KeptFile). k ∷ xs) left)
            ∙ (λ i. same i ∷ rest i)
            ∙ ap (map as_found) (sym (filter_first (is_kept (k ∷ ks) (f ∷ fs)) f fs (it.kept ∙ stays_so) ∙ ap (λ (xs : List FoundFile). f ∷ xs) kept))
        | inr stays_not ↦
            ap (map as_kept) (filter_past (stays (f ∷ fs)) k ks stays_not ∙ left)
            ∙ rest
            ∙ ap (map as_found) (sym (filter_past (is_kept (k ∷ ks) (f ∷ fs)) f fs (it.kept ∙ stays_not) ∙ kept))
      ]
] refl

settled_so : (found : List FoundFile) (k : KeptFile) → stays found k ≡ true → IsTrue k.settled
unfolding stays
settled_so found k is = (and_parts k.settled _ is).0

module _ (kept : List KeptFile) (found : List FoundFile) (kept_up : Ascend (map kept_path kept)) (found_up : Ascend (map found_path found)) where
  files : IsPermutation (map as_found found) (files_after kept found)
  unfolding files_left files_read
  files =
      let read = filter (λ f. not (is_kept kept found f)) found in
      let whole = map-append as_found (filter (is_kept kept found) found) read ∙ ap (λ (xs : List ReadFile). xs ++ map as_found read) (sym (same_files (length kept + length found) kept found (omega arith) kept_up found_up)) in
      subst (IsPermutation (map as_found found)) whole
      (IsPermutation-map as_found found (filter (is_kept kept found) found ++ read) (IsPermutation-filter_both (is_kept kept found) (λ f. not (is_kept kept found f)) (λ f. refl) found))

  paths_distinct : IsDistinct bytes_eq (map found_path found)
  paths_distinct = subst (λ (same : Name → Name → Bool). IsDistinct same (map found_path found)) (λ i x y. is_eq-slice_cmp x y i) (IsDistinct-from_sorted by_bytes (map found_path found) found_up)

  pub computed-afresh : IsAfresh kept found
  unfolding files_left
  computed-afresh = record {
    files = files;
    once =
        IsDistinct-IsPermutation bytes_eq nat_list_eq_equiv.symm (map (λ (it : ReadFile). it.path) (map as_found found)) (map (λ (it : ReadFile). it.path) (files_after kept found))
        (IsPermutation-map (λ (it : ReadFile). it.path) (map as_found found) (files_after kept found) files)
        (subst (IsDistinct bytes_eq) (sym (map-map (λ (it : ReadFile). it.path) as_found found)) paths_distinct);
    settled = passing (λ k. IsTrue k.settled) (stays found) (settled_so found) kept;
  }
