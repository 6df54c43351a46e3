-- What a crash leaves of an update is the index of before or that of after, whatever names its manifests name.
use Rattle.std.proofs.Common.{◌≡◌, inl, inr, ℕ, suc, false, List, [], ◌∷◌, ◌++◌, get_or, map, All, refl, sym, ◌∙◌, ap, subst, arith}
use Rattle.std.proofs.lemmas.Bool.{cases_Bool}
use Rattle.std.specs.Str.{bytes_eq}
use Rattle.qm_folder.specs.Names.{Name, file_name, file_names, is_among}
use Rattle.qm_folder.specs.Disk.{Content, Contents, Disk, LeavesOnly}
use Rattle.qm_folder.specs.Index.{IsEitherIndex, LeavesIndex, NamesOwn, index, named_by}
use Rattle.qm_folder.specs.Clean.{IsClean}
use Rattle.qm_folder.specs.Update.{Change, IsAfter, IsBefore, IsBeforeOrAfter}
use Rattle.qm_folder.specs.declared.updating.TheConstants.{MANIFEST, STAGED}
use Rattle.qm_folder.proofs.Moments.{weakened}
use Rattle.qm_folder.proofs.NameLists.{among_each, neither, none_of_both, same_name}

same_map : (ns : List Name) (c d : Contents) → All (λ n. c n ≡ d n) ns → map c ns ≡ map d ns
same_map [] c d same = refl
same_map (n ∷ ns) c d same = let first = same 0 n (omega arith) in let rest = same_map ns c d (λ k e lt. same (suc k) e (omega arith)) in λ i. first i ∷ rest i

-- the same manifest, and the same under each name in it
same_index : (named : List ℕ → List Name) (c d : Contents) → c MANIFEST.now ≡ d MANIFEST.now → All (λ n. c n ≡ d n) (named_by named (d MANIFEST.now)) → index named c ≡ index named d
same_index named c d manifest files =
    let each : map c (named_by named (c MANIFEST.now)) ≡ map d (named_by named (d MANIFEST.now)) =
    ap (λ (m : Content). map c (named_by named m)) manifest ∙ same_map (named_by named (d MANIFEST.now)) c d files in
    λ i. (manifest i, each i)

among_either : (xs ys : List Name) (n : Name) → is_among xs n ≡ false → is_among ys n ≡ false → is_among (xs ++ ys) n ≡ false
among_either [] ys n first second = second
among_either (x ∷ xs) ys n first second =
    let parts = neither (bytes_eq n x) (is_among xs n) first in none_of_both (bytes_eq n x) (is_among (xs ++ ys) n) parts.0 (among_either xs ys n parts.1 second)

module _ (named : List ℕ → List Name) (it : Change) (old : Disk) (clean : IsClean (file_names it.files) it.gone) (own : NamesOwn named it old) where
  before_index : (c : Contents) → IsBefore it old c → index named c ≡ index named old.seen
  before_index c before =
      same_index named c old.seen (before MANIFEST.now (none_of_both false (is_among (file_names it.files) MANIFEST.now) refl clean.no_manifest))
      (λ k d lt. before (get_or (named_by named (old.seen MANIFEST.now)) k d) (own.before k d lt))

  module _ (after c : Contents) (is_after : IsAfter it old after) (too : IsAfter it old c) where
    manifests : c MANIFEST.now ≡ after MANIFEST.now
    manifests = too.manifest ∙ sym is_after.manifest

    -- a name that is not gone
    same_at : (n : Name) → is_among (STAGED.now ∷ it.gone) n ≡ false → c n ≡ after n
    same_at n stays = elim (cases_Bool (is_among (file_names it.files) n)) [
      | inl is_new ↦ among_each file_name (λ m. c m ≡ after m) it.files (λ k d lt. too.files k d lt ∙ sym (is_after.files k d lt)) n is_new
      | inr other ↦ elim (cases_Bool (bytes_eq n MANIFEST.now)) [
        | inl same ↦ subst (λ (m : Name). c m ≡ after m) (sym (same_name n MANIFEST.now same)) manifests
        | inr differs ↦
            let parts = neither (bytes_eq n STAGED.now) (is_among it.gone n) stays in
            let apart =
            none_of_both (bytes_eq n STAGED.now) (is_among (MANIFEST.now ∷ file_names it.files ++ it.gone) n) parts.0
            (none_of_both (bytes_eq n MANIFEST.now) (is_among (file_names it.files ++ it.gone) n) differs (among_either (file_names it.files) it.gone n other parts.1)) in
            too.others n apart ∙ sym (is_after.others n apart)
      ]
    ]

    after_index : index named c ≡ index named after
    after_index =
        same_index named c after manifests
        (subst (λ (m : Content). All (λ n. c n ≡ after n) (named_by named m)) (sym is_after.manifest) (λ k d lt. same_at (get_or (named it.manifest) k d) (own.after k d lt)))

  either_index : (c : Contents) → IsBeforeOrAfter it old c → IsEitherIndex named it old c
  either_index c (inl before) = inl (before_index c before)
  either_index c (inr too) = inr (λ after is_after. after_index after c is_after too)

pub leaves_index : (it : Change) (old new : Disk) → IsClean (file_names it.files) it.gone → LeavesOnly old new (IsBeforeOrAfter it old) → LeavesIndex it old new
leaves_index it old new clean leaves named own = weakened old new (IsBeforeOrAfter it old) (IsEitherIndex named it old) leaves (either_index named it old clean own)
