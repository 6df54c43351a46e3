-- Files of segments that are added one behind the other.
use Rattle.std.proofs.Common.{◌≡◌, ℕ, List, [], ◌∷◌, ◌++◌, All, length, take, append-nil, append_assoc, refl, sym, ap, subst, ◌∙◌, arith}
use Rattle.std.proofs.lemmas.Bool.{false≢true}
use Rattle.std.proofs.lemmas.Grind.{flat_map-append}
use Rattle.std.proofs.lemmas.List.{length-append, take-append-le, take_all}
use Rattle.std.proofs.lemmas.List.Elements.{All-append, All-cons, All-nil, All-tail, All-take}
use Rattle.qm_folder.specs.Disk.{Contents}
use Rattle.qm_index.specs.SavedFiles.{IsNumberedBelow}
use Rattle.qm_index.specs.SavedIndex.{AreHeld, IsHeld}
use Rattle.qm_postings.specs.Segment.{Segment}
use Rattle.qm_store.specs.declared.kept_segment.KeptSegment.{KeptSegment}
use Rattle.birchagain_bytes.specs.Bytes.{AreKnownHeld, ArePacked, IsKnownHeld, IsPacked, IsUnlessKnown}
use Rattle.birchagain_bytes.specs.Packed.{File, IsFile, IsThere, file_bytes, files_bytes}

-- ---- the parts of a list

pub All-right : {X : Type 0} (P : X → Type 0) (xs ys : List X) → All P (xs ++ ys) → All P ys
All-right P [] ys all = all
All-right P (x ∷ xs) ys all = All-right P xs ys (All-tail P x (xs ++ ys) all)

pub All-left : {X : Type 0} (P : X → Type 0) (xs ys : List X) → All P (xs ++ ys) → All P xs
All-left P xs ys all =
    let own : take (length xs) (xs ++ ys) ≡ xs = take-append-le (length xs) xs ys (omega arith) ∙ take_all (length xs) xs (omega arith) in
    subst (All P) own (All-take P (length xs) (xs ++ ys) all)

-- ---- what is known of several segments is known of the last, and of those before it

known-parts : (known : List ℕ) (c : Contents) (ks : List KeptSegment) (ss : List Segment) (k : KeptSegment) (s : Segment) → length ks ≡ length ss →
    AreKnownHeld known c (ks ++ k ∷ []) (ss ++ s ∷ []) → AreKnownHeld known c ks ss × IsKnownHeld known c k s
known-parts known c [] [] k s same held = (tt, held.0)
known-parts known c [] (t ∷ ss) k s same held = absurd (omega (arith, same))
known-parts known c (l ∷ ks) [] k s same held = absurd (omega (arith, same))
known-parts known c (l ∷ ks) (t ∷ ss) k s same held =
    let parts = known-parts known c ks ss k s (omega (arith, same)) held.1 in
    ((held.0, parts.0), parts.1)

held-more : (c : Contents) (ks : List KeptSegment) (ss : List Segment) (k : KeptSegment) (s : Segment) → AreHeld c ks ss → IsHeld c k s → AreHeld c (ks ++ k ∷ []) (ss ++ s ∷ [])
held-more c [] [] k s are is = (is, tt)
held-more c [] (x ∷ ss) k s are is = absurd are
held-more c (b ∷ ks) [] k s are is = absurd are
held-more c (b ∷ ks) (x ∷ ss) k s are is = (are.0, held-more c ks ss k s are.1 is)

-- what is known of none is nothing
pub nothing-known : (c : Contents) (ks : List KeptSegment) (ss : List Segment) → AreKnownHeld [] c ks ss
nothing-known c [] ss = tt
nothing-known c (k ∷ ks) [] = tt
nothing-known c (k ∷ ks) (s ∷ ss) = (record { file = λ no. absurd (false≢true no); deleted = λ no. absurd (false≢true no) }, nothing-known c ks ss)

-- ---- one segment more

added-both : (before mid after : List ℕ) (fs gs : List File) → mid ≡ before ++ files_bytes fs → after ≡ mid ++ files_bytes gs → after ≡ before ++ files_bytes (fs ++ gs)
added-both before mid after fs gs first second =
    second ∙ ap (λ (l : List ℕ). l ++ files_bytes gs) first ∙ append_assoc before (files_bytes fs) (files_bytes gs)
    ∙ ap (λ (l : List ℕ). before ++ l) (sym (flat_map-append file_bytes fs gs))

pub none-packed : (known : List ℕ) (before : List ℕ) → ArePacked known [] [] before before
none-packed known before = record {
  files = [];
  added = sym (append-nil before);
  fit = All-nil IsFile;
  numbered = All-nil (IsNumberedBelow 18446744073709551615);
  as_many = refl;
  holds = λ c there held. tt;
  unless_known = λ rising. All-nil (IsUnlessKnown known);
}

pub packed-more : (known : List ℕ) (ks : List KeptSegment) (ss : List Segment) (k : KeptSegment) (s : Segment) (before mid after : List ℕ) →
    ArePacked known ks ss before mid → IsPacked known k s mid after → ArePacked known (ks ++ k ∷ []) (ss ++ s ∷ []) before after
packed-more known ks ss k s before mid after are is = record {
  files = are.files ++ is.files;
  added = added-both before mid after are.files is.files are.added is.added;
  fit = All-append IsFile are.files is.files are.fit is.fit;
  numbered = All-append (IsNumberedBelow 18446744073709551615) ks (k ∷ []) are.numbered
      (All-cons (IsNumberedBelow 18446744073709551615) k [] is.numbered (All-nil (IsNumberedBelow 18446744073709551615)));
  as_many = omega (arith, length-append ks (k ∷ []), length-append ss (s ∷ []), are.as_many);
  holds = λ c there held.
      let parts = known-parts known c ks ss k s are.as_many held in
      held-more c ks ss k s (are.holds c (All-left (IsThere c) are.files is.files there) parts.0)
      (is.holds c (All-right (IsThere c) are.files is.files there) parts.1);
  unless_known = λ rising. All-append (IsUnlessKnown known) are.files is.files (are.unless_known rising) (is.unless_known rising);
}
