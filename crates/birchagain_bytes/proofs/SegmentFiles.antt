-- The files of a segment, of several, and of an index, as they are added.
use Rattle.std.proofs.Common.{◌≡◌, ℕ, ◌<◌, ◌≤◌, ◌^◌, false, true, List, [], ◌∷◌, ◌++◌, All, None, Some, length, append-nil, append_assoc, refl, sym, ap, subst, ◌∙◌, inl, inr}
use Rattle.std.specs.Prelude.{IsUtf8}
use Rattle.std.specs.List.Sorted.{IsNonDecreasing}
use Rattle.std.proofs.lemmas.Bool.{false≢true}
use Rattle.std.proofs.lemmas.Grind.{flat_map-append}
use Rattle.std.proofs.lemmas.List.Concat.{flat_map-cons}
use Rattle.std.proofs.lemmas.List.Elements.{All-append, All-cons, All-head, All-nil, All-tail}
use Rattle.qm_folder.specs.Disk.{Contents}
use Rattle.qm_folder.specs.Names.{Name}
use Rattle.qm_folder.specs.declared.updating.TheConstants.{MANIFEST}
use Rattle.qm_index.specs.FileNames.{deletions_name, segment_name}
use Rattle.qm_index.specs.Indexed.{indexed}
use Rattle.qm_index.specs.SavedFiles.{IsNumberedBelow}
use Rattle.qm_index.specs.SavedIndex.{AreHeld}
use Rattle.qm_index.specs.Saving.{manifest_with}
use Rattle.qm_index.specs.declared.index.Index.{Index}
use Rattle.qm_postings.specs.Reading.{Reader}
use Rattle.qm_postings.specs.Segment.{Segment, deleted_documents}
use Rattle.qm_store.specs.Deletions.{AreNumbers, stored_deletions}
use Rattle.qm_store.specs.Heads.{head_bytes}
use Rattle.qm_store.specs.Manifest.{IsManifest, manifest_spelled}
use Rattle.qm_store.specs.Stored.{IsStored, stored}
use Rattle.qm_store.specs.declared.kept_segment.KeptSegment.{KeptSegment}
use Rattle.birchagain_bytes.specs.Bytes.{AreDeletionsAdded, AreKnownHeld, AreLeftOut, ArePacked, IsIndexPacked, IsManifestAdded, IsPacked, IsSegmentAdded, IsUnlessKnown, is_known}
use Rattle.birchagain_bytes.specs.Packed.{AreThere, File, IsFile, IsThere, file_bytes, files_bytes, named_bytes, packed, packed_kind}
use Rattle.birchagain_bytes.proofs.Packs.{All-left, All-right}

-- A file was added, as the code says of it.
pub record IsPushed (name : Name) (bytes before after : List ℕ) : Type 0 where
  pub added : after ≡ before ++ named_bytes name bytes
  pub name_length : length name < 2 ^ 64
  pub length : length bytes < 2 ^ 64
  pub text : IsUtf8 name

-- ---- a file of a segment

pub segment-known : (known : List ℕ) (key : ℕ) (s : Segment) (name : Name) (before after : List ℕ) → IsPushed name [] before after → name ≡ segment_name key →
    is_known known key ≡ true → IsSegmentAdded known key s before after
segment-known known key s name before after is named there = record {
  file = record { name = name; bytes = None };
  added = is.added;
  fit = record { name_length = is.name_length; length = is.length; text = is.text };
  holds = λ c stands have. have there;
  unless_known = λ rising. inl (record { number = key; named = inl named; left_out = λ yes. refl });
}

pub segment-new : (known : List ℕ) (key : ℕ) (r : Reader) (name : Name) (bytes before after : List ℕ) → IsPushed name bytes before after → name ≡ segment_name key →
    (IsNonDecreasing known → is_known known key ≡ false) → bytes ≡ stored key r → IsStored key r → IsSegmentAdded known key r.segment before after
segment-new known key r name bytes before after is named new whole storable = record {
  file = record { name = name; bytes = Some bytes };
  added = is.added;
  fit = record { name_length = is.name_length; length = is.length; text = is.text };
  holds = λ c stands have. record { reader = r; storable = storable; of = refl; bytes = ap c (sym named) ∙ stands ∙ ap Some whole };
  unless_known = λ rising. inl (record { number = key; named = inl named; left_out = λ yes. absurd (false≢true (sym (new rising) ∙ yes)) });
}

pub deletions-known : (known : List ℕ) (key number : ℕ) (s : Segment) (name : Name) (before after : List ℕ) → IsPushed name [] before after →
    name ≡ deletions_name number → is_known known number ≡ true → AreDeletionsAdded known key number s before after
deletions-known known key number s name before after is named there = record {
  file = record { name = name; bytes = None };
  added = is.added;
  fit = record { name_length = is.name_length; length = is.length; text = is.text };
  holds = λ c stands have. have there;
  unless_known = λ rising. inl (record { number = number; named = inr named; left_out = λ yes. refl });
}

pub deletions-new : (known : List ℕ) (key number : ℕ) (s : Segment) (name : Name) (bytes before after : List ℕ) → IsPushed name bytes before after →
    name ≡ deletions_name number → (IsNonDecreasing known → is_known known number ≡ false) → bytes ≡ stored_deletions key (length s.documents) s.deleted → 0 < number → AreNumbers (length s.documents) s.deleted →
    length s.documents ≤ 4294967295 → AreDeletionsAdded known key number s before after
deletions-new known key number s name bytes before after is named new whole some numbers few = record {
  file = record { name = name; bytes = Some bytes };
  added = is.added;
  fit = record { name_length = is.name_length; length = is.length; text = is.text };
  holds = λ c stands have. inr (record { some = some; numbers = numbers; few = few; bytes = ap c (sym named) ∙ stands ∙ ap Some whole });
  unless_known = λ rising. inl (record { number = number; named = inr named; left_out = λ yes. absurd (false≢true (sym (new rising) ∙ yes)) });
}

-- ---- a segment

one-file : (f : File) → files_bytes (f ∷ []) ≡ file_bytes f
one-file f = flat_map-cons file_bytes f [] ∙ append-nil (file_bytes f)

pub packed-whole : (known : List ℕ) (k : KeptSegment) (s : Segment) (before after : List ℕ) → IsSegmentAdded known k.key s before after → s.deleted ≡ [] →
    k.deletions ≡ 0 → k.deleted ≡ length s.deleted → s.deleted ≡ deleted_documents s → IsNumberedBelow 18446744073709551615 k → IsPacked known k s before after
packed-whole known k s before after is none no_file counted ascending numbered = record {
  files = is.file ∷ [];
  added = is.added ∙ ap (λ (l : List ℕ). before ++ l) (sym (one-file is.file));
  fit = All-cons IsFile is.file [] is.fit (All-nil IsFile);
  numbered = numbered;
  holds = λ c there held. record {
    file = is.holds c (All-head (IsThere c) is.file [] there) held.file;
    deleted = inl (record { none = none; no_file = no_file });
    counted = counted;
    ascending = ascending;
  };
  unless_known = λ rising. All-cons (IsUnlessKnown known) is.file [] (is.unless_known rising) (All-nil (IsUnlessKnown known));
}

pub packed-deleted : (known : List ℕ) (k : KeptSegment) (s : Segment) (before mid after : List ℕ) → IsSegmentAdded known k.key s before mid →
    AreDeletionsAdded known k.key k.deletions s mid after → k.deleted ≡ length s.deleted → s.deleted ≡ deleted_documents s →
    IsNumberedBelow 18446744073709551615 k → IsPacked known k s before after
packed-deleted known k s before mid after is are counted ascending numbered = record {
  files = is.file ∷ are.file ∷ [];
  added =
      are.added ∙ ap (λ (l : List ℕ). l ++ file_bytes are.file) is.added ∙ append_assoc before (file_bytes is.file) (file_bytes are.file)
      ∙ ap (λ (l : List ℕ). before ++ (file_bytes is.file ++ l)) (sym (one-file are.file))
      ∙ ap (λ (l : List ℕ). before ++ l) (sym (flat_map-cons file_bytes is.file (are.file ∷ [])));
  fit = All-cons IsFile is.file (are.file ∷ []) is.fit (All-cons IsFile are.file [] are.fit (All-nil IsFile));
  numbered = numbered;
  holds = λ c there held. record {
    file = is.holds c (All-head (IsThere c) is.file (are.file ∷ []) there) held.file;
    deleted = are.holds c (All-head (IsThere c) are.file [] (All-tail (IsThere c) is.file (are.file ∷ []) there)) held.deleted;
    counted = counted;
    ascending = ascending;
  };
  unless_known = λ rising.
      All-cons (IsUnlessKnown known) is.file (are.file ∷ []) (is.unless_known rising)
      (All-cons (IsUnlessKnown known) are.file [] (are.unless_known rising) (All-nil (IsUnlessKnown known)));
}

-- ---- the manifest, and an index

pub manifest-added : (i : Index) (kept : List KeptSegment) (bytes before after : List ℕ) → IsPushed MANIFEST.now bytes before after →
    bytes ≡ manifest_spelled (manifest_with i kept) → IsManifest (manifest_with i kept) → IsManifestAdded i kept before after
manifest-added i kept bytes before after is spelled fits = record {
  file = record { name = MANIFEST.now; bytes = Some bytes };
  named = refl;
  added = is.added;
  fit = record { name_length = is.name_length; length = is.length; text = is.text };
  fits = fits;
  there = λ c stands. stands ∙ ap Some spelled;
}

spelled-so : (known : List ℕ) (i : Index) (kept : List KeptSegment) (ss : List Segment) (head mid bytes : List ℕ) → head ≡ head_bytes packed_kind →
    (are : ArePacked known kept ss head mid) (last : IsManifestAdded i kept mid bytes) → bytes ≡ packed (are.files ++ last.file ∷ [])
spelled-so known i kept ss head mid bytes begun are last =
    last.added ∙ ap (λ (l : List ℕ). l ++ file_bytes last.file) (are.added ∙ ap (λ (l : List ℕ). l ++ files_bytes are.files) begun)
    ∙ append_assoc (head_bytes packed_kind) (files_bytes are.files) (file_bytes last.file)
    ∙ ap (λ (l : List ℕ). head_bytes packed_kind ++ (files_bytes are.files ++ l)) (sym (one-file last.file))
    ∙ ap (λ (l : List ℕ). head_bytes packed_kind ++ l) (sym (flat_map-append file_bytes are.files (last.file ∷ [])))

fit-so : (known : List ℕ) (i : Index) (kept : List KeptSegment) (ss : List Segment) (head mid bytes : List ℕ)
    (are : ArePacked known kept ss head mid) (last : IsManifestAdded i kept mid bytes) → All IsFile (are.files ++ last.file ∷ [])
fit-so known i kept ss head mid bytes are last = All-append IsFile are.files (last.file ∷ []) are.fit (All-cons IsFile last.file [] last.fit (All-nil IsFile))

-- those of known numbers are left out
pub index-left-out : (known : List ℕ) (i : Index) (kept : List KeptSegment) (ss : List Segment) (head mid bytes : List ℕ) → head ≡ head_bytes packed_kind →
    ArePacked known kept ss head mid → IsManifestAdded i kept mid bytes → IsNonDecreasing known → AreLeftOut known bytes
index-left-out known i kept ss head mid bytes begun are last rising = record {
  files = are.files ++ last.file ∷ [];
  spelled = spelled-so known i kept ss head mid bytes begun are last;
  fit = fit-so known i kept ss head mid bytes are last;
  each = All-append (IsUnlessKnown known) are.files (last.file ∷ []) (are.unless_known rising)
      (All-cons (IsUnlessKnown known) last.file [] (inr last.named) (All-nil (IsUnlessKnown known)));
}

pub index-packed : (known : List ℕ) (i : Index) (kept : List KeptSegment) (ss : List Segment) (head mid bytes : List ℕ) → head ≡ head_bytes packed_kind →
    ArePacked known kept ss head mid → ss ≡ (indexed i).ended → IsManifestAdded i kept mid bytes → IsIndexPacked known i bytes
index-packed known i kept ss head mid bytes begun are ended last = record {
  files = are.files ++ last.file ∷ [];
  spelled = spelled-so known i kept ss head mid bytes begun are last;
  fit = fit-so known i kept ss head mid bytes are last;
  kept = kept;
  manifest = λ c there. last.there c (stands c there);
  fits = last.fits;
  holds = λ c there held. record {
    kept = kept;
    fits = last.fits;
    manifest = last.there c (stands c there);
    segments = subst (AreHeld c kept) ended (are.holds c (All-left (IsThere c) are.files (last.file ∷ []) there) (subst (AreKnownHeld known c kept) (sym ended) held));
    numbered = are.numbered;
  };
}
  where
    stands : (c : Contents) → AreThere c (are.files ++ last.file ∷ []) → IsThere c last.file
    stands c there = All-head (IsThere c) last.file [] (All-right (IsThere c) are.files (last.file ∷ []) there)
