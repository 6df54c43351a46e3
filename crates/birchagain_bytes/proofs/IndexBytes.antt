-- An index whose open segment has no document, before and after it was bytes.
use Rattle.std.proofs.Common.{◌≡◌, ◌⊎◌, ℕ, List, [], ◌∷◌, Some, length, map, refl, sym, ap, subst, ◌∙◌, inl, inr, arith}
use Rattle.std.specs.Prelude.{Err, Ok, Result}
use Rattle.qm_docset.specs.Members.{members_between}
use Rattle.qm_folder.specs.Disk.{Contents}
use Rattle.qm_index.specs.Indexed.{Indexed, indexed, statistics}
use Rattle.qm_index.specs.OpenDocuments.{kept_of, segment_of}
use Rattle.qm_index.specs.Opening.{IsFolderRefusal, IsOpened}
use Rattle.qm_index.specs.SavedIndex.{AreHeld}
use Rattle.qm_index.specs.Saving.{HoldsIndex, manifest_with}
use Rattle.qm_index.specs.declared.index.Index.{Index}
use Rattle.qm_index.specs.declared.open_document.OpenDocument.{OpenDocument}
use Rattle.qm_postings.specs.Segment.{Segment, empty_segment}
use Rattle.qm_postings.specs.Statistics.{Searched, with_segments}
use Rattle.qm_schema.specs.Schema.{FieldFacts}
use Rattle.qm_store.specs.Manifest.{IsManifest, ManifestFacts, facts_of, manifest_spelled}
use Rattle.qm_store.specs.declared.kept_segment.KeptSegment.{KeptSegment}
use Rattle.qm_store.specs.declared.store_error.StoreError.{StoreError}
use Rattle.qm_store.specs.declared.store_error.StoreError.TheVariants.{Damaged, Failed, Memory as StoreMemory, OtherFile, OtherVersion}
use Rattle.birchagain_bytes.specs.Bytes.{AreBytesOf, AreKnownHeld, IsIndexPacked, TellsManifest}
use Rattle.birchagain_bytes.specs.Refusals.{IsOfOtherBlocks, of_reading}
use Rattle.birchagain_bytes.specs.declared.refusal.BytesRefusal.{BytesRefusal}
use Rattle.birchagain_bytes.specs.declared.refusal.BytesRefusal.TheVariants.{Memory, OtherBlocks}
use Rattle.birchagain_bytes.specs.Packed.{AreThere}
use Rattle.birchagain_bytes.proofs.Packs.{nothing-known}

segment-of-none : (schema : List FieldFacts) (block_len : ℕ) (documents : List OpenDocument) → length (map (kept_of schema) documents) ≡ 0 → block_len ≡ 128 →
    segment_of schema block_len documents ≡ empty_segment schema 128
unfolding members_between
segment-of-none schema block_len [] none is = ap (empty_segment schema) is
segment-of-none schema block_len (d ∷ ds) none is = absurd (omega (arith, none))

-- the open segment is one without documents
pub none-open : (i : Index) → length (indexed i).current.documents ≡ 0 → (indexed i).current.block_len ≡ 128 →
    (indexed i).current ≡ empty_segment (indexed i).current.schema 128
none-open i none is = segment-of-none i.searcher.schema i.block_len i.documents.items none is

-- an index that was opened is the one that was saved
pub opened-same : (saved opened : Index) → IsOpened saved opened → (indexed saved).current ≡ empty_segment (indexed saved).current.schema 128 →
    indexed opened ≡ indexed saved
opened-same saved opened is none =
    let len : (indexed saved).current.block_len ≡ 128 = ap (λ (s : Segment). s.block_len) none in
    let current = is.current ∙ ap (empty_segment (indexed saved).current.schema) len ∙ sym none in
    λ i. record { ended = is.ended i; current = current i }

-- what is told of words is the same whatever segments there are
pub same-facts : (s t : Searched) (n : ℕ) (kept : List KeptSegment) → with_segments s [] ≡ with_segments t [] → facts_of s n kept [] ≡ facts_of t n kept []
same-facts s t n kept is = ap (λ (u : Searched). facts_of u n kept []) is

-- what an index is told by hangs on what it holds and says alone
manifest-same : (i j : Index) (kept : List KeptSegment) → indexed i ≡ indexed j → statistics i ≡ statistics j → manifest_with i kept ≡ manifest_with j kept
manifest-same i j kept holds says =
    same-facts i.searcher j.searcher i.block_len kept says ∙ ap (λ (x : Indexed). facts_of j.searcher x.current.block_len kept []) holds

-- so bytes of one index are those of another that holds and says the same
pub packed-same : (known : List ℕ) (i j : Index) (bytes : List ℕ) → indexed i ≡ indexed j → statistics i ≡ statistics j → IsIndexPacked known i bytes → IsIndexPacked known j bytes
packed-same known i j bytes holds says is = record {
  files = is.files;
  spelled = is.spelled;
  fit = is.fit;
  kept = is.kept;
  manifest = λ c there. is.manifest c there ∙ ap (λ (m : ManifestFacts). Some (manifest_spelled m)) (manifest-same i j is.kept holds says);
  fits = subst IsManifest (manifest-same i j is.kept holds says) is.fits;
  holds = λ c there held.
      let h = is.holds c there (subst (λ (x : Indexed). AreKnownHeld known c is.kept x.ended) (sym holds) held) in
      record {
        kept = h.kept;
        fits = subst IsManifest (manifest-same i j h.kept holds says) h.fits;
        manifest = h.manifest ∙ ap (λ (m : ManifestFacts). Some (manifest_spelled m)) (manifest-same i j h.kept holds says);
        segments = subst (λ (x : Indexed). AreHeld c h.kept x.ended) holds h.segments;
        numbered = h.numbered;
      };
}

-- a folder of all the files holds the index
pub all-hold : (saved : Index) (bytes : List ℕ) (c : Contents) (are : AreBytesOf [] saved bytes) → AreThere c are.packed.files → HoldsIndex saved c
all-hold saved bytes c are there = are.packed.holds c there (nothing-known c are.packed.kept (indexed saved).ended)

-- it has the manifest
pub manifest-there : (saved : Index) (c : Contents) {bytes : List ℕ} (packed : IsIndexPacked [] saved bytes) → AreThere c packed.files →
    TellsManifest c (manifest_with saved packed.kept)
manifest-there saved c packed there = record { fits = packed.fits; spelled = packed.manifest c there }

-- an error of a folder in memory is want of memory
pub folder-refusal : (e : StoreError) → IsFolderRefusal e → of_reading e ≡ Memory
folder-refusal StoreMemory is = refl
folder-refusal Failed is = refl
folder-refusal OtherFile is = absurd is
folder-refusal OtherVersion is = absurd is
folder-refusal Damaged is = absurd is

-- ---- an index of other blocks

-- what is refused is not done
pub not-done : {X : Type 0} (x : X) → IsOfOtherBlocks (Ok x) → ⊥
not-done x (inl is) = absurd (cc is)
not-done x (inr is) = absurd (cc is)

-- a refusal that is passed on is the same
pub passed-on : {X Y : Type 0} (r : Result Y BytesRefusal) (e : BytesRefusal) → r ≡ Err e → IsOfOtherBlocks {X = X} (Err e) → IsOfOtherBlocks r
passed-on r e is (inl why) = let same : e ≡ OtherBlocks = cc in inl (is ∙ ap Err same)
passed-on r e is (inr why) = let same : e ≡ Memory = cc in inr (is ∙ ap Err same)
