-- An index that a folder holds is what is opened there.
use Rattle.std.proofs.Common.{◌≡◌, ℕ, List, [], ◌∷◌, All, Ok, Some, take, sym, ap, subst, ◌∙◌}
use Rattle.std.specs.FinMap.{FinMap, entries, from_entries, get-entries, get-from_entries, same_map}
use Rattle.std.proofs.lemmas.List.Elements.{All-map}
use Rattle.std.proofs.lemmas.Option.{same_Some}
use Rattle.qm_folder.specs.Calls.{KeepsBut}
use Rattle.qm_folder.specs.Disk.{Contents, Disk}
use Rattle.qm_folder.specs.declared.updating.TheConstants.{MANIFEST}
use Rattle.qm_postings.specs.Reading.{Reader}
use Rattle.qm_postings.specs.Segment.{Segment, empty_segment}
use Rattle.qm_postings.specs.Statistics.{Searched, searched_of, with_segments}
use Rattle.qm_schema.specs.Schema.{FieldFacts}
use Rattle.qm_schema.specs.Term.{term_cmp, term_cmp_total, term_cmp_antisymmetric}
use Rattle.qm_store.specs.Manifest.{ManifestFacts, manifest_read, manifest_spelled}
use Rattle.qm_store.specs.declared.kept_segment.KeptSegment.{KeptSegment}
use Rattle.qm_store.proofs.ManifestRead.{manifest-read}
use Rattle.qm_store.proofs.SameOk.{same-ok}
use Rattle.qm_index.specs.Indexed.{Indexed, index_of_segments, indexed, statistics}
use Rattle.qm_index.specs.Numbers.{AreOf}
use Rattle.qm_index.specs.Opening.{IsOpened}
use Rattle.qm_index.specs.Parts.{segments_of}
use Rattle.qm_index.specs.SavedIndex.{AreHeld}
use Rattle.qm_index.specs.Saving.{HoldsIndex, manifest_with}
use Rattle.qm_index.specs.declared.index.Index.{Index}
use Rattle.qm_index.proofs.OpenedFiles.{held-seen}

-- the same are held where the same is seen
pub held-all-seen : (ks : List KeptSegment) (ss : List Segment) (old new : Disk) → KeepsBut [] old new → AreHeld old.seen ks ss → AreHeld new.seen ks ss
held-all-seen [] [] old new keeps are = tt
held-all-seen [] (s ∷ ss) old new keeps are = absurd are
held-all-seen (k ∷ ks) [] old new keeps are = absurd are
held-all-seen (k ∷ ks) (s ∷ ss) old new keeps are = (held-seen k s old new keeps are.0, held-all-seen ks ss old new keeps are.1)

-- ---- the manifest

-- the map of a map's entries
from_entries-entries : (m : FinMap term_cmp ℕ) → from_entries (entries m) ≡ m
from_entries-entries m =
    same_map term_cmp_total term_cmp_antisymmetric (from_entries (entries m)) m
    (λ q. get-from_entries term_cmp_total (entries m) q ∙ sym (get-entries m q))

module _ (saved : Index) (c : Contents) (holds : HoldsIndex saved c) where
  abbrev pub facts : ManifestFacts
  facts = manifest_with saved holds.kept

  pub manifest-there : (bytes read : List ℕ) → c MANIFEST.now ≡ Some bytes → read ≡ bytes → manifest_read read ≡ Ok facts
  manifest-there bytes read there reads =
      let same : read ≡ manifest_spelled facts = reads ∙ same_Some bytes (manifest_spelled facts) (sym there ∙ holds.manifest) in
      ap manifest_read same ∙ manifest-read facts holds.fits

  pub manifest-is : (t : ManifestFacts) (bytes read : List ℕ) → c MANIFEST.now ≡ Some bytes → read ≡ bytes → manifest_read read ≡ Ok t → t ≡ facts
  manifest-is t bytes read there reads told = same-ok t facts (sym told ∙ manifest-there bytes read there reads)

  -- the fields of each segment that was ended
  pub fields-are : (schema : List FieldFacts) → schema ≡ saved.searcher.schema → All (λ s. s.schema ≡ schema) (indexed saved).ended
  fields-are schema is =
      All-map (λ (s : Segment). s.schema ≡ schema) (λ (r : Reader). r.segment) (take saved.ended saved.searcher.segments)
      (subst (λ x. AreOf x (take saved.ended saved.searcher.segments)) (sym is) saved.alike)

  -- ---- what is made of it

  module _ (t : ManifestFacts) (same : t ≡ facts) where
    pub searched-is : (readers : List Reader) → searched_of t.schema readers (from_entries t.weights) t.default_weight t.norms ≡ with_segments saved.searcher readers
    searched-is readers =
        (λ i. searched_of (same i).schema readers (from_entries (same i).weights) (same i).default_weight (same i).norms)
        ∙ ap (λ w. searched_of saved.searcher.schema readers w saved.searcher.default_weight saved.searcher.norms) (from_entries-entries saved.searcher.weights)

    pub opened-is : (i : Index) (s : Searched) (readers : List Reader) → s ≡ searched_of t.schema readers (from_entries t.weights) t.default_weight t.norms →
        segments_of readers ≡ (indexed saved).ended → indexed i ≡ index_of_segments s t.block_len → statistics i ≡ with_segments s [] → IsOpened saved i
    opened-is i s readers made own shown says =
        let all = made ∙ searched-is readers in
        record {
          ended = ap (λ (x : Indexed). x.ended) shown ∙ ap (λ (x : Searched). segments_of x.segments) all ∙ own;
          current = ap (λ (x : Indexed). x.current) shown
              ∙ (λ j. empty_segment (ap (λ (x : Searched). x.schema) all j) (ap (λ (x : ManifestFacts). x.block_len) same j));
          statistics = says ∙ ap (λ x. with_segments x []) all;
        }
