-- What a manifest says that was written, and why it is not read again.
use Rattle.std.proofs.Common.{◌≡◌, ℕ, List, Option, Some, ap, refl, sym, ◌∙◌}
use Rattle.std.specs.Prelude.{Result, Ok}
use Rattle.std.proofs.lemmas.Option.{same_Some}
use Rattle.qm_store.proofs.ManifestRead.{manifest-read}
use Rattle.qm_store.proofs.SameOk.{same-ok}
use Rattle.qm_store.specs.Manifest.{IsManifest, ManifestFacts, manifest_read, manifest_spelled}
use Rattle.qm_store.specs.Pieces.{Fails}
use Rattle.qm_store.specs.declared.store_error.StoreError.{StoreError}
use Rattle.qm_store.specs.declared.store_error.StoreError.TheVariants.{Damaged, Failed, Memory as StoreMemory, OtherFile, OtherVersion}
use Rattle.birchagain_bytes.specs.Refusals.{of_reading}
use Rattle.birchagain_bytes.specs.declared.refusal.BytesRefusal.TheVariants.{Memory}

-- an error of what can be read is want of memory
refused-for-memory : {Y : Type 0} (e : StoreError) (y : Y) (read : Result Y StoreError) → read ≡ Ok y → Fails e read → of_reading e ≡ Memory
refused-for-memory StoreMemory y read is why = refl
refused-for-memory Failed y read is why = absurd why
refused-for-memory OtherFile y read is why = absurd (let no = sym is ∙ why in cc)
refused-for-memory OtherVersion y read is why = absurd (let no = sym is ∙ why in cc)
refused-for-memory Damaged y read is why = absurd (let no = sym is ∙ why in cc)

module _ (m : ManifestFacts) (fits : IsManifest m) (bytes : List ℕ) (there : Option (List ℕ)) (found : Some bytes ≡ there) (is : there ≡ Some (manifest_spelled m)) where
  read-again : manifest_read bytes ≡ Ok m
  read-again = ap manifest_read (same_Some bytes (manifest_spelled m) (found ∙ is)) ∙ manifest-read m fits

  -- what is read is what was written
  pub manifest-told : (t : ManifestFacts) → manifest_read bytes ≡ Ok t → t ≡ m
  manifest-told t reads = same-ok t m (sym reads ∙ read-again)

  -- what was written is refused for want of memory alone
  pub manifest-refused : (e : StoreError) → Fails e (manifest_read bytes) → of_reading e ≡ Memory
  manifest-refused e why = refused-for-memory e m (manifest_read bytes) read-again why
