-- The names of an update get in no one's way.
use Rattle.std.specs.Prelude.{◌≡◌, true, false, List}
use Rattle.qm_folder.specs.Names.{Name, AreDistinct, is_among}
use Rattle.qm_folder.specs.declared.updating.TheConstants.{MANIFEST, STAGED}

-- The new names are distinct, and neither they nor those that are gone are the manifest's; no new name is gone.
pub record IsClean (new gone : List Name) : Type 0 where
  pub distinct : AreDistinct new
  pub no_manifest : is_among new MANIFEST.now ≡ false
  pub no_staged : is_among new STAGED.now ≡ false
  pub manifest_stays : is_among gone MANIFEST.now ≡ false
  pub staged_stays : is_among gone STAGED.now ≡ false
  pub new_stay : (n : Name) → is_among new n ≡ true → is_among gone n ≡ false
