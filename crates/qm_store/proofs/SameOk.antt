-- Results that are the same have the same value.
use Rattle.std.proofs.Common.{◌≡◌, Result, Ok, Err, ap}
use Rattle.qm_store.specs.declared.store_error.StoreError.{StoreError}

abbrev shown : {A : Type 0} → A → Result A StoreError → A
shown x (Ok y) = y
shown x (Err e) = x

abbrev ok : {A : Type 0} → A → Result A StoreError
ok x = Ok x

pub same-ok : {A : Type 0} (x y : A) → ok x ≡ ok y → x ≡ y
same-ok x y e = ap (shown x) e
