-- What a writer of documents has written.
use Rattle.std.specs.Prelude.{◌≡◌, ◌≤◌, ◌++◌, ℕ, ℤ, List, Option, OnOk, Result, length, false, true}
use Rattle.qm_script.specs.Pruned.{rising, threshold_after}
use Rattle.qm_script.specs.Text.{IsListing}
use Rattle.qm_script.specs.declared.item_writer.ItemWriter.{ItemWriter}
use Rattle.qm_script.specs.declared.listing.Listing.{Listing}

-- it has written these, and knows whether that is nothing
pub record HasListed (items : List (ℕ × Option ℤ)) (w : ItemWriter) : Type 0 where
  pub listed : IsListing items w.bytes.items
  pub begun : w.is_begun ≡ false → length w.bytes.items ≡ 0
  pub some : w.is_begun ≡ true → 1 ≤ length w.bytes.items

-- where the call succeeds, what it had written before has these behind it
abbrev pub AddsToListing : {T E : Type 0} → Result T E → List (ℕ × Option ℤ) → ItemWriter → ItemWriter → Type 0
AddsToListing result more before after = (items : List (ℕ × Option ℤ)) → HasListed items before → OnOk result (HasListed (items ++ more) after)

-- what a listing has written, unless memory was refused
abbrev pub ListsSoFar : List (ℕ × Option ℤ) → Listing → Type 0
ListsSoFar items l = l.is_refused ≡ false → HasListed items l.writer

-- what it had written before has these behind it
abbrev pub ListsMore : List (ℕ × Option ℤ) → Listing → Listing → Type 0
ListsMore more before after = (items : List (ℕ × Option ℤ)) → ListsSoFar items before → ListsSoFar (items ++ more) after

-- what it had written before stands
abbrev pub KeepsListed : Listing → Listing → Type 0
KeepsListed before after = (items : List (ℕ × Option ℤ)) → ListsSoFar items before → ListsSoFar items after

-- what a run calls for of some items from a threshold on has what was listed before in front of it, and this threshold is
-- left behind it
pub record ListsRun (threshold : ℤ) (items : List (ℕ × Option ℤ)) (before after : Listing) (left : ℤ) : Type 0 where
  pub called : ListsMore (rising threshold items) before after
  pub left_is : left ≡ threshold_after threshold (rising threshold items)
