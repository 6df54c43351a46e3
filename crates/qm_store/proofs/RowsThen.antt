-- What a reading of the rows of several terms is in the midst of.
use Rattle.std.proofs.Common.{◌≡◌, ℕ, zero, suc, ◌-◌, ◌<◌, List, [], ◌∷◌, ◌++◌, Option, None, Some, option_map, refl, ap, sym, ◌∙◌, append_assoc, arith, is_some}
use Rattle.std.specs.Prelude.{option_and_then}
use Rattle.std.proofs.lemmas.Bool.{false≢true}
use Rattle.std.proofs.lemmas.Option.{same_Some}
use Rattle.qm_postings.specs.Rows.{Row}
use Rattle.qm_schema.specs.Schema.{FieldFacts}
use Rattle.qm_store.specs.Dictionary.{entries_at}
use Rattle.qm_store.specs.Entries.{Entry, entry_at}
use Rattle.qm_store.specs.Numbers.{number_at}
use Rattle.qm_store.specs.Pieces.{TellsOf}
use Rattle.qm_store.specs.RowBytes.{followed_by}
use Rattle.qm_store.specs.RowsPushed.{with_found}
use Rattle.qm_store.specs.StoredSegment.{rows_by, rows_of_entries, rows_of_entry, rows_then}
use Rattle.qm_store.specs.declared.store_error.StoreError.{StoreError}
use Rattle.qm_store.specs.declared.store_error.StoreError.TheVariants.{Damaged, Failed, Memory, OtherFile, OtherVersion}
use Rattle.qm_store.specs.declared.wanted.Wanted.{Wanted}

-- ---- rows in front of others

module _ (old : List Row) (own rest all : Option (List Row)) (told : option_map (λ back. old ++ back) (rows_then own rest) ≡ all) where
  abbrev pub before : Option (List Row) → Option (List Row)
  before more = option_map (λ back. old ++ back) more

  -- some were read, and are in front of those to come
  pub goes-on : (new : List Row) → before own ≡ Some new → option_map (λ back. new ++ back) rest ≡ all
  goes-on new is = by_own own rest is told
    where
      by_own : (x y : Option (List Row)) → before x ≡ Some new → before (rows_then x y) ≡ all → option_map (λ back. new ++ back) y ≡ all
      by_own None y is told = absurd (false≢true (ap is_some is))
      by_own (Some xs) None is told = told
      by_own (Some xs) (Some ys) is told = ap (λ l. Some (l ++ ys)) (sym (same_Some (old ++ xs) new is)) ∙ ap Some (append_assoc old xs ys) ∙ told

  -- they can't be read
  pub stops : before own ≡ None → all ≡ None
  stops is = sym (by_own own is told)
    where
      by_own : (x : Option (List Row)) → before x ≡ None → before (rows_then x rest) ≡ all → None ≡ all
      by_own None is told = told
      by_own (Some xs) is told = absurd (false≢true (sym (ap is_some is)))

-- one row behind others
pub one_found : (rows : List Row) (x : Option Row) → option_map (λ more. rows ++ more) (option_map (λ row. row ∷ []) x) ≡ with_found rows x
one_found rows None = refl
one_found rows (Some row) = refl

-- where no rows are in front, only those to come are there
pub plain : {X : Type 0} (x : Option (List X)) → option_map (λ more. [] ++ more) x ≡ x
plain None = refl
plain (Some xs) = refl

-- what can't be read gives no rows
pub unread : {X Y : Type 0} (x : Option X) (f : X → Y) (g : X → Option (List Row)) (old : List Row) → option_map f x ≡ None →
    option_map (λ back. old ++ back) (option_and_then g x) ≡ None
unread None f g old is = refl
unread (Some x) f g old is = absurd (false≢true (sym (ap is_some is)))

-- what was told of a part is told of the whole
pub tells : {Y Z : Type 0} (e : StoreError) (own : Option Y) (all : Option Z) → TellsOf e own → (own ≡ None → all ≡ None) → TellsOf e all
tells Memory own all told on = tt
tells Failed own all told on = told
tells OtherFile own all told on = told
tells OtherVersion own all told on = told
tells Damaged own all told on = on told

-- ---- entries

module _ (key : ℕ) (file : List ℕ) (schema : List FieldFacts) (chosen : Option Wanted) where
  abbrev pub rows_among : ℕ → List ℕ → Option (List Row)
  rows_among n bs = option_and_then (rows_of_entries key file schema chosen) (entries_at n bs)

  abbrev then_entries : ℕ → Entry → List ℕ → Option (List Entry)
  then_entries n e rest = option_map (λ es. e ∷ es) (entries_at n rest)

  first : (e : Entry) (r : Option (List Entry)) →
      option_and_then (rows_of_entries key file schema chosen) (option_map (λ es. e ∷ es) r)
      ≡ rows_then (rows_of_entry key file schema chosen e) (option_and_then (rows_of_entries key file schema chosen) r)
  first e (Some es) = refl
  first e None = none (rows_of_entry key file schema chosen e)
    where
      none : (x : Option (List Row)) → None ≡ rows_then x None
      none None = refl
      none (Some rows) = refl

  -- an entry is read
  pub entry-next : (n : ℕ) (bs rest : List ℕ) (e : Entry) → 0 < n → entry_at bs ≡ Some (e, rest) →
      rows_among n bs ≡ rows_then (rows_of_entry key file schema chosen e) (rows_among (n - 1) rest)
  entry-next zero bs rest e some is = absurd (omega (arith, some))
  entry-next (suc n) bs rest e some is =
      let less : suc n - 1 ≡ n = omega arith in
      ap (λ (x : Option (Entry × List ℕ)). option_and_then (rows_of_entries key file schema chosen) (followed_by x (then_entries n))) is
      ∙ first e (entries_at n rest)
      ∙ ap (λ k. rows_then (rows_of_entry key file schema chosen e) (rows_among k rest)) (sym less)

  -- none is there
  pub entry-lacks : (n : ℕ) (bs : List ℕ) → 0 < n → entry_at bs ≡ None → rows_among n bs ≡ None
  entry-lacks zero bs some is = absurd (omega (arith, some))
  entry-lacks (suc n) bs some is =
      ap (λ (x : Option (Entry × List ℕ)). option_and_then (rows_of_entries key file schema chosen) (followed_by x (then_entries n))) is

  -- how many there are is read first
  pub block-begun : (front : List Row) (bs rest : List ℕ) (count : ℕ) → Some (count, rest) ≡ number_at 8 bs →
      option_map (λ more. front ++ more) (rows_among count rest) ≡ option_map (λ more. front ++ more) (rows_by key file schema chosen bs)
  block-begun front bs rest count is =
      ap (λ (r : Option (ℕ × List ℕ)). option_map (λ more. front ++ more) (option_and_then (rows_of_entries key file schema chosen) (followed_by r entries_at))) is
