-- One word for a cursor: what it has left, within which limits, and that it stands on its first
-- entry. Each word takes the ghost members of the cursor's type first, `D.DocSet` in a clause over a
-- type parameter `D`, and `⟦<Union as DocSet>⟧` over a type.
use Rattle.std.specs.Prelude.{◌≡◌, List, All, map}
use Rattle.qm_docset.specs.Entry.{Entry, Limits}
use Rattle.qm_docset.specs.declared.docset.DocSet.{Ghosts}

-- ---- one cursor

-- a cursor that stands on its first entry, or at its end
pub record IsPlaced {S : Type 0} (D : Ghosts S) (s : S) : Type 0 where
  pub valid : D.valid s
  pub placed : D.placed s

-- a placed cursor that has these entries left, within these limits
pub record Lists {S : Type 0} (D : Ghosts S) (s : S) (es : List Entry) (limits_of_all : Limits) : Type 0 where
  pub entries : D.entries s ≡ es
  pub limits : D.limits s ≡ limits_of_all
  pub valid : D.valid s
  pub placed : D.placed s

-- the same of a cursor that need not be placed
pub record IsCursorOf {S : Type 0} (D : Ghosts S) (s : S) (es : List Entry) (limits_of_all : Limits) : Type 0 where
  pub entries : D.entries s ≡ es
  pub limits : D.limits s ≡ limits_of_all
  pub valid : D.valid s

-- ---- a row of cursors, as `members.items` or `members.now`

-- what each of them has left
abbrev pub lists : {S : Type 0} → Ghosts S → List S → List (List Entry)
lists D members = map D.entries members

-- the limits of each
abbrev pub bounds : {S : Type 0} → Ghosts S → List S → List Limits
bounds D members = map D.limits members

-- each is a cursor that stands on its first entry, or at its end
pub record ArePlaced {S : Type 0} (D : Ghosts S) (members : List S) : Type 0 where
  pub valid : All D.valid members
  pub placed : All D.placed members

-- placed cursors, each with its list left, within the limits beside it
pub record ListAll {S : Type 0} (D : Ghosts S) (members : List S) (ess : List (List Entry)) (limits_of_each : List Limits) : Type 0 where
  pub entries : lists D members ≡ ess
  pub limits : bounds D members ≡ limits_of_each
  pub valid : All D.valid members
  pub placed : All D.placed members

-- the same of cursors that need not be placed
pub record AreCursorsOf {S : Type 0} (D : Ghosts S) (members : List S) (ess : List (List Entry)) (limits_of_each : List Limits) : Type 0 where
  pub entries : lists D members ≡ ess
  pub limits : bounds D members ≡ limits_of_each
  pub valid : All D.valid members
