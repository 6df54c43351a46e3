-- The list of a cursor, document by document: a test says which documents it lists, and a function
-- what it knows of each. Every cursor over several members can be said so.
use Rattle.std.specs.Prelude.{◌≡◌, ℕ, ◌<◌, ◌≤◌, Bool, true, false, List, length, filter, map}
use Rattle.qm_docset.specs.Entry.{Entry, Limits}
use Rattle.qm_docset.specs.Gather.{documents_below}
use Rattle.qm_docset.specs.declared.numbers.TheConstants.{TERMINATED}

-- of all documents that there can be those that are kept, each with what is made of it
unfoldable pub listed : (ℕ → Bool) → (ℕ → Entry) → List Entry
listed kept made = map made (filter kept (documents_below TERMINATED))

-- what is made of a document has its number
abbrev pub IsNamed : (ℕ → Entry) → Type 0
IsNamed made = (d : ℕ) → (made d).document ≡ d

-- no document below `low` is kept
abbrev pub IsNoneBelow : ℕ → (ℕ → Bool) → Type 0
IsNoneBelow low kept = (d : ℕ) → d < low → kept d ≡ false

-- what is made of each document that is kept is within the limits
abbrev pub IsLimited : Limits → (ℕ → Bool) → (ℕ → Entry) → Type 0
IsLimited limits kept made = (d : ℕ) → kept d ≡ true → ((made d).score ≤ limits.top) × (length (made d).positions ≤ limits.room)

-- A pass of a cursor over its members: below the target nothing is kept any more, and from there on
-- the same documents are, each with the same entry.
pub record IsMoved (target : ℕ) (kept : ℕ → Bool) (made : ℕ → Entry) (kept_new : ℕ → Bool) (made_new : ℕ → Entry) : Type 0 where
  pub none_below : IsNoneBelow target kept_new
  pub same_test : (d : ℕ) → target ≤ d → kept_new d ≡ kept d
  pub same_entry : (d : ℕ) → target ≤ d → kept d ≡ true → made_new d ≡ made d
