-- What a page of documents has taken.
use Rattle.std.specs.Prelude.{◌≡◌, ◌+◌, ◌++◌, ℕ, List, [], filter, map, nat_le, take}
use Rattle.qm_docset.specs.Entry.{Entry, documents}
use Rattle.qm_postings.specs.Segment.{Segment, is_alive}
use Rattle.qm_script.specs.BestListed.{alive_listed}
use Rattle.qm_script.specs.declared.paging.Page.{Page}
use Rattle.qm_weight.specs.Tree.{Tree}

-- a page without documents
pub record IsBegun (number most : ℕ) (page : Page) : Type 0 where
  pub first : page.from ≡ number
  pub limit : page.limit ≡ most
  pub none : page.documents.items ≡ []

-- It has these documents more, as far as there was room.
pub record Appends (more : List ℕ) (before after : Page) : Type 0 where
  pub first : after.from ≡ before.from
  pub limit : after.limit ≡ before.limit
  pub documents : after.documents.items ≡ take before.limit (before.documents.items ++ more)

-- the same of those from the number on that it was begun with
abbrev pub Takes : List ℕ → Page → Page → Type 0
Takes more before after = Appends (filter (nat_le before.from) more) before after

-- the numbers over all segments of what a tree matches in one of them that wasn't deleted
abbrev pub numbers_in : Tree → ℕ → Segment → List ℕ
numbers_in tree first segment = map (λ i. i.0) (alive_listed tree first segment)

-- those of the entries of a cursor over it
abbrev pub alive_numbered : Segment → ℕ → List Entry → List ℕ
alive_numbered segment first entries = map (λ d. first + d) (filter (is_alive segment) (documents entries))
