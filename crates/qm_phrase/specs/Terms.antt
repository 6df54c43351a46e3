-- What the terms of a phrase show, as a cursor moves them.
use Rattle.std.specs.Prelude.{◌≡◌, ℕ, ◌<◌, ◌≤◌, List, [], ◌∷◌, All, Result, Ok, Err, length, map, min, vec_capacity}
use Rattle.qm_docset.specs.Entry.{Entry, Limits, from, head_document, head_positions}
use Rattle.qm_docset.specs.Lists.{lists, bounds}
use Rattle.qm_docset.specs.declared.docset.DocSet.{Ghosts}
use Rattle.qm_docset.specs.declared.numbers.TheConstants.{TERMINATED}
use Rattle.qm_phrase.specs.Phrase.{shifted_each, starts_at}
use Rattle.qm_phrase.specs.TermRows.{AreInside, AreUsed, each_of, terms_of}
use Rattle.qm_phrase.specs.declared.term_row.TermRow.{TermRow}
use Rattle.qm_phrase.specs.declared.terms.TermPlaces.{TermPlaces}

-- each list of positions has room in the buffer beside it
abbrev pub AreRoomy : List Limits → List ℕ → Type 0
AreRoomy [] [] = Unit {0}
AreRoomy [] (room ∷ rooms) = ⊥
AreRoomy (limits ∷ bounds) [] = ⊥
AreRoomy (limits ∷ bounds) (room ∷ rooms) = (limits.room ≤ room) × AreRoomy bounds rooms

-- a term that no place of which was passed
abbrev pub unpassed : TermRow → TermRow
unpassed term = record { member = term.member; row = record { shift = term.row.shift; passed = 0 } }

module _ {P : Type 0} where
  -- how far each term is shifted, and the number of its member
  abbrev pub terms_in : TermPlaces P → List (ℕ × ℕ)
  terms_in t = terms_of t.rows.items

  abbrev pub shifts_in : TermPlaces P → List ℕ
  shifts_in t = map (λ u. u.0) (terms_in t)

module _ {P : Type 0} (D : Ghosts P) where
  -- the list of each term
  abbrev pub term_lists : TermPlaces P → List (List Entry)
  term_lists t = each_of (lists D t.members.items) (terms_in t)

  -- the number of starts in a document
  abbrev pub term_starts : ℕ → TermPlaces P → ℕ → ℕ
  term_starts slop t d = starts_at slop (shifts_in t) (term_lists t) d

  -- the places of each term in the document that its member stands on
  abbrev pub sets_here : TermPlaces P → List (List ℕ)
  sets_here t = shifted_each (shifts_in t) (each_of (map head_positions (lists D t.members.items)) (terms_in t))

  -- each member stands on a document
  abbrev pub AreHere : TermPlaces P → Type 0
  AreHere t = All (λ m. D.placed m × (head_document (D.entries m) < TERMINATED)) t.members.items

  -- at least one term, each with a member, which is a cursor with room for its positions
  pub record AreTerms (t : TermPlaces P) : Type 0 where
    pub valid : All D.valid t.members.items
    pub some : 0 < length t.rows.items
    pub roomy : AreRoomy (bounds D t.members.items) (map vec_capacity t.positions.items)
    pub inside : AreInside (length t.members.items) (terms_in t)
    pub used : AreUsed (length t.members.items) (terms_in t)
    pub shifts : All (λ shift. shift ≤ 4294967295) (shifts_in t)

  -- the same terms, where they were
  pub record AreKept (old new : TermPlaces P) : Type 0 where
    pub valid : AreTerms new
    pub terms : terms_in new ≡ terms_in old
    pub lists : lists D new.members.items ≡ lists D old.members.items
    pub limits : bounds D new.members.items ≡ bounds D old.members.items

  -- The same terms, which have gone on to a target: from there on they count as before, and below it
  -- they count nothing.
  pub record AreMovedTo (slop target : ℕ) (old new : TermPlaces P) : Type 0 where
    pub valid : AreTerms new
    pub terms : terms_in new ≡ terms_in old
    pub lists : map (from target) (lists D new.members.items) ≡ map (from target) (lists D old.members.items)
    pub behind : (d : ℕ) → d < target → term_starts slop new d ≡ 0

  -- no document from one number to below another has a start
  abbrev pub IsBareFrom : ℕ → TermPlaces P → ℕ → ℕ → Type 0
  IsBareFrom slop t low high = (d : ℕ) → low ≤ d → d < high → term_starts slop t d ≡ 0

  -- an answer for one document: how many starts it has, at least one and at most so many; or that it
  -- has none, and no document before a bound has
  abbrev pub IsLook : ℕ → ℕ → ℕ → TermPlaces P → Result ℕ ℕ → Type 0
  IsLook slop most d t (Ok count) = (0 < count) × (count ≡ min most (term_starts slop t d))
  IsLook slop most d t (Err bound) = (d < bound) × (bound ≤ TERMINATED) × IsBareFrom slop t d bound

  -- an answer to a search: the first document from a target on that has a start, with how many; or the
  -- end
  pub record IsFirstStart (slop most target : ℕ) (t : TermPlaces P) (found : ℕ × ℕ) : Type 0 where
    pub bare : IsBareFrom slop t target found.0
    pub within : (target ≤ found.0) × (found.0 ≤ TERMINATED)
    pub here : found.0 < TERMINATED → (0 < found.1) × (found.1 ≡ min most (term_starts slop t found.0))
