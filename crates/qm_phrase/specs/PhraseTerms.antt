-- The terms of a phrase as they are handed in.
use Rattle.std.specs.Prelude.{ℕ, List, map}
use Rattle.qm_docset.specs.Entry.{Entry}
use Rattle.qm_docset.specs.Lists.{lists}
use Rattle.qm_docset.specs.declared.docset.DocSet.{Ghosts}
use Rattle.qm_phrase.specs.TermRows.{each_of}
use Rattle.qm_phrase.specs.declared.phrase_terms.PhraseTerms.{PhraseTerms}

module _ {P : Type 0} where
  -- the postings that terms have, each once
  abbrev pub members_of : PhraseTerms P → List P
  members_of terms = terms.members.items

  -- the offset of each term, and the number of its member
  abbrev pub terms_given : PhraseTerms P → List (ℕ × ℕ)
  terms_given terms = terms.terms.items

  abbrev pub offsets_of : PhraseTerms P → List ℕ
  offsets_of terms = map (λ term. term.0) (terms_given terms)

  -- the list of each term
  abbrev pub lists_given : Ghosts P → PhraseTerms P → List (List Entry)
  lists_given D terms = each_of (lists D (members_of terms)) (terms_given terms)
