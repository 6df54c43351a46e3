-- What the scorer of a phrase shows, over the ghost members of its postings.
use Rattle.std.specs.Prelude.{◌≡◌, ℕ, ◌<◌, Bool, true, false, List, length, map, min}
use Rattle.std.specs.declared.option.Option.{Option}
use Rattle.std.specs.declared.option.Option.TheVariants.{None, Some}
use Rattle.qm_docset.specs.Entry.{Entry, Limits, head_document}
use Rattle.qm_docset.specs.declared.docset.DocSet.{Ghosts}
use Rattle.qm_docset.specs.declared.numbers.TheConstants.{TERMINATED}
use Rattle.qm_postings.specs.FieldNorms.{norm_ids}
use Rattle.qm_term.specs.OwnNorms.{OwnWeight}
use Rattle.qm_phrase.specs.Phrase.{phrase_entries, phrase_limits, phrase_points, shifts_of, starts_at}
use Rattle.qm_phrase.specs.Terms.{AreTerms, shifts_in, term_lists, term_starts}
use Rattle.qm_phrase.specs.declared.phrase_scorer.PhraseScorer.{PhraseScorer}

-- how many starts are counted: all where a weight scores them, and else the first
abbrev pub most_starts : Option OwnWeight → ℕ
most_starts None = 1
most_starts (Some weight) = 4294967295

-- whether a weight scores the phrase
abbrev pub has_weight : Option OwnWeight → Bool
has_weight None = false
has_weight (Some weight) = true

module _ {P : Type 0} (D : Ghosts P) where
  -- the number of starts in a document
  abbrev pub phrase_starts : PhraseScorer P → ℕ → ℕ
  phrase_starts s d = term_starts D s.slop s.terms d

  -- the documents that remain, with their scores
  abbrev pub phrase_left : PhraseScorer P → List Entry
  phrase_left s =
      phrase_entries (phrase_points s.similarity_weight (norm_ids s.fieldnorm_reader)) s.slop (shifts_in s.terms) (term_lists D s.terms)

  abbrev pub phrase_scorer_limits : PhraseScorer P → Limits
  phrase_scorer_limits s = phrase_limits s.similarity_weight

  -- whether a weight scores it
  abbrev pub is_weighted : PhraseScorer P → Bool
  is_weighted s = has_weight s.similarity_weight

  -- scored by a weight as another is, it counts in each document that it has left what the other does
  pub record CountsAlike (s t : PhraseScorer P) : Type 0 where
    pub weighted : is_weighted t ≡ is_weighted s
    pub counts : (d : ℕ) → 0 < phrase_starts t d → phrase_starts t d ≡ phrase_starts s d

  -- scored by such a weight, it counts in each document that it has left the starts of terms at such
  -- offsets with such lists
  pub record CountsPhraseOver (weight : Option OwnWeight) (slop : ℕ) (offsets : List ℕ) (ess : List (List Entry)) (s : PhraseScorer P) : Type 0 where
    pub weighted : is_weighted s ≡ has_weight weight
    pub counts : (d : ℕ) → 0 < phrase_starts s d → phrase_starts s d ≡ starts_at slop (shifts_of offsets) ess d

  -- the same of terms with their offsets
  abbrev pub CountsPhrase : Option OwnWeight → ℕ → List (ℕ × P) → PhraseScorer P → Type 0
  CountsPhrase weight slop terms s = CountsPhraseOver weight slop (map (λ pair. pair.0) terms) (map (λ pair. D.entries pair.1) terms) s

  -- its terms, and that each document with a start has a length id
  pub record IsPhrase (s : PhraseScorer P) : Type 0 where
    pub terms : AreTerms D s.terms
    pub covered : (d : ℕ) → 0 < phrase_starts s d → d < length (norm_ids s.fieldnorm_reader)

  -- it stands on the first of its documents, whose starts it has counted
  pub record IsOnPhrase (s : PhraseScorer P) : Type 0 where
    pub document : s.doc ≡ head_document (phrase_left s)
    pub counted : s.doc < TERMINATED → s.phrase_count ≡ min (most_starts s.similarity_weight) (phrase_starts s s.doc)
