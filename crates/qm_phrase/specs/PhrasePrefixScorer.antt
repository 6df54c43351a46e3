-- What the scorer of a phrase prefix shows, over the ghost members of its postings.
use Rattle.std.specs.Prelude.{◌≡◌, ℕ, ◌<◌, List, length}
use Rattle.qm_docset.specs.Entry.{Entry, Limits, head_document}
use Rattle.qm_docset.specs.declared.docset.DocSet.{Ghosts}
use Rattle.qm_docset.specs.declared.numbers.TheConstants.{TERMINATED}
use Rattle.qm_postings.specs.FieldNorms.{norm_ids}
use Rattle.qm_phrase.specs.PhrasePrefix.{PrefixLists, full_count, has_several, held_count, prefix_count, prefix_entries, prefix_limits}
use Rattle.qm_phrase.specs.PrefixTerms.{ArePrefixTerms, lists_of}
use Rattle.qm_phrase.specs.declared.phrase_prefix_scorer.PhrasePrefixScorer.{PhrasePrefixScorer}

module _ {P : Type 0} (D : Ghosts P) where
  -- what its terms hold
  abbrev pub prefix_lists : PhrasePrefixScorer P → PrefixLists
  prefix_lists s = lists_of D s.terms

  -- the documents that remain, with their scores
  abbrev pub phrase_prefix_left : PhrasePrefixScorer P → List Entry
  phrase_prefix_left s = prefix_entries s.similarity_weight (norm_ids s.fieldnorm_reader) (prefix_lists s)

  abbrev pub phrase_prefix_scorer_limits : PhrasePrefixScorer P → Limits
  phrase_prefix_scorer_limits s = prefix_limits s.similarity_weight (has_several (prefix_lists s))

  -- how often a full phrase stands in a document together with a term that begins with the prefix
  abbrev pub phrase_prefix_count : PhrasePrefixScorer P → ℕ → ℕ
  phrase_prefix_count s d = prefix_count (prefix_lists s) d

  -- it counts in each document that it has left what such lists have there
  abbrev pub CountsAs : PrefixLists → PhrasePrefixScorer P → Type 0
  CountsAs t s = (d : ℕ) → 0 < phrase_prefix_count s d → phrase_prefix_count s d ≡ prefix_count t d

  -- that the second counts what the first does, in each document that it has left
  pub record PrefixAlike (s t : PhrasePrefixScorer P) : Type 0 where
    pub counts : CountsAs (prefix_lists s) t

  -- its terms, and that each document with a count has a length id
  pub record IsPhrasePrefix (s : PhrasePrefixScorer P) : Type 0 where
    pub terms : ArePrefixTerms D s.terms
    pub covered : (d : ℕ) → 0 < phrase_prefix_count s d → d < length (norm_ids s.fieldnorm_reader)

  -- it stands on the first of its documents, whose counts it has
  pub record IsOnPhrasePrefix (s : PhrasePrefixScorer P) : Type 0 where
    pub document : s.doc ≡ head_document (phrase_prefix_left s)
    pub prefix : s.doc < TERMINATED → s.counts.prefix ≡ held_count (phrase_prefix_count s s.doc)
    pub full : s.doc < TERMINATED → s.counts.full ≡ held_count (full_count (prefix_lists s) s.doc)
