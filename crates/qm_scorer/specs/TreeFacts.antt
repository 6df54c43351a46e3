-- What a tree lists are a cursor's entries, within its bound.
use Rattle.std.proofs.Common.{arith, subst, sym}
use Rattle.qm_docset.specs.BitSetDocSetFacts.{AreEntries-remaining}
use Rattle.qm_docset.specs.Entry.{AreEntries}
use Rattle.qm_docset.specs.declared.docset.DocSet.{Ghosts}
use Rattle.qm_combine.specs.AllDocumentsFacts.{AreEntries-all_from}
use Rattle.qm_combine.specs.RescoredFacts.{AreEntries-rescored}
use Rattle.qm_term.specs.TermScorerFacts.{AreEntries-scored}
use Rattle.qm_postings.specs.FieldNorms.{norm_ids}
use Rattle.qm_phrase.specs.PhraseFacts.{AreEntries-phrase}
use Rattle.qm_phrase.specs.PhrasePrefixFacts.{AreEntries-prefix}
use Rattle.qm_phrase.specs.PhrasePrefixScorer.{prefix_lists}
use Rattle.qm_scorer.specs.Bare.{scores_to}
use Rattle.qm_scorer.specs.BareFacts.{AreEntries-bare}
use Rattle.qm_scorer.specs.Tree.{IsTree, postings_cursors, tree_entries, tree_limits}
use Rattle.qm_scorer.specs.declared.any_scorer.AnyScorer.{AnyScorer, All, BitSet, Boost', Const', Disjunction', Empty, Exclude', Intersection', Own, Phrase}
use Rattle.qm_scorer.specs.declared.any_scorer.AnyScorer.{PhrasePrefix, RequiredOptional', Term, Union'}

module _ {S : Type 0} (D : Ghosts S) where
  -- the law of cursors, by that of the caller's own
  pub tree-ascends : ((s : S) → D.valid s → AreEntries 0 (D.limits s) (D.entries s)) →
      (x : AnyScorer S) → IsTree D x → AreEntries 0 (tree_limits D x) (tree_entries D x)
  tree-ascends own (Empty s) h = tt
  tree-ascends own (All s) h = AreEntries-bare 0 _ _ (AreEntries-all_from s.doc s.max_doc h.0)
  tree-ascends own (Own s) h = AreEntries-bare 0 _ _ (own s h)
  tree-ascends own (Term s) h = AreEntries-bare 0 _ _ (AreEntries-scored s.value h)
  tree-ascends own (BitSet s) h = AreEntries-bare 0 _ _ (AreEntries-rescored _ _ 0 _ _ (λ _ _. omega arith) (AreEntries-remaining _ h.0))
  tree-ascends own (Phrase s) h = AreEntries-bare 0 _ _ (AreEntries-phrase _ _ _ _ _)
  tree-ascends own (PhrasePrefix s) h =
      AreEntries-bare 0 _ _ (AreEntries-prefix s.value.similarity_weight (norm_ids s.value.fieldnorm_reader) (prefix_lists postings_cursors s.value))
  tree-ascends own (Boost' p inner boost top) h = h.1.entries
  tree-ascends own (Const' p inner score) h = h.1.entries
  tree-ascends own (RequiredOptional' p required optional top) h = h.3.entries
  tree-ascends own (Exclude' p inner out top) h = h.2.entries
  tree-ascends own (Union' p room row window ahead doc span top) h =
      subst (λ t. AreEntries 0 (scores_to t) (tree_entries D (Union' p room row window ahead doc span top))) (sym h.2.parts.bound) h.2.standing.ascending
  tree-ascends own (Disjunction' p room row heads shape current) h = h.2.bounded.entries
  tree-ascends own (Intersection' p leader room row num_docs top) h = h.2.entries
