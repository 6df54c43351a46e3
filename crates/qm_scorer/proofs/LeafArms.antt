-- The arm of a leaf's call that no leaf comes to.
use Rattle.std.proofs.Common.{◌≡◌, ap, sym, ◌∙◌}
use Rattle.std.specs.declared.boxed.Box.{Box}
use Rattle.qm_docset.specs.declared.bitset_docset.BitSetDocSet.{BitSetDocSet}
use Rattle.qm_postings.specs.declared.segment_postings.SegmentPostings.{SegmentPostings}
use Rattle.qm_combine.specs.declared.all_scorer.AllScorer.{AllScorer}
use Rattle.qm_combine.specs.declared.const_scorer.ConstScorer.{ConstScorer}
use Rattle.qm_combine.specs.declared.empty_scorer.EmptyScorer.{EmptyScorer}
use Rattle.qm_phrase.specs.declared.phrase_prefix_scorer.PhrasePrefixScorer.{PhrasePrefixScorer}
use Rattle.qm_phrase.specs.declared.phrase_scorer.PhraseScorer.{PhraseScorer}
use Rattle.qm_term.specs.OwnNorms.{OwnScorer}
use Rattle.qm_scorer.specs.Leaf.{IsLeaf}
use Rattle.qm_scorer.specs.declared.any_scorer.AnyScorer.{AnyScorer}
use Rattle.qm_scorer.specs.declared.any_scorer.AnyScorer.TheOpen as layer
use Rattle.qm_scorer.specs.declared.any_scorer.AnyScorer.TheViews as v
use Rattle.qm_scorer.specs.declared.any_scorer.AnyScorer.TheVariants.{All, BitSet, Empty, Own, Phrase, PhrasePrefix, Term}

module _ {S : Type 0} where
  -- a tree is a leaf of one of these seven kinds, or a node
  pub no-other : (tree : AnyScorer S) → IsLeaf tree → ((s : EmptyScorer) → tree ≡ Empty s → ⊥) → ((s : AllScorer) → tree ≡ All s → ⊥) →
      ((s : S) → tree ≡ Own s → ⊥) → ((s : Box OwnScorer _) → tree ≡ Term s → ⊥) → ((s : Box (ConstScorer BitSetDocSet) _) → tree ≡ BitSet s → ⊥) →
      ((s : Box (PhraseScorer SegmentPostings) _) → tree ≡ Phrase s → ⊥) → ((s : Box (PhrasePrefixScorer SegmentPostings) _) → tree ≡ PhrasePrefix s → ⊥) → ⊥
  no-other tree leaf none every own term set phrase prefix = among (v.out-AnyScorer S tree) (sym (v.roll-out-AnyScorer S tree)) where
    among : (l : _) → tree ≡ v.roll-AnyScorer S l → ⊥
    among (layer.Empty s) is = none s (is ∙ v.rolls-Empty s)
    among (layer.All s) is = every s (is ∙ v.rolls-All s)
    among (layer.Own s) is = own s (is ∙ v.rolls-Own s)
    among (layer.Term s) is = term s (is ∙ v.rolls-Term s)
    among (layer.BitSet s) is = set s (is ∙ v.rolls-BitSet s)
    among (layer.Phrase s) is = phrase s (is ∙ v.rolls-Phrase s)
    among (layer.PhrasePrefix s) is = prefix s (is ∙ v.rolls-PhrasePrefix s)
    among (layer.Boost node) is = leaf.boost node (is ∙ v.rolls-Boost node)
    among (layer.Const node) is = leaf.constant node (is ∙ v.rolls-Const node)
    among (layer.RequiredOptional node) is = leaf.optional node (is ∙ v.rolls-RequiredOptional node)
    among (layer.Exclude node) is = leaf.exclude node (is ∙ v.rolls-Exclude node)
    among (layer.Union node) is = leaf.union node (is ∙ v.rolls-Union node)
    among (layer.Disjunction node) is = leaf.disjunction node (is ∙ v.rolls-Disjunction node)
    among (layer.Intersection node) is = leaf.intersection node (is ∙ v.rolls-Intersection node)

-- a box whose scorer was lent out, with that scorer
pub boxed : {L A : Type 0} {lent : Box L A} {scorer : L} (leaf : Box L A) → scorer ≡ lent.value → lent ≡ leaf → record leaf { value = scorer } ≡ leaf
boxed leaf is same = λ i. record leaf { value = (is ∙ ap (λ (b : Box _ _). b.value) same) i }
