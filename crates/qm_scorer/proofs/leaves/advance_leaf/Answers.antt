-- A leaf goes to its next document as its cursor does.
use Rattle.std.proofs.Common.{rules, [], ap, refl, sym}
use Rattle.qm_docset.specs.Entry.{Limits}
use Rattle.qm_combine.specs.AllDocuments.{all_left}
use Rattle.qm_combine.specs.Constant.{constant_left}
use Rattle.qm_phrase.specs.PhrasePrefixScorer.{phrase_prefix_left}
use Rattle.qm_phrase.specs.PhraseScorer.{phrase_left}
use Rattle.qm_term.specs.TermScorer.{scored_left}
use Rattle.qm_scorer.specs.BareFacts.{bare-nil}
use Rattle.qm_scorer.specs.Tree.{postings_cursors, set_cursors}
use Rattle.qm_scorer.specs.declared.any_scorer.AnyScorer.TheVariants.{All, BitSet, Empty, Own, Phrase, PhrasePrefix, Term}
use Rattle.qm_scorer.proofs.LeafArms.{boxed, no-other}
use Rattle.qm_scorer.proofs.StepArms.{stepped-leaf}
use Rattle.qm_scorer.proofs.leaves.advance_leaf.Goals as goal

pub returns-in-Empty : goal.returns-in-Empty
returns-in-Empty g c =
    let leaf = c.in-Empty.leaf in
    let stepped = c.advance in
    stepped-leaf g.S.DocSet Empty (λ _. [])
    (λ _. sym bare-nil) leaf stepped.new.self c.in-Empty.leaf-is c.in-Empty.is stepped.ensures.head refl refl tt tt (search rules)

pub returns-in-All : goal.returns-in-All
returns-in-All g c =
    let leaf = c.in-All.leaf in
    let stepped = c.advance-in-All in
    stepped-leaf g.S.DocSet All all_left (λ _. refl) leaf stepped.new.self c.in-All.leaf-is c.in-All.is
    stepped.ensures.head stepped.ensures.entries refl stepped.ensures.valid stepped.ensures.placed (search rules)

pub returns-in-Own : goal.returns-in-Own
returns-in-Own g c =
    let leaf = c.in-Own.leaf in
    let stepped = c.advance-in-Own in
    stepped-leaf g.S.DocSet Own g.S.DocSet.entries (λ _. refl) leaf stepped.new.self c.in-Own.leaf-is c.in-Own.is stepped.ensures.head stepped.ensures.entries
    (ap (λ (l : Limits). l.top) stepped.ensures.limits) stepped.ensures.valid stepped.ensures.placed (search rules)

pub returns-in-Term : goal.returns-in-Term
returns-in-Term g c =
    let leaf = c.in-Term.leaf in
    let stepped = c.advance-in-Term in
    stepped-leaf g.S.DocSet Term (λ s. scored_left s.value) (λ _. refl) leaf (record leaf { value = stepped.new.self }) (boxed leaf c.deref_mut.ensures.value c.in-Term.leaf-is) c.in-Term.is stepped.ensures.head
    stepped.ensures.entries (ap (λ (l : Limits). l.top) stepped.ensures.limits) stepped.ensures.valid tt (search rules)

pub returns-in-BitSet : goal.returns-in-BitSet
returns-in-BitSet g c =
    let leaf = c.in-BitSet.leaf in
    let stepped = c.advance-in-BitSet in
    stepped-leaf g.S.DocSet BitSet (λ s. constant_left set_cursors s.value)
    (λ _. refl) leaf (record leaf { value = stepped.new.self }) (boxed leaf c.deref_mut-in-BitSet.ensures.value c.in-BitSet.leaf-is) c.in-BitSet.is stepped.ensures.head stepped.ensures.entries
    (ap (λ (l : Limits). l.top) stepped.ensures.limits) stepped.ensures.valid stepped.ensures.placed (search rules)

pub returns-in-Phrase : goal.returns-in-Phrase
returns-in-Phrase g c =
    let leaf = c.in-Phrase.leaf in
    let stepped = c.advance-in-Phrase in
    stepped-leaf g.S.DocSet Phrase (λ s. phrase_left postings_cursors s.value)
    (λ _. refl) leaf (record leaf { value = stepped.new.self }) (boxed leaf c.deref_mut-in-Phrase.ensures.value c.in-Phrase.leaf-is) c.in-Phrase.is stepped.ensures.head stepped.ensures.entries
    (ap (λ (l : Limits). l.top) stepped.ensures.limits) stepped.ensures.valid stepped.ensures.placed (search rules)

pub returns-in-PhrasePrefix : goal.returns-in-PhrasePrefix
returns-in-PhrasePrefix g c =
    let leaf = c.in-PhrasePrefix.leaf in
    let stepped = c.advance-in-PhrasePrefix in
    stepped-leaf g.S.DocSet PhrasePrefix (λ s. phrase_prefix_left postings_cursors s.value)
    (λ _. refl) leaf (record leaf { value = stepped.new.self }) (boxed leaf c.deref_mut-in-PhrasePrefix.ensures.value c.in-PhrasePrefix.leaf-is) c.in-PhrasePrefix.is stepped.ensures.head stepped.ensures.entries
    (ap (λ (l : Limits). l.top) stepped.ensures.limits) stepped.ensures.valid stepped.ensures.placed (search rules)

pub unreachable-requires : goal.unreachable-requires
unreachable-requires g c =
    let left = c.in_default in
    no-other _ c.requires.leaf left.not-Empty left.not-All left.not-Own left.not-Term left.not-BitSet left.not-Phrase left.not-PhrasePrefix
