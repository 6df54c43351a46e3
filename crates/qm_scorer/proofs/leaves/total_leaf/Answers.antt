-- A leaf counts what its cursor counts.
use Rattle.std.proofs.Common.{rules, [], ap, length, refl, sym, ◌∙◌}
use Rattle.qm_docset.specs.Entry.{Limits}
use Rattle.qm_combine.specs.AllDocuments.{all_left}
use Rattle.qm_combine.specs.Constant.{constant_left}
use Rattle.qm_phrase.specs.PhrasePrefixScorer.{phrase_prefix_left}
use Rattle.qm_phrase.specs.PhraseScorer.{phrase_left}
use Rattle.qm_term.specs.TermScorer.{scored_left}
use Rattle.qm_scorer.specs.BareFacts.{bare-nil, length-bare}
use Rattle.qm_scorer.specs.Tree.{postings_cursors, set_cursors}
use Rattle.qm_scorer.specs.declared.any_scorer.AnyScorer.TheVariants.{All, BitSet, Empty, Own, Phrase, PhrasePrefix, Term}
use Rattle.qm_scorer.proofs.HandedOn.{leaf-asked, leaf-ended}
use Rattle.qm_scorer.proofs.LeafArms.{boxed, no-other}
use Rattle.qm_scorer.proofs.leaves.total_leaf.Goals as goal

pub count_including_deleted-requires : goal.count_including_deleted-requires
count_including_deleted-requires g c = leaf-asked g.S.DocSet Empty c.in-Empty.leaf-is c.in-Empty.is c.requires.valid c.requires.placed

pub count_including_deleted-requires-in-All : goal.count_including_deleted-requires-in-All
count_including_deleted-requires-in-All g c = leaf-asked g.S.DocSet All c.in-All.leaf-is c.in-All.is c.requires.valid c.requires.placed

pub count_including_deleted-requires-in-Own : goal.count_including_deleted-requires-in-Own
count_including_deleted-requires-in-Own g c = leaf-asked g.S.DocSet Own c.in-Own.leaf-is c.in-Own.is c.requires.valid c.requires.placed

pub count_including_deleted-requires-in-Term : goal.count_including_deleted-requires-in-Term
count_including_deleted-requires-in-Term g c = leaf-asked g.S.DocSet Term (boxed c.in-Term.leaf c.deref_mut.ensures.value c.in-Term.leaf-is) c.in-Term.is c.requires.valid c.requires.placed

pub count_including_deleted-requires-in-BitSet : goal.count_including_deleted-requires-in-BitSet
count_including_deleted-requires-in-BitSet g c = leaf-asked g.S.DocSet BitSet (boxed c.in-BitSet.leaf c.deref_mut-in-BitSet.ensures.value c.in-BitSet.leaf-is) c.in-BitSet.is c.requires.valid c.requires.placed

pub count_including_deleted-requires-in-Phrase : goal.count_including_deleted-requires-in-Phrase
count_including_deleted-requires-in-Phrase g c = leaf-asked g.S.DocSet Phrase (boxed c.in-Phrase.leaf c.deref_mut-in-Phrase.ensures.value c.in-Phrase.leaf-is) c.in-Phrase.is c.requires.valid c.requires.placed

pub count_including_deleted-requires-in-PhrasePrefix : goal.count_including_deleted-requires-in-PhrasePrefix
count_including_deleted-requires-in-PhrasePrefix g c =
    leaf-asked g.S.DocSet PhrasePrefix (boxed c.in-PhrasePrefix.leaf c.deref_mut-in-PhrasePrefix.ensures.value c.in-PhrasePrefix.leaf-is) c.in-PhrasePrefix.is c.requires.valid c.requires.placed

pub returns-in-Empty : goal.returns-in-Empty
returns-in-Empty g c =
    let D = g.S.DocSet in
    let leaf = c.in-Empty.leaf in
    let counted = c.count_including_deleted in
    leaf-ended D Empty (λ _. []) (λ _. sym bare-nil) length leaf counted.new.self c.in-Empty.leaf-is c.in-Empty.is
    (counted.ensures.count ∙ sym (length-bare _)) refl refl tt tt (search rules)

pub returns-in-All : goal.returns-in-All
returns-in-All g c =
    let D = g.S.DocSet in
    let leaf = c.in-All.leaf in
    let counted = c.count_including_deleted-in-All in
    leaf-ended D All all_left (λ _. refl) length leaf counted.new.self c.in-All.leaf-is c.in-All.is
    (counted.ensures.count ∙ sym (length-bare _)) counted.ensures.entries refl counted.ensures.valid counted.ensures.placed (search rules)

pub returns-in-Own : goal.returns-in-Own
returns-in-Own g c =
    let D = g.S.DocSet in
    let leaf = c.in-Own.leaf in
    let counted = c.count_including_deleted-in-Own in
    leaf-ended D Own D.entries (λ _. refl) length leaf counted.new.self c.in-Own.leaf-is c.in-Own.is (counted.ensures.count ∙ sym (length-bare _))
    counted.ensures.entries (ap (λ (l : Limits). l.top) counted.ensures.limits) counted.ensures.valid counted.ensures.placed (search rules)

pub returns-in-Term : goal.returns-in-Term
returns-in-Term g c =
    let D = g.S.DocSet in
    let leaf = c.in-Term.leaf in
    let counted = c.count_including_deleted-in-Term in
    leaf-ended D Term (λ s. scored_left s.value) (λ _. refl) length leaf (record leaf { value = counted.new.self }) (boxed leaf c.deref_mut.ensures.value c.in-Term.leaf-is) c.in-Term.is (counted.ensures.count ∙ sym
    (length-bare _)) counted.ensures.entries (ap (λ (l : Limits). l.top) counted.ensures.limits) counted.ensures.valid tt (search rules)

pub returns-in-BitSet : goal.returns-in-BitSet
returns-in-BitSet g c =
    let D = g.S.DocSet in
    let leaf = c.in-BitSet.leaf in
    let counted = c.count_including_deleted-in-BitSet in
    leaf-ended D BitSet (λ s. constant_left set_cursors s.value) (λ _. refl) length leaf (record leaf { value = counted.new.self }) (boxed leaf c.deref_mut-in-BitSet.ensures.value c.in-BitSet.leaf-is) c.in-BitSet.is
    (counted.ensures.count ∙ sym (length-bare _)) counted.ensures.entries
    (ap (λ (l : Limits). l.top) counted.ensures.limits) counted.ensures.valid counted.ensures.placed (search rules)

pub returns-in-Phrase : goal.returns-in-Phrase
returns-in-Phrase g c =
    let D = g.S.DocSet in
    let leaf = c.in-Phrase.leaf in
    let counted = c.count_including_deleted-in-Phrase in
    leaf-ended D Phrase (λ s. phrase_left postings_cursors s.value) (λ _. refl) length leaf (record leaf { value = counted.new.self }) (boxed leaf c.deref_mut-in-Phrase.ensures.value c.in-Phrase.leaf-is) c.in-Phrase.is
    (counted.ensures.count ∙ sym (length-bare _)) counted.ensures.entries
    (ap (λ (l : Limits). l.top) counted.ensures.limits) counted.ensures.valid counted.ensures.placed (search rules)

pub returns-in-PhrasePrefix : goal.returns-in-PhrasePrefix
returns-in-PhrasePrefix g c =
    let D = g.S.DocSet in
    let leaf = c.in-PhrasePrefix.leaf in
    let counted = c.count_including_deleted-in-PhrasePrefix in
    leaf-ended D PhrasePrefix (λ s. phrase_prefix_left postings_cursors s.value) (λ _. refl) length leaf (record leaf { value = counted.new.self })
    (boxed leaf c.deref_mut-in-PhrasePrefix.ensures.value c.in-PhrasePrefix.leaf-is) c.in-PhrasePrefix.is (counted.ensures.count ∙ sym (length-bare _)) counted.ensures.entries
    (ap (λ (l : Limits). l.top) counted.ensures.limits) counted.ensures.valid counted.ensures.placed (search rules)

pub unreachable-requires : goal.unreachable-requires
unreachable-requires g c =
    let left = c.in_default in
    no-other _ c.requires.leaf left.not-Empty left.not-All left.not-Own left.not-Term left.not-BitSet left.not-Phrase left.not-PhrasePrefix
