-- A leaf answers for a target as its cursor does.
use Rattle.std.proofs.Common.{rules, [], ap, refl, sym}
use Rattle.qm_docset.specs.Entry.{Limits}
use Rattle.qm_combine.specs.AllDocuments.{all_left}
use Rattle.qm_combine.specs.Constant.{constant_left}
use Rattle.qm_phrase.specs.PhrasePrefixScorer.{phrase_prefix_left}
use Rattle.qm_phrase.specs.PhraseScorer.{phrase_left}
use Rattle.qm_term.specs.TermScorer.{scored_left}
use Rattle.qm_scorer.specs.BareFacts.{bare-nil}
use Rattle.qm_scorer.specs.Tree.{postings_cursors, set_cursors}
use Rattle.qm_scorer.specs.declared.any_scorer.AnyScorer.TheVariants.{All as Every, BitSet, Empty, Own, Phrase, PhrasePrefix, Term}
use Rattle.qm_scorer.proofs.Depth.{same-All, same-BitSet, same-Empty, same-Own, same-Phrase, same-PhrasePrefix, same-Term}
use Rattle.qm_scorer.proofs.HandedOn.{leaf-sent}
use Rattle.qm_scorer.proofs.LeafArms.{boxed, no-other}
use Rattle.qm_scorer.proofs.Moving.{on_found}
use Rattle.qm_scorer.proofs.MoveArms.{answered-leaf}
use Rattle.qm_scorer.proofs.leaves.danger_leaf.Goals as goal

pub returns-in-Empty : goal.returns-in-Empty
returns-in-Empty g c =
    answered-leaf g.S.DocSet Empty (λ _. []) (λ _. sym bare-nil)
    (same-Empty g.row.S.Denot) c.args.target c.seek_danger.result c.in-Empty.leaf c.seek_danger.new.self c.in-Empty.leaf-is
    c.in-Empty.is c.seek_danger.ensures.answer c.seek_danger.ensures.entries refl tt c.seek_danger.ensures.placed (search rules)

pub returns-in-All : goal.returns-in-All
returns-in-All g c =
    answered-leaf g.S.DocSet Every all_left (λ _. refl) (same-All g.row.S.Denot) c.args.target c.seek_danger-in-All.result
    c.in-All.leaf c.seek_danger-in-All.new.self c.in-All.leaf-is c.in-All.is c.seek_danger-in-All.ensures.answer
    c.seek_danger-in-All.ensures.entries refl c.seek_danger-in-All.ensures.valid c.seek_danger-in-All.ensures.placed (search rules)

pub returns-in-Own : goal.returns-in-Own
returns-in-Own g c =
    answered-leaf g.S.DocSet Own g.S.DocSet.entries (λ _. refl) (same-Own g.row.S.Denot) c.args.target c.seek_danger-in-Own.result c.in-Own.leaf
    c.seek_danger-in-Own.new.self c.in-Own.leaf-is c.in-Own.is c.seek_danger-in-Own.ensures.answer c.seek_danger-in-Own.ensures.entries
    (ap (λ (l : Limits). l.top) c.seek_danger-in-Own.ensures.limits) c.seek_danger-in-Own.ensures.valid c.seek_danger-in-Own.ensures.placed (search rules)

pub returns-in-Term : goal.returns-in-Term
returns-in-Term g c =
    answered-leaf g.S.DocSet Term (λ s. scored_left s.value) (λ _. refl) (same-Term g.row.S.Denot) c.args.target c.seek_danger-in-Term.result c.in-Term.leaf
    (record c.in-Term.leaf { value = c.seek_danger-in-Term.new.self }) (boxed c.in-Term.leaf c.deref_mut.ensures.value c.in-Term.leaf-is) c.in-Term.is c.seek_danger-in-Term.ensures.answer c.seek_danger-in-Term.ensures.entries (ap
    (λ (l : Limits). l.top) c.seek_danger-in-Term.ensures.limits) c.seek_danger-in-Term.ensures.valid (on_found c.seek_danger-in-Term.result (λ _. tt)) (search rules)

pub returns-in-BitSet : goal.returns-in-BitSet
returns-in-BitSet g c =
    answered-leaf g.S.DocSet BitSet (λ s. constant_left set_cursors s.value) (λ _. refl) (same-BitSet g.row.S.Denot) c.args.target
    c.seek_danger-in-BitSet.result c.in-BitSet.leaf (record c.in-BitSet.leaf { value = c.seek_danger-in-BitSet.new.self }) (boxed c.in-BitSet.leaf c.deref_mut-in-BitSet.ensures.value c.in-BitSet.leaf-is) c.in-BitSet.is
    c.seek_danger-in-BitSet.ensures.answer c.seek_danger-in-BitSet.ensures.entries (ap (λ (l : Limits). l.top) c.seek_danger-in-BitSet.ensures.limits)
    c.seek_danger-in-BitSet.ensures.valid c.seek_danger-in-BitSet.ensures.placed (search rules)

pub returns-in-Phrase : goal.returns-in-Phrase
returns-in-Phrase g c =
    answered-leaf g.S.DocSet Phrase (λ s. phrase_left postings_cursors s.value) (λ _. refl) (same-Phrase g.row.S.Denot) c.args.target
    c.seek_danger-in-Phrase.result c.in-Phrase.leaf (record c.in-Phrase.leaf { value = c.seek_danger-in-Phrase.new.self }) (boxed c.in-Phrase.leaf c.deref_mut-in-Phrase.ensures.value c.in-Phrase.leaf-is) c.in-Phrase.is
    c.seek_danger-in-Phrase.ensures.answer c.seek_danger-in-Phrase.ensures.entries (ap (λ (l : Limits). l.top) c.seek_danger-in-Phrase.ensures.limits)
    c.seek_danger-in-Phrase.ensures.valid c.seek_danger-in-Phrase.ensures.placed (search rules)

pub returns-in-PhrasePrefix : goal.returns-in-PhrasePrefix
returns-in-PhrasePrefix g c =
    answered-leaf g.S.DocSet PhrasePrefix (λ s. phrase_prefix_left postings_cursors s.value) (λ _. refl) (same-PhrasePrefix g.row.S.Denot)
    c.args.target c.seek_danger-in-PhrasePrefix.result c.in-PhrasePrefix.leaf (record c.in-PhrasePrefix.leaf { value = c.seek_danger-in-PhrasePrefix.new.self }) (boxed c.in-PhrasePrefix.leaf c.deref_mut-in-PhrasePrefix.ensures.value c.in-PhrasePrefix.leaf-is)
    c.in-PhrasePrefix.is c.seek_danger-in-PhrasePrefix.ensures.answer c.seek_danger-in-PhrasePrefix.ensures.entries (ap (λ (l : Limits). l.top)
    c.seek_danger-in-PhrasePrefix.ensures.limits) c.seek_danger-in-PhrasePrefix.ensures.valid c.seek_danger-in-PhrasePrefix.ensures.placed (search rules)

pub seek_danger-requires : goal.seek_danger-requires
seek_danger-requires g c =
    leaf-sent g.S.DocSet Empty c.in-Empty.leaf-is c.in-Empty.is c.requires.valid c.requires.target

pub seek_danger-requires-in-All : goal.seek_danger-requires-in-All
seek_danger-requires-in-All g c =
    leaf-sent g.S.DocSet Every c.in-All.leaf-is c.in-All.is c.requires.valid c.requires.target

pub seek_danger-requires-in-Own : goal.seek_danger-requires-in-Own
seek_danger-requires-in-Own g c =
    leaf-sent g.S.DocSet Own c.in-Own.leaf-is c.in-Own.is c.requires.valid c.requires.target

pub seek_danger-requires-in-Term : goal.seek_danger-requires-in-Term
seek_danger-requires-in-Term g c =
    leaf-sent g.S.DocSet Term (boxed c.in-Term.leaf c.deref_mut.ensures.value c.in-Term.leaf-is) c.in-Term.is c.requires.valid c.requires.target

pub seek_danger-requires-in-BitSet : goal.seek_danger-requires-in-BitSet
seek_danger-requires-in-BitSet g c =
    leaf-sent g.S.DocSet BitSet (boxed c.in-BitSet.leaf c.deref_mut-in-BitSet.ensures.value c.in-BitSet.leaf-is) c.in-BitSet.is c.requires.valid c.requires.target

pub seek_danger-requires-in-Phrase : goal.seek_danger-requires-in-Phrase
seek_danger-requires-in-Phrase g c =
    leaf-sent g.S.DocSet Phrase (boxed c.in-Phrase.leaf c.deref_mut-in-Phrase.ensures.value c.in-Phrase.leaf-is) c.in-Phrase.is c.requires.valid c.requires.target

pub seek_danger-requires-in-PhrasePrefix : goal.seek_danger-requires-in-PhrasePrefix
seek_danger-requires-in-PhrasePrefix g c =
    leaf-sent g.S.DocSet PhrasePrefix (boxed c.in-PhrasePrefix.leaf c.deref_mut-in-PhrasePrefix.ensures.value c.in-PhrasePrefix.leaf-is) c.in-PhrasePrefix.is c.requires.valid c.requires.target

pub unreachable-requires : goal.unreachable-requires
unreachable-requires g c =
    let left = c.in_default in
    no-other _ c.requires.leaf left.not-Empty left.not-All left.not-Own left.not-Term left.not-BitSet left.not-Phrase left.not-PhrasePrefix
