-- A window takes a leaf as its cursor.
use Rattle.std.proofs.Common.{rules, [], ap, refl, sym}
use Rattle.qm_docset.specs.Entry.{Limits}
use Rattle.qm_combine.specs.AllDocuments.{all_left}
use Rattle.qm_combine.specs.Constant.{constant_left}
use Rattle.qm_phrase.specs.PhrasePrefixScorer.{phrase_prefix_left}
use Rattle.qm_phrase.specs.PhraseScorer.{phrase_left}
use Rattle.qm_term.specs.TermScorer.{scored_left}
use Rattle.qm_scorer.specs.BareFacts.{bare-nil}
use Rattle.qm_scorer.specs.Tree.{postings_cursors, set_cursors}
use Rattle.qm_scorer.specs.declared.any_scorer.AnyScorer.TheVariants.{All as Every, BitSet, Empty, Own, Phrase, PhrasePrefix, Term}
use Rattle.qm_scorer.proofs.Depth.{same-All, same-BitSet, same-Empty, same-Own, same-Phrase, same-PhrasePrefix, same-Term}
use Rattle.qm_scorer.proofs.LeafArms.{boxed, no-other}
use Rattle.qm_scorer.proofs.MoveArms.{swept-leaf}
use Rattle.qm_scorer.proofs.leaves.take_leaf.Goals as goal

pub returns-in-Empty : goal.returns-in-Empty
returns-in-Empty g c =
    let e = c.take_in.ensures in
    swept-leaf g.S.DocSet Empty (λ _. []) (λ _. sym bare-nil)
    (same-Empty g.row.S.Denot) c.args.window.now c.take_in.new.self c.args.bound c.take_in.result c.in-Empty.leaf c.take_in.new.scorer
    c.in-Empty.leaf-is c.in-Empty.is e.head e.left.entries refl tt tt
    e.taken (search rules)

pub returns-in-All : goal.returns-in-All
returns-in-All g c =
    let e = c.take_in-in-All.ensures in
    swept-leaf g.S.DocSet Every all_left (λ _. refl) (same-All g.row.S.Denot) c.args.window.now c.take_in-in-All.new.self c.args.bound
    c.take_in-in-All.result c.in-All.leaf c.take_in-in-All.new.scorer c.in-All.leaf-is c.in-All.is e.head e.left.entries refl e.left.valid e.left.placed
    e.taken (search rules)

pub returns-in-Own : goal.returns-in-Own
returns-in-Own g c =
    let e = c.take_in-in-Own.ensures in
    swept-leaf g.S.DocSet Own g.S.DocSet.entries (λ _. refl)
    (same-Own g.row.S.Denot) c.args.window.now c.take_in-in-Own.new.self c.args.bound c.take_in-in-Own.result c.in-Own.leaf c.take_in-in-Own.new.scorer
    c.in-Own.leaf-is c.in-Own.is e.head e.left.entries (ap (λ (l : Limits). l.top) e.left.limits) e.left.valid e.left.placed
    e.taken (search rules)

pub returns-in-Term : goal.returns-in-Term
returns-in-Term g c =
    let e = c.take_in-in-Term.ensures in
    swept-leaf g.S.DocSet Term (λ s. scored_left s.value) (λ _. refl)
    (same-Term g.row.S.Denot) c.args.window.now c.take_in-in-Term.new.self c.args.bound c.take_in-in-Term.result
    c.in-Term.leaf (record c.in-Term.leaf { value = c.take_in-in-Term.new.scorer }) (boxed c.in-Term.leaf c.deref_mut.ensures.value c.in-Term.leaf-is) c.in-Term.is e.head e.left.entries
    (ap (λ (l : Limits). l.top) e.left.limits) e.left.valid e.left.placed
    e.taken (search rules)

pub returns-in-BitSet : goal.returns-in-BitSet
returns-in-BitSet g c =
    let e = c.take_in-in-BitSet.ensures in
    swept-leaf g.S.DocSet BitSet (λ s. constant_left set_cursors s.value) (λ _. refl)
    (same-BitSet g.row.S.Denot) c.args.window.now c.take_in-in-BitSet.new.self c.args.bound c.take_in-in-BitSet.result
    c.in-BitSet.leaf (record c.in-BitSet.leaf { value = c.take_in-in-BitSet.new.scorer }) (boxed c.in-BitSet.leaf c.deref_mut-in-BitSet.ensures.value c.in-BitSet.leaf-is) c.in-BitSet.is e.head e.left.entries
    (ap (λ (l : Limits). l.top) e.left.limits) e.left.valid e.left.placed
    e.taken (search rules)

pub returns-in-Phrase : goal.returns-in-Phrase
returns-in-Phrase g c =
    let e = c.take_in-in-Phrase.ensures in
    swept-leaf g.S.DocSet Phrase (λ s. phrase_left postings_cursors s.value) (λ _. refl)
    (same-Phrase g.row.S.Denot) c.args.window.now c.take_in-in-Phrase.new.self c.args.bound c.take_in-in-Phrase.result
    c.in-Phrase.leaf (record c.in-Phrase.leaf { value = c.take_in-in-Phrase.new.scorer }) (boxed c.in-Phrase.leaf c.deref_mut-in-Phrase.ensures.value c.in-Phrase.leaf-is) c.in-Phrase.is e.head e.left.entries
    (ap (λ (l : Limits). l.top) e.left.limits) e.left.valid e.left.placed
    e.taken (search rules)

pub returns-in-PhrasePrefix : goal.returns-in-PhrasePrefix
returns-in-PhrasePrefix g c =
    let e = c.take_in-in-PhrasePrefix.ensures in
    swept-leaf g.S.DocSet PhrasePrefix (λ s. phrase_prefix_left postings_cursors s.value) (λ _. refl)
    (same-PhrasePrefix g.row.S.Denot) c.args.window.now c.take_in-in-PhrasePrefix.new.self c.args.bound c.take_in-in-PhrasePrefix.result
    c.in-PhrasePrefix.leaf (record c.in-PhrasePrefix.leaf { value = c.take_in-in-PhrasePrefix.new.scorer }) (boxed c.in-PhrasePrefix.leaf c.deref_mut-in-PhrasePrefix.ensures.value c.in-PhrasePrefix.leaf-is) c.in-PhrasePrefix.is e.head e.left.entries
    (ap (λ (l : Limits). l.top) e.left.limits) e.left.valid e.left.placed
    e.taken (search rules)

pub unreachable-requires : goal.unreachable-requires
unreachable-requires g c =
    let left = c.in_default in
    no-other _ c.requires.leaf left.not-Empty left.not-All left.not-Own left.not-Term left.not-BitSet left.not-Phrase left.not-PhrasePrefix
