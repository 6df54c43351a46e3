-- A leaf fills the buffer as its cursor does.
use Rattle.std.proofs.Common.{rules, [], ap, refl, sym}
use Rattle.qm_docset.specs.Entry.{Limits}
use Rattle.qm_combine.specs.AllDocuments.{all_left}
use Rattle.qm_combine.specs.Constant.{constant_left}
use Rattle.qm_phrase.specs.PhrasePrefixScorer.{phrase_prefix_left}
use Rattle.qm_phrase.specs.PhraseScorer.{phrase_left}
use Rattle.qm_term.specs.TermScorer.{scored_left}
use Rattle.qm_scorer.specs.BareFacts.{bare-nil}
use Rattle.qm_scorer.specs.Tree.{postings_cursors, set_cursors}
use Rattle.qm_scorer.specs.declared.any_scorer.AnyScorer.TheVariants.{All, BitSet, Empty, Own, Phrase, PhrasePrefix, Term}
use Rattle.qm_scorer.proofs.HandedOn.{leaf-asked, leaf-filled}
use Rattle.qm_scorer.proofs.LeafArms.{boxed, no-other}
use Rattle.qm_scorer.proofs.leaves.fill_leaf.Goals as goal

pub fill_buffer-requires : goal.fill_buffer-requires
fill_buffer-requires g c = leaf-asked g.S.DocSet Empty c.in-Empty.leaf-is c.in-Empty.is c.requires.valid c.requires.placed

pub fill_buffer-requires-in-All : goal.fill_buffer-requires-in-All
fill_buffer-requires-in-All g c = leaf-asked g.S.DocSet All c.in-All.leaf-is c.in-All.is c.requires.valid c.requires.placed

pub fill_buffer-requires-in-Own : goal.fill_buffer-requires-in-Own
fill_buffer-requires-in-Own g c = leaf-asked g.S.DocSet Own c.in-Own.leaf-is c.in-Own.is c.requires.valid c.requires.placed

pub fill_buffer-requires-in-Term : goal.fill_buffer-requires-in-Term
fill_buffer-requires-in-Term g c =
    let asked = leaf-asked g.S.DocSet Term (boxed c.in-Term.leaf c.deref_mut.ensures.value c.in-Term.leaf-is) c.in-Term.is c.requires.valid c.requires.placed in
    record { valid = asked.valid }

pub fill_buffer-requires-in-BitSet : goal.fill_buffer-requires-in-BitSet
fill_buffer-requires-in-BitSet g c = leaf-asked g.S.DocSet BitSet (boxed c.in-BitSet.leaf c.deref_mut-in-BitSet.ensures.value c.in-BitSet.leaf-is) c.in-BitSet.is c.requires.valid c.requires.placed

pub fill_buffer-requires-in-Phrase : goal.fill_buffer-requires-in-Phrase
fill_buffer-requires-in-Phrase g c = leaf-asked g.S.DocSet Phrase (boxed c.in-Phrase.leaf c.deref_mut-in-Phrase.ensures.value c.in-Phrase.leaf-is) c.in-Phrase.is c.requires.valid c.requires.placed

pub fill_buffer-requires-in-PhrasePrefix : goal.fill_buffer-requires-in-PhrasePrefix
fill_buffer-requires-in-PhrasePrefix g c =
    leaf-asked g.S.DocSet PhrasePrefix (boxed c.in-PhrasePrefix.leaf c.deref_mut-in-PhrasePrefix.ensures.value c.in-PhrasePrefix.leaf-is) c.in-PhrasePrefix.is c.requires.valid c.requires.placed

pub returns-in-Empty : goal.returns-in-Empty
returns-in-Empty g c =
    let leaf = c.in-Empty.leaf in
    let filled = c.fill_buffer in
    leaf-filled g.S.DocSet Empty (λ _. []) (λ _. sym bare-nil) filled.new._buffer leaf filled.new.self c.in-Empty.leaf-is c.in-Empty.is
    filled.ensures.count filled.ensures.documents refl refl tt tt (search rules)

pub returns-in-All : goal.returns-in-All
returns-in-All g c =
    let leaf = c.in-All.leaf in
    let filled = c.fill_buffer-in-All in
    leaf-filled g.S.DocSet All all_left (λ _. refl) filled.new.buffer leaf filled.new.self c.in-All.leaf-is c.in-All.is
    filled.ensures.count filled.ensures.documents filled.ensures.entries refl filled.ensures.valid filled.ensures.placed (search rules)

pub returns-in-Own : goal.returns-in-Own
returns-in-Own g c =
    let leaf = c.in-Own.leaf in
    let filled = c.fill_buffer-in-Own in
    leaf-filled g.S.DocSet Own g.S.DocSet.entries (λ _. refl) filled.new.buffer leaf filled.new.self c.in-Own.leaf-is c.in-Own.is
    filled.ensures.count filled.ensures.documents filled.ensures.entries
    (ap (λ (l : Limits). l.top) filled.ensures.limits) filled.ensures.valid filled.ensures.placed (search rules)

pub returns-in-Term : goal.returns-in-Term
returns-in-Term g c =
    let leaf = c.in-Term.leaf in
    let filled = c.fill_buffer-in-Term in
    leaf-filled g.S.DocSet Term (λ s. scored_left s.value) (λ _. refl) filled.new.buffer leaf (record leaf { value = filled.new.self }) (boxed leaf c.deref_mut.ensures.value c.in-Term.leaf-is) c.in-Term.is
    filled.ensures.count filled.ensures.documents filled.ensures.entries
    (ap (λ (l : Limits). l.top) filled.ensures.limits) filled.ensures.valid tt (search rules)

pub returns-in-BitSet : goal.returns-in-BitSet
returns-in-BitSet g c =
    let leaf = c.in-BitSet.leaf in
    let filled = c.fill_buffer-in-BitSet in
    leaf-filled g.S.DocSet BitSet (λ s. constant_left set_cursors s.value) (λ _. refl) filled.new.buffer leaf (record leaf { value = filled.new.self }) (boxed leaf c.deref_mut-in-BitSet.ensures.value c.in-BitSet.leaf-is) c.in-BitSet.is
    filled.ensures.count filled.ensures.documents filled.ensures.entries
    (ap (λ (l : Limits). l.top) filled.ensures.limits) filled.ensures.valid filled.ensures.placed (search rules)

pub returns-in-Phrase : goal.returns-in-Phrase
returns-in-Phrase g c =
    let leaf = c.in-Phrase.leaf in
    let filled = c.fill_buffer-in-Phrase in
    leaf-filled g.S.DocSet Phrase (λ s. phrase_left postings_cursors s.value) (λ _. refl) filled.new.buffer leaf
    (record leaf { value = filled.new.self }) (boxed leaf c.deref_mut-in-Phrase.ensures.value c.in-Phrase.leaf-is) c.in-Phrase.is
    filled.ensures.count filled.ensures.documents filled.ensures.entries
    (ap (λ (l : Limits). l.top) filled.ensures.limits) filled.ensures.valid filled.ensures.placed (search rules)

pub returns-in-PhrasePrefix : goal.returns-in-PhrasePrefix
returns-in-PhrasePrefix g c =
    let leaf = c.in-PhrasePrefix.leaf in
    let filled = c.fill_buffer-in-PhrasePrefix in
    leaf-filled g.S.DocSet PhrasePrefix (λ s. phrase_prefix_left postings_cursors s.value) (λ _. refl) filled.new.buffer leaf
    (record leaf { value = filled.new.self }) (boxed leaf c.deref_mut-in-PhrasePrefix.ensures.value c.in-PhrasePrefix.leaf-is) c.in-PhrasePrefix.is
    filled.ensures.count filled.ensures.documents filled.ensures.entries
    (ap (λ (l : Limits). l.top) filled.ensures.limits) filled.ensures.valid filled.ensures.placed (search rules)

pub unreachable-requires : goal.unreachable-requires
unreachable-requires g c =
    let left = c.in_default in
    no-other _ c.requires.leaf left.not-Empty left.not-All left.not-Own left.not-Term left.not-BitSet left.not-Phrase left.not-PhrasePrefix
