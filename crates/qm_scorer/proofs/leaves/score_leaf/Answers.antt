-- A leaf has the score of its cursor.
use Rattle.std.proofs.Common.{rules, [], ap, refl, sym}
use Rattle.qm_docset.specs.Entry.{Limits}
use Rattle.qm_combine.specs.AllDocuments.{all_left}
use Rattle.qm_combine.specs.Constant.{constant_left}
use Rattle.qm_combine.proofs.EachMember.{score_cast}
use Rattle.qm_phrase.specs.PhrasePrefixScorer.{phrase_prefix_left}
use Rattle.qm_phrase.specs.PhraseScorer.{phrase_left}
use Rattle.qm_term.specs.TermScorer.{scored_left}
use Rattle.qm_scorer.specs.BareFacts.{bare-nil}
use Rattle.qm_scorer.specs.Tree.{postings_cursors, set_cursors}
use Rattle.qm_scorer.specs.declared.any_scorer.AnyScorer.TheVariants.{All as Every, BitSet, Empty, Own, Phrase, PhrasePrefix, Term}
use Rattle.qm_scorer.proofs.Depth.{same-All, same-BitSet, same-Empty, same-Own, same-Phrase, same-PhrasePrefix, same-Term}
use Rattle.qm_scorer.proofs.HandedOn.{leaf-scored}
use Rattle.qm_scorer.proofs.LeafArms.{boxed, no-other}
use Rattle.qm_scorer.proofs.ScoreArms.{score_fits, scored-leaf}
use Rattle.qm_scorer.proofs.leaves.score_leaf.Goals as goal

pub returns-in-Empty : goal.returns-in-Empty
returns-in-Empty g c =
    let leaf = c.in-Empty.leaf in
    let scored = c.score in
    let score = score_cast scored.result _ scored.ensures scored.type_inv in
    scored-leaf g.S.DocSet Empty (λ _. []) (λ _. sym bare-nil) (λ _. refl) (same-Empty g.row.S.Denot) leaf scored.new.self c.in-Empty.leaf-is
    c.in-Empty.is c.requires.here score (score_fits _ _ scored.ensures scored.type_inv) refl refl tt tt (search rules)

pub returns-in-All : goal.returns-in-All
returns-in-All g c =
    let leaf = c.in-All.leaf in
    let scored = c.score-in-All in
    let score = score_cast scored.result _ scored.ensures.score scored.type_inv in
    scored-leaf g.S.DocSet Every all_left (λ _. refl) (λ _. refl) (same-All g.row.S.Denot) leaf scored.new.self c.in-All.leaf-is c.in-All.is c.requires.here
    score (score_fits _ _ scored.ensures.score scored.type_inv) scored.ensures.entries refl scored.ensures.valid scored.ensures.placed (search rules)

pub returns-in-Own : goal.returns-in-Own
returns-in-Own g c =
    let leaf = c.in-Own.leaf in
    let scored = c.score-in-Own in
    let score = score_cast scored.result _ scored.ensures.score scored.type_inv in
    scored-leaf g.S.DocSet Own g.S.DocSet.entries (λ _. refl) (λ _. refl) (same-Own g.row.S.Denot) leaf scored.new.self
    c.in-Own.leaf-is c.in-Own.is c.requires.here score (score_fits _ _ scored.ensures.score scored.type_inv) scored.ensures.entries
    (ap (λ (l : Limits). l.top) scored.ensures.limits) scored.ensures.valid scored.ensures.placed (search rules)

pub returns-in-Term : goal.returns-in-Term
returns-in-Term g c =
    let leaf = c.in-Term.leaf in
    let scored = c.score-in-Term in
    let score = score_cast scored.result _ scored.ensures.score scored.type_inv in
    scored-leaf g.S.DocSet Term (λ s. scored_left s.value) (λ _. refl) (λ _. refl) (same-Term g.row.S.Denot) leaf (record leaf { value = scored.new.self })
    (boxed leaf c.deref_mut.ensures.value c.in-Term.leaf-is) c.in-Term.is c.requires.here score (score_fits _ _ scored.ensures.score scored.type_inv) scored.ensures.entries
    (ap (λ (l : Limits). l.top) scored.ensures.limits) scored.ensures.valid tt (search rules)

pub returns-in-BitSet : goal.returns-in-BitSet
returns-in-BitSet g c =
    let leaf = c.in-BitSet.leaf in
    let scored = c.score-in-BitSet in
    let score = score_cast scored.result _ scored.ensures.score scored.type_inv in
    scored-leaf g.S.DocSet BitSet (λ s. constant_left set_cursors s.value) (λ _. refl) (λ _. refl) (same-BitSet g.row.S.Denot) leaf (record leaf { value = scored.new.self })
    (boxed leaf c.deref_mut-in-BitSet.ensures.value c.in-BitSet.leaf-is) c.in-BitSet.is c.requires.here score (score_fits _ _ scored.ensures.score scored.type_inv) scored.ensures.entries
    (ap (λ (l : Limits). l.top) scored.ensures.limits) scored.ensures.valid scored.ensures.placed (search rules)

pub returns-in-Phrase : goal.returns-in-Phrase
returns-in-Phrase g c =
    let leaf = c.in-Phrase.leaf in
    let scored = c.score-in-Phrase in
    let score = score_cast scored.result _ scored.ensures.score scored.type_inv in
    scored-leaf g.S.DocSet Phrase (λ s. phrase_left postings_cursors s.value) (λ _. refl) (λ _. refl) (same-Phrase g.row.S.Denot) leaf (record leaf { value = scored.new.self })
    (boxed leaf c.deref_mut-in-Phrase.ensures.value c.in-Phrase.leaf-is) c.in-Phrase.is c.requires.here score (score_fits _ _ scored.ensures.score scored.type_inv) scored.ensures.entries
    (ap (λ (l : Limits). l.top) scored.ensures.limits) scored.ensures.valid scored.ensures.placed (search rules)

pub returns-in-PhrasePrefix : goal.returns-in-PhrasePrefix
returns-in-PhrasePrefix g c =
    let leaf = c.in-PhrasePrefix.leaf in
    let scored = c.score-in-PhrasePrefix in
    let score = score_cast scored.result _ scored.ensures.score scored.type_inv in
    scored-leaf g.S.DocSet PhrasePrefix (λ s. phrase_prefix_left postings_cursors s.value) (λ _. refl) (λ _. refl) (same-PhrasePrefix g.row.S.Denot)
    leaf (record leaf { value = scored.new.self }) (boxed leaf c.deref_mut-in-PhrasePrefix.ensures.value c.in-PhrasePrefix.leaf-is) c.in-PhrasePrefix.is c.requires.here score (score_fits _ _ scored.ensures.score scored.type_inv)
    scored.ensures.entries (ap (λ (l : Limits). l.top) scored.ensures.limits) scored.ensures.valid scored.ensures.placed (search rules)

pub score-requires-in-All : goal.score-requires-in-All
score-requires-in-All g c =
    leaf-scored g.S.DocSet Every all_left (λ _. refl) c.in-All.leaf-is c.in-All.is c.requires.valid c.requires.placed c.requires.here

pub score-requires-in-Own : goal.score-requires-in-Own
score-requires-in-Own g c =
    leaf-scored g.S.DocSet Own g.S.DocSet.entries (λ _. refl) c.in-Own.leaf-is c.in-Own.is c.requires.valid c.requires.placed c.requires.here

pub score-requires-in-Term : goal.score-requires-in-Term
score-requires-in-Term g c =
    let asked = leaf-scored g.S.DocSet Term (λ s. scored_left s.value) (λ _. refl)
    (boxed c.in-Term.leaf c.deref_mut.ensures.value c.in-Term.leaf-is) c.in-Term.is c.requires.valid c.requires.placed c.requires.here in
    record { valid = asked.valid; here = asked.here }

pub score-requires-in-BitSet : goal.score-requires-in-BitSet
score-requires-in-BitSet g c =
    leaf-scored g.S.DocSet BitSet (λ s. constant_left set_cursors s.value) (λ _. refl)
    (boxed c.in-BitSet.leaf c.deref_mut-in-BitSet.ensures.value c.in-BitSet.leaf-is) c.in-BitSet.is c.requires.valid c.requires.placed c.requires.here

pub score-requires-in-Phrase : goal.score-requires-in-Phrase
score-requires-in-Phrase g c =
    leaf-scored g.S.DocSet Phrase (λ s. phrase_left postings_cursors s.value) (λ _. refl)
    (boxed c.in-Phrase.leaf c.deref_mut-in-Phrase.ensures.value c.in-Phrase.leaf-is) c.in-Phrase.is c.requires.valid c.requires.placed c.requires.here

pub score-requires-in-PhrasePrefix : goal.score-requires-in-PhrasePrefix
score-requires-in-PhrasePrefix g c =
    leaf-scored g.S.DocSet PhrasePrefix (λ s. phrase_prefix_left postings_cursors s.value) (λ _. refl)
    (boxed c.in-PhrasePrefix.leaf c.deref_mut-in-PhrasePrefix.ensures.value c.in-PhrasePrefix.leaf-is) c.in-PhrasePrefix.is c.requires.valid c.requires.placed c.requires.here

pub unreachable-requires : goal.unreachable-requires
unreachable-requires g c =
    let left = c.in_default in
    no-other _ c.requires.leaf left.not-Empty left.not-All left.not-Own left.not-Term left.not-BitSet left.not-Phrase left.not-PhrasePrefix
