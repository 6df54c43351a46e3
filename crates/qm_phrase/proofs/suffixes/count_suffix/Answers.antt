-- The term has the document, and is read; or it lies past it, which may be known before.
use Rattle.std.proofs.Common.{◌<◌, [], ◌∷◌, min, arith, ap, subst, sym, ◌∙◌}
use Rattle.qm_docset.specs.Entry.{head_document, head_positions}
use Rattle.qm_postings.specs.Positions.{shifted}
use Rattle.qm_postings.specs.PositionsFacts.{ArePositions-head}
use Rattle.qm_phrase.specs.Phrase.{positions_at}
use Rattle.qm_phrase.specs.PhrasePrefix.{common_count}
use Rattle.qm_phrase.specs.Places.{Ascends, places_of, shift_of}
use Rattle.qm_docset.specs.EntryFacts.{from-reached}
use Rattle.qm_phrase.proofs.SuffixTrees.{shared-ahead}
use Rattle.qm_phrase.proofs.SuffixSteps.{none-shared, positions_at-found, positions_at-lacks}
use Rattle.qm_phrase.proofs.TermSteps.{Ascends-zero}
use Rattle.qm_phrase.proofs.suffixes.count_suffix.Goals as goal

pub count_shared-requires-clause-row : goal.count_shared-requires-clause-row
count_shared-requires-clause-row g c =
    let postings = c.seek_danger.new.self in
    let positions = head_positions (g.P.DocSet.entries postings) in
    subst (Ascends 0) (sym c.read.ensures.left) (Ascends-zero (shift_of c.args.places.now) positions c.requires.shift
    (ArePositions-head (g.P.DocSet.entries postings) (g.met.P.Postings.ordered postings c.seek_danger.ensures.valid)))

pub returns-then-doc-suffix-clause-count : goal.returns-then-doc-suffix-clause-count
returns-then-doc-suffix-clause-count g c =
    let postings = c.args.suffix.now.postings in
    let past : c.args.doc < head_document (g.P.DocSet.entries postings) = omega (arith, c.if-doc-suffix.true, c.requires.suffix.bound) in
    let none = shared-ahead (shift_of c.args.places.now) c.args.doc (g.P.DocSet.limits postings) (places_of c.args.common.now) (g.P.DocSet.entries postings)
    (g.met.P.DocSet.ascending postings c.requires.suffix.valid) past in
    sym (ap (min 4294967295) none)

pub returns-then-doc-suffix-clause-entries : goal.returns-then-doc-suffix-clause-entries
returns-then-doc-suffix-clause-entries g c =
    let postings = c.args.suffix.now.postings in
    sym (from-reached c.args.doc 0 (g.P.DocSet.limits postings) (g.P.DocSet.entries postings)
    (omega (arith, c.if-doc-suffix.true, c.requires.suffix.bound)) (g.met.P.DocSet.ascending postings c.requires.suffix.valid))

pub returns-in-Found-clause-count : goal.returns-in-Found-clause-count
returns-in-Found-clause-count g c =
    let postings = c.seek_danger.new.self in
    let old = g.P.DocSet.entries c.args.suffix.now.postings in
    let new = g.P.DocSet.entries postings in
    let law = g.met.P.DocSet.ascending postings c.seek_danger.ensures.valid in
    let here =
    positions_at-found c.args.doc (g.P.DocSet.limits postings) old new law c.seek_danger.ensures.entries c.in-Found.ensures.answer.here c.requires.doc in
    c.count_shared.ensures.count
    ∙ ap (λ s. min 4294967295 (common_count (s ∷ places_of c.args.common.now ∷ []))) (c.read.ensures.left ∙ ap (shifted (shift_of c.args.places.now)) here)

pub returns-in-SeekLowerBound-clause-count : goal.returns-in-SeekLowerBound-clause-count
returns-in-SeekLowerBound-clause-count g c =
    let postings = c.seek_danger.new.self in
    let old = g.P.DocSet.entries c.args.suffix.now.postings in
    let new = g.P.DocSet.entries postings in
    let law = g.met.P.DocSet.ascending postings c.seek_danger.ensures.valid in
    let answer = c.in-SeekLowerBound.ensures.answer in
    let lacks = positions_at-lacks c.args.doc (g.P.DocSet.limits postings) old new law c.seek_danger.ensures.entries
    (omega (arith, answer.before_all, answer.past c.requires.doc)) in
    none-shared (shift_of c.args.places.now) (positions_at c.args.doc old) (places_of c.args.common.now) lacks
