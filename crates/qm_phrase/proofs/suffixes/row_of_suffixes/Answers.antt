-- The terms are cursors, of which no bounds are known.
use Rattle.std.proofs.Common.{◌≡◌, [], ◌∷◌, ◌++◌, ap, sym, subst, ◌∙◌, map}
use Rattle.std.proofs.lemmas.Iterator.Consumers.{YieldsList-end}
use Rattle.std.proofs.lemmas.Iterator.Adapters.{YieldsList-from_vec}
use Rattle.std.proofs.lemmas.List.{map-append, map-id}
use Rattle.qm_phrase.specs.Suffixes.{AreSuffixes, suffix_lists}
use Rattle.qm_phrase.proofs.SuffixTrees.{AreSuffixes-unbounded, lists-unbounded, unbounded}
use Rattle.qm_phrase.proofs.suffixes.row_of_suffixes.Goals as goal

pub loop-postings-preserved : goal.loop-postings-preserved
loop-postings-preserved g c =
    c.in_ok-push.ensures.items ∙ ap (λ r. r ++ unbounded c.in-Some.postings ∷ []) c.loop-postings.invariant
    ∙ sym (map-append unbounded c.loop-postings.yielded (c.in-Some.postings ∷ []))

pub returns-clause-row : goal.returns-clause-row
returns-clause-row g c =
    let given = c.into_iter-postings-iterator.ensures.into_iter_gives in
    let whole = YieldsList-end (YieldsList-from_vec c.args.suffixes.items given.0 (given.1 ∙ c.args.suffixes.ok.0))
    c.loop-postings.yielded _ c.loop-postings.yielded_by _ c.next.new.self c.in-None.is c.next.ensures.steps in
    let yielded : c.loop-postings.yielded ≡ c.args.suffixes.items = sym (map-id c.loop-postings.yielded) ∙ whole.0 in
    let all : c.loop-postings.row.items ≡ map unbounded c.args.suffixes.items = c.loop-postings.invariant ∙ ap (map unbounded) yielded in
    subst (λ r. AreSuffixes g.P.DocSet r c.args.places.now) (sym all)
    (AreSuffixes-unbounded g.P.DocSet c.args.suffixes.items c.args.places.now c.requires.valid c.requires.fit)

pub returns-clause-lists : goal.returns-clause-lists
returns-clause-lists g c =
    let given = c.into_iter-postings-iterator.ensures.into_iter_gives in
    let whole = YieldsList-end (YieldsList-from_vec c.args.suffixes.items given.0 (given.1 ∙ c.args.suffixes.ok.0))
    c.loop-postings.yielded _ c.loop-postings.yielded_by _ c.next.new.self c.in-None.is c.next.ensures.steps in
    let yielded : c.loop-postings.yielded ≡ c.args.suffixes.items = sym (map-id c.loop-postings.yielded) ∙ whole.0 in
    let all : c.loop-postings.row.items ≡ map unbounded c.args.suffixes.items = c.loop-postings.invariant ∙ ap (map unbounded) yielded in
    ap (suffix_lists g.P.DocSet) all ∙ lists-unbounded g.P.DocSet c.args.suffixes.items
