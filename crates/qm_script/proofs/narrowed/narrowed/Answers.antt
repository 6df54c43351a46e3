use Rattle.std.proofs.Common.{◌≡◌, ◌+◌, ◌<◌, ◌++◌, ◌∷◌, [], List, drop, get_or, length, map, take, ap, arith, subst, ◌∙◌}
use Rattle.std.proofs.lemmas.List.{map_push}
use Rattle.std.proofs.lemmas.Result.{IfOk-weaker}
use Rattle.qm_index.specs.Parts.{segments_of}
use Rattle.qm_postings.specs.Reading.{Reader}
use Rattle.qm_postings.specs.Restriction.{restricted}
use Rattle.qm_postings.specs.Statistics.{Searched}
use Rattle.qm_schema.specs.Term.{TermKey}
use Rattle.qm_script.specs.AskedTerms.{asked_terms}
use Rattle.qm_script.specs.Narrowed.{Narrows, all_joined}
use Rattle.qm_script.specs.Spelled.{query_of}
use Rattle.qm_script.specs.Wanted.{is_wanted}
use Rattle.qm_script.proofs.AskedNames.{AreAllWanted}
use Rattle.qm_script.proofs.NarrowedScripts.{are-narrowed}
use Rattle.qm_script.proofs.PrunedParts.{rest-taken}
use Rattle.qm_script.proofs.narrowed.narrowed.Goals as goal

pub returns-clause-narrowed : goal.returns-clause-narrowed
returns-clause-narrowed c =
    IfOk-weaker c.from_parts.result _ (λ (it : Searched). Narrows (query_of c.args.query.now) c.args.ended c.args.searcher.now.segments it.segments)
    (λ it made s are number.
    let q = query_of c.args.query.now in
    let given : List Reader = c.segment_readers-readers.result.now in
    let readers : List Reader = c.args.searcher.now.segments in
    let same : given ≡ readers = c.segment_readers-readers.ensures.segments in
    let ended = c.args.ended in
    let first : Reader = c.index-readers-ended.result in
    let terms : List TermKey = c.in_ok-terms.terms.items in
    let wanted = is_wanted terms in
    let within : length s.ended < length readers = omega (arith, c.requires.some, number) in
    let is : first ≡ get_or readers (length s.ended) first = c.index-readers-ended.is ∙ (λ i. get_or (same i) (number i) first) in
    let asks : AreAllWanted wanted (asked_terms (segments_of readers) q) =
    subst (λ rs. AreAllWanted wanted (asked_terms (segments_of rs) q)) same c.in_ok-terms.ensures.all in
    let before : segments_of c.in_ok-segments.segments.items ≡ map (restricted wanted) (segments_of (take (length s.ended) readers)) =
    c.in_ok-segments.ensures.each ∙ (λ i. map (restricted (is_wanted (c.deref.ensures.value i))) (segments_of (take (number i) (same i)))) in
    let last = c.in_ok-whole.ensures.joined
    ∙ (λ i. restricted (is_wanted (c.deref-2.ensures.value i)) (all_joined first.segment (segments_of (rest-taken (ended + 1) given i))))
    ∙ (λ i. restricted wanted (all_joined first.segment (segments_of (drop (number i + 1) (same i))))) in
    let pushed = ap segments_of c.in_ok-push.ensures.items ∙ map_push (λ (r : Reader). r.segment) c.in_ok-segments.segments.items c.in_ok-whole.whole
    ∙ (λ i. before i ++ last i ∷ []) in
    are-narrowed q s readers are wanted first within is asks it.segments (ap (λ (t : Searched). segments_of t.segments) made ∙ pushed))
    c.from_parts.ensures.made
