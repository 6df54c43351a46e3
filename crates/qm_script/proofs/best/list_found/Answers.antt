use Rattle.std.proofs.Common.{◌≡◌, ◌+◌, ◌++◌, ◌∷◌, [], ◌∙◌, ℤ, Some, append_assoc, ap, length, map, take, get_or, pos, slice_index_or, subst, sym, to_z}
use Rattle.std.proofs.Common.{of_z, w64, rules, arith}
use mir.ValLaws.{to_z-of_z}
use Rattle.std.proofs.lemmas.Grind.{common_steps}
use Rattle.std.proofs.Math.Seq.{take-length}
use Rattle.std.proofs.lemmas.List.{map-append, take_more}
use Rattle.qm_postings.specs.declared.address.DocAddress.{DocAddress}
use Rattle.qm_script.specs.BestListed.{found_item}
use Rattle.qm_script.specs.Written.{ListsMore, ListsSoFar}
use Rattle.qm_script.proofs.best.list_found.Goals as goal

pub loop-score-preserved : goal.loop-score-preserved
loop-score-preserved c = λ items is.
    let nothing : ℤ × DocAddress = (pos 0, record { segment_ord = 0; doc_id = 0 }) in
    let item = found_item c.args.firsts.now in
    let before = take c.loop-score.score-index c.args.found.now in
    let f = get_or c.args.found.now c.loop-score.score-index nothing in
    let first = slice_index_or c.args.firsts.now f.1.segment_ord 0 in
    let so_far = items ++ map item before in
    let same : to_z w64 (of_z w64 f.0) ≡ f.0 = first_of (search rules, search (rules, to_z-of_z w64), grind (arith, common_steps)) in
    let done = c.add_score.ensures.listed so_far (c.begin_segment.ensures.kept so_far (c.loop-score.invariant items is)) in
    let more : so_far ++ item f ∷ [] ≡ items ++ map item (take (c.loop-score.score-index + 1) c.args.found.now) =
    append_assoc items (map item before) (item f ∷ [])
    ∙ ap (λ l. items ++ l) (sym (ap (map item) (take_more c.args.found.now c.loop-score.score-index nothing c.loop-score-test.true)
    ∙ map-append item before (f ∷ []))) in
    subst (λ l. ListsSoFar l c.add_score.new.self)
    (ap (λ n. so_far ++ (n + f.1.doc_id, Some (to_z w64 (of_z w64 f.0))) ∷ []) c.begin_segment.ensures.first
    ∙ ap (λ z. so_far ++ (first + f.1.doc_id, Some z) ∷ []) same ∙ more) done

pub returns : goal.returns
returns c =
    let found = c.args.found.now in
    let i = c.loop-score.score-index in
    let all : i ≡ length found = omega (arith, c.loop-score-test.false, c.loop-score.auto.score-index-end) in
    subst (λ fs. ListsMore (map (found_item c.args.firsts.now) fs) c.args.listing.now c.loop-score.listing)
    (ap (λ n. take n found) all ∙ take-length found) c.loop-score.invariant
