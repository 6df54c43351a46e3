use Rattle.std.proofs.Common.{◌≡◌, ◌+◌, ◌++◌, ◌∷◌, [], ◌∙◌, ℤ, ℕ, Option, Some, ap, map, take, get_or, pos, slice_index_or, sym, to_z, of_z, w64, rules, arith}
use mir.ValLaws.{to_z-of_z}
use Rattle.std.proofs.lemmas.Grind.{common_steps}
use Rattle.std.proofs.lemmas.List.{map-append, take_more}
use Rattle.qm_postings.specs.declared.address.DocAddress.{DocAddress}
use Rattle.qm_script.specs.BestListed.{found_item}
use Rattle.qm_script.specs.declared.searching.Hit.{Hit}
use Rattle.qm_script.proofs.searching.hits_of.Goals as goal

pub loop-score-preserved : goal.loop-score-preserved
loop-score-preserved c =
    let nothing : ℤ × DocAddress = (pos 0, record { segment_ord = 0; doc_id = 0 }) in
    let item = found_item c.args.firsts.now in
    let shown : Hit → ℕ × Option ℤ = λ h. (h.document, Some h.score) in
    let before = take c.loop-score.score-index c.args.found.now in
    let f = get_or c.args.found.now c.loop-score.score-index nothing in
    let first = slice_index_or c.args.firsts.now f.1.segment_ord 0 in
    let hit : Hit = record { document = first + c.from.result; score = to_z w64 (of_z w64 f.0) } in
    let same : to_z w64 (of_z w64 f.0) ≡ f.0 = first_of (search rules, search (rules, to_z-of_z w64), grind (arith, common_steps)) in
    let as_found : shown hit ≡ item f = λ j. (first + c.from.ensures j, Some (same j)) in
    ap (map shown) c.in_ok-push.ensures.items ∙ map-append shown c.loop-score.hits.items (hit ∷ [])
    ∙ (λ j. c.loop-score.invariant j ++ as_found j ∷ [])
    ∙ sym (ap (map item) (take_more c.args.found.now c.loop-score.score-index nothing c.loop-score-test.true) ∙ map-append item before (f ∷ []))
