use Rattle.std.proofs.Common.{◌++◌, IsTrue, rules, ◌∙◌, ap, sym, arith, take, of_z, to_z, w64, subst}
use mir.ValLaws.{to_z-of_z}
use Rattle.std.proofs.lemmas.List.{drop-map, take-map}
use Rattle.qm_postings.specs.Reading.{Reader}
use Rattle.qm_query.specs.Query.{query_of}
use Rattle.qm_index.specs.Parts.{segments_of}
use Rattle.qm_script.specs.Parts.{document_count}
use Rattle.qm_script.specs.Pruned.{all_pruned, parts_pruned}
use Rattle.qm_script.specs.Written.{ListsSoFar}
use Rattle.qm_weight.specs.Tree.{is_scoring}
use Rattle.qm_weight.specs.Weights.{tree_of}
use Rattle.qm_script.proofs.PartLemmas.{count-split, count-taken}
use Rattle.qm_script.proofs.PrunedParts.{rest-taken}
use Rattle.qm_script.proofs.pruning.write_pruned.Goals as goal

pub list_runs-requires-clause-few : goal.list_runs-requires-clause-few
list_runs-requires-clause-few c = omega (arith, count-taken c.args.segments.now c.args.ended, c.requires.few)

pub list_runs-requires-clause-scoring : goal.list_runs-requires-clause-scoring
list_runs-requires-clause-scoring c = search (rules, c.in_ok-weight.ensures.scoring c.requires.scoring)

pub list_parts-requires-clause-few : goal.list_parts-requires-clause-few
list_parts-requires-clause-few c =
    let rest = ap (λ rs. document_count (segments_of rs)) (rest-taken c.args.ended c.args.segments.now) in
    omega (arith, rest, count-split c.args.segments.now c.args.ended, c.in_ok-first.ensures.counted, c.requires.few)

pub list_parts-requires-clause-scoring : goal.list_parts-requires-clause-scoring
list_parts-requires-clause-scoring c =
    subst (λ w. IsTrue (is_scoring (tree_of w))) (sym c.deref-2.ensures) (c.in_ok-weight.ensures.scoring c.requires.scoring)

pub returns-clause-listed : goal.returns-clause-listed
returns-clause-listed c =
    let enable = c.args.enable_scoring in
    let query = query_of c.args.query.now in
    let readers = c.args.segments.now in
    let ended = c.args.ended in
    let same = to_z-of_z w64 c.args.threshold c.ranges.threshold in
    let tree = c.in_ok-weight.ensures.tree in
    let one = ap tree_of c.deref.ensures ∙ tree in
    let other = ap tree_of c.deref-2.ensures ∙ tree in
    let front = sym (take-map (λ (r : Reader). r.segment) ended readers) in
    let number = c.in_ok-first.ensures.counted ∙ ap document_count front in
    let back = ap segments_of (rest-taken ended readers) ∙ sym (drop-map (λ (r : Reader). r.segment) ended readers) in
    let items = all_pruned (to_z w64 (of_z w64 c.args.threshold)) (tree_of c.deref.result.now) (segments_of (take ended readers)) in
    let listed = c.in_ok-list_parts.ensures.listed items c.in_ok-first.ensures.listed in
    let written = subst (λ l. ListsSoFar l c.list_parts.new.listing)
    (λ i. all_pruned (same i) (one i) (front i) ++ parts_pruned (same i) (other i) (number i) (back i)) listed in
    c.finish.ensures.listed _ written
