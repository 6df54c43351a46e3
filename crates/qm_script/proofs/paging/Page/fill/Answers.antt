use Rattle.std.proofs.Common.{false, ◌≡◌, ◌+◌, ◌++◌, ◌∙◌, arith, ap, drop, filter, length, map, nat_le, sym, take}
use Rattle.std.proofs.lemmas.List.{length-take}
use Rattle.qm_script.specs.Paging.{numbers_in}
use Rattle.qm_weight.specs.Weights.{tree_of}
use Rattle.qm_script.proofs.OverParts.{count-next, row-next}
use Rattle.qm_script.proofs.Pages.{numbers_from, segment-taken}
use Rattle.qm_script.proofs.paging.Page.fill.Goals as goal

pub loop-segment-preserved : goal.loop-segment-preserved
loop-segment-preserved c =
    let tree = tree_of c.args.weight.now in
    let readers = c.args.segments.now in
    let i = c.loop-segment.segment-index in
    let item = c.segment-item.result in
    let first = c.loop-segment.first in
    let limit = c.args.self.now.limit in
    let least = c.args.self.now.from in
    let had = c.loop-segment.self.documents.items in
    let rest = map (λ r. r.segment) (drop (i + 1) readers) in
    let number = c.from-first.ensures ∙ c.max_doc.ensures.number in
    let before = c.loop-segment.invariant in
    let taken = c.in_ok-take_segment.ensures.taken in
    let documents : c.take_segment.new.self.documents.items ≡ take limit (had ++ filter (nat_le least) (numbers_in tree first item.segment)) =
    taken.documents ∙ (λ j. take (before.limit j) (had ++ filter (nat_le (before.first j)) (numbers_in tree first item.segment))) in
    record {
      first = taken.first ∙ before.first;
      limit = taken.limit ∙ before.limit;
      limited = omega (
        arith,
        taken.limit,
        before.limit,
        ap length documents,
        length-take limit (had ++ filter (nat_le least) (numbers_in tree first item.segment)),
      );
      room = count-next false tree readers i item c.loop-segment-test.true c.segment-item.is first c.from-first.result number before.room;
      left = ap (λ l. take limit (l ++ filter (nat_le least) (numbers_from tree (first + c.from-first.result) rest))) documents
          ∙ ap (λ n. take limit (take limit (had ++ filter (nat_le least) (numbers_in tree first item.segment)) ++ filter (nat_le least)
          (numbers_from tree (first + n) rest))) number
          ∙ segment-taken tree first item.segment least rest limit had
          ∙ ap (λ rs. take limit (had ++ filter (nat_le least) (numbers_from tree first (map (λ r. r.segment) rs))))
          (sym (row-next false tree readers i item c.loop-segment-test.true c.segment-item.is))
          ∙ before.left;
    }
