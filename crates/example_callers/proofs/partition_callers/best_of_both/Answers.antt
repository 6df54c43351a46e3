use Rattle.std.proofs.Common.{Err, ap, length, subst, sym, ◌∙◌}
use Rattle.qm_index.specs.Numbers.{count_of}
use Rattle.std.proofs.lemmas.List.Concat.{length-flat_map}
use Rattle.qm_index.specs.Indexed.{all_segments, indexed, statistics}
use Rattle.qm_script.specs.Searching.{AreBestIn}
use Rattle.qm_script.specs.Spelled.{query_of}
use Rattle.birchagain_partitions.specs.BestOverIndexes.{best_in-both, listed, ranked-in}
use Rattle.birchagain_partitions.specs.Merging.{items, of_both}
use Rattle.qm_weight.specs.Best.{best}
use Rattle.example_callers.proofs.partition_callers.best_of_both.Goals as goal

pub returns-in-Ok : goal.returns-in-Ok
returns-in-Ok c =
    let q = query_of c.args.query.now in
    let s = indexed c.args.first.now in
    let t = indexed c.args.second.now in
    let words = statistics c.args.first.now in
    let limit = length c.args.out.now in
    let xs = c.deref.result.now in
    let ys = c.deref-2.result.now in
    let first : AreBestIn q s words limit (listed xs) = subst (λ l. AreBestIn q s words limit (listed l)) (sym c.deref.ensures.value) c.in_ok-best.ensures.best in
    let second : AreBestIn q t words limit (listed ys) =
    subst (λ w. AreBestIn q t w limit (listed ys)) (sym c.requires.alike)
    (subst (λ l. AreBestIn q t (statistics c.args.second.now) limit (listed l)) (sym c.deref-2.ensures.value) c.in_ok-others.ensures.best) in
    let merged = c.in-Ok.ensures.best in
    let offset = c.document_count.ensures ∙ ap (λ i. count_of (all_segments i)) c.in_ok-best.ensures.documents
    ∙ sym (length-flat_map (λ s. s.documents) (all_segments s)) in
    record {
      best = λ both all. record {
        hits = merged.hits;
        best = best_in-both q s t both words limit xs ys merged.hits all first second (merged.best ∙ ap (λ n. best limit (of_both n xs ys)) offset);
        counted = merged.counted;
        front = merged.front;
      };
    }

pub unreachable-requires : goal.unreachable-requires
unreachable-requires c =
    let q = query_of c.args.query.now in
    let limit = length c.args.out.now in
    let first = subst (λ l. AreBestIn q (indexed c.args.first.now) (statistics c.args.first.now) limit (listed l)) (sym c.deref.ensures.value) c.in_ok-best.ensures.best in
    let second = subst (λ l. AreBestIn q (indexed c.args.second.now) (statistics c.args.second.now) limit (listed l)) (sym c.deref-2.ensures.value) c.in_ok-others.ensures.best in
    c.in-Err-NotRanked.ensures.not_ranked.0 (ap Err c.in-Err-NotRanked.field-0-is)
    (record {
      first = ranked-in q (indexed c.args.first.now) (statistics c.args.first.now) limit c.deref.result.now first;
      second = ranked-in q (indexed c.args.second.now) (statistics c.args.second.now) limit c.deref-2.result.now second;
    })
