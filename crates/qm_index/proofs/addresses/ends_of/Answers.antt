use Rattle.std.proofs.Common.{◌≡◌, ◌+◌, ◌++◌, ◌∷◌, [], IsOk, ap, sym, ◌∙◌, arith, length, rules, take}
use Rattle.std.proofs.lemmas.List.{take_more}
use Rattle.std.proofs.lemmas.List.Sums.{sum_by_more}
use Rattle.qm_postings.specs.Reading.{Reader}
use Rattle.qm_index.specs.Numbers.{document_count, ends_from}
use Rattle.qm_index.proofs.SegmentEnds.{ends-push}
use Rattle.qm_index.proofs.addresses.ends_of.Goals as goal

pub loop-reader-preserved : goal.loop-reader-preserved
loop-reader-preserved c =
    let rs = c.args.readers.now in
    let i = c.loop-reader.reader-index in
    let reader = c.reader-item.result in
    let so_far = c.loop-reader.invariant in
    let len = c.from-end.ensures ∙ c.max_doc.ensures.number in
    let next : take (i + 1) rs ≡ take i rs ++ reader ∷ [] =
    take_more rs i reader c.loop-reader-test.true ∙ ap (λ r. take i rs ++ r ∷ []) (sym c.reader-item.is) in
    let sum = sum_by_more (λ (r : Reader). length r.segment.documents) rs i reader c.loop-reader-test.true in
    let own = ap (λ (r : Reader). length r.segment.documents) c.reader-item.is in
    let end = c.loop-reader.end + c.from-end.result in
    let here : end ≡ 0 + (document_count (take i rs) + length reader.segment.documents) = omega (arith, so_far.counted, len) in
    let ok : IsOk c.push.result = search rules in
    let added : c.push.new.self.items ≡ c.loop-reader.ends.items ++ end ∷ [] = rw ok at c.push.ensures.items in
    record {
      ends = added ∙ ap (λ es. es ++ end ∷ []) so_far.ends ∙ ap (λ n. ends_from 0 (take i rs) ++ n ∷ []) here
          ∙ sym (ends-push 0 (take i rs) reader) ∙ ap (ends_from 0) (sym next);
      counted = omega (arith, so_far.counted, len, sum, own);
      fits = omega (arith, so_far.fits, len, c.max_doc.ensures.number, c.max_doc.ensures.room);
    }
