use Rattle.std.proofs.Common.{◌≡◌, ◌+◌, ◌++◌, ◌<◌, ℕ, List, None, Some, ap, arith, drop, get_or, length, sym, ◌∙◌}
use Rattle.qm_postings.specs.LentRow.{lent_row}
use Rattle.qm_merge.specs.AliveRows.{documents_left, frequencies_left, number_in}
use Rattle.qm_merge.proofs.LeftSteps.{document-more, document-none, frequency-more, frequency-none}
use Rattle.qm_merge.proofs.alive_rows.push_postings.Goals as goal
use Rattle.qm_merge.proofs.alive_rows.push_postings.Goals.{in-Some+in_ok-push+in_ok-push-2, in_default}

pub loop-place-preserved : goal.loop-place-preserved
loop-place-preserved c =
    let r = lent_row c.args.row.now in
    let ds = r.documents in
    let fs = r.frequencies in
    let numbers = c.args.numbers.now in
    let place = c.loop-place.place in
    let d = get_or c.documents.result.now place 0 in
    let done_ds = c.loop-place.left-inside.documents.items in
    let done_fs = c.loop-place.left-inside.frequencies.items in
    let all_ds = c.args.left.now.documents ++ documents_left numbers ds in
    let all_fs = c.args.left.now.frequencies ++ frequencies_left numbers ds fs in
    let within : place < length ds = omega (arith, c.loop-place-test.true, ap length c.documents-place-end.ensures) in
    let inside : place < length fs = omega (arith, within, c.requires.paired) in
    let own : d ≡ get_or ds place 0 = ap (λ (xs : List ℕ). get_or xs place 0) c.documents.ensures in
    elim c.match-number_of.branch [
      | in-Some+in_ok-push+in_ok-push-2 w ↦
          let k = w.in-Some.number in
          let is : number_in numbers d ≡ Some k = sym c.number_of.ensures ∙ w.in-Some.is in
          rw w.left-inside-is (record {
            term = c.loop-place.invariant.term;
            documents = ap (λ l. l ++ documents_left numbers (drop (place + 1) ds)) w.in_ok-push.ensures.items
                ∙ document-more numbers ds fs place done_ds all_ds d k within own is c.loop-place.invariant.documents;
            frequencies = ap (λ l. l ++ frequencies_left numbers (drop (place + 1) ds) (drop (place + 1) fs)) w.in_ok-push-2.ensures.items
                ∙ frequency-more numbers ds fs place done_fs all_fs d w.frequency.result k within inside own w.frequency.ensures is
                c.loop-place.invariant.frequencies;
            positions = c.loop-place.invariant.positions;
          })
      | in_default w ↦
          let is : number_in numbers d ≡ None = sym c.number_of.ensures ∙ w.in_default.is in
          rw w.left-inside-is (record {
            term = c.loop-place.invariant.term;
            documents = document-none numbers ds fs place done_ds all_ds d within own is c.loop-place.invariant.documents;
            frequencies = frequency-none numbers ds fs place done_fs all_fs d within inside own is c.loop-place.invariant.frequencies;
            positions = c.loop-place.invariant.positions;
          })
    ]
