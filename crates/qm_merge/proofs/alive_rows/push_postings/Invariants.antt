use Rattle.std.proofs.Common.{◌≡◌, ◌++◌, drop}
use Rattle.qm_postings.specs.LentRow.{lent_row}
use Rattle.qm_merge.specs.AliveRows.{documents_left, frequencies_left}
use Rattle.qm_merge.proofs.alive_rows.push_postings.Given as goal

abbrev pub invariant-loop-place : goal.invariant-loop-place
invariant-loop-place l =
    let r = lent_row l.row in
    record {
      term : l.left-inside.term ≡ l.fn.left.term;
      documents : l.left-inside.documents.items ++ documents_left l.numbers (drop l.place r.documents)
          ≡ l.fn.left.documents ++ documents_left l.numbers r.documents;
      frequencies : l.left-inside.frequencies.items ++ frequencies_left l.numbers (drop l.place r.documents) (drop l.place r.frequencies)
          ≡ l.fn.left.frequencies ++ frequencies_left l.numbers r.documents r.frequencies;
      positions : l.left-inside.positions.items ≡ l.fn.left.positions;
    }
