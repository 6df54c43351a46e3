use Rattle.std.proofs.Common.{◌≡◌, ◌+◌, ◌++◌, map, take}
use Rattle.qm_postings.specs.LentRow.{lent_row}
use Rattle.qm_merge.proofs.joined_rows.push_postings.Given as goal

abbrev pub invariant-loop-place : goal.invariant-loop-place
invariant-loop-place l =
    let r = lent_row l.other in
    record {
      term : l.row-inside.term ≡ l.fn.row.term;
      documents : l.row-inside.documents.items ≡ l.fn.row.documents ++ map (λ d. l.count + d) (take l.place r.documents);
      frequencies : l.row-inside.frequencies.items ≡ l.fn.row.frequencies ++ take l.place r.frequencies;
      positions : l.row-inside.positions.items ≡ l.fn.row.positions;
    }
