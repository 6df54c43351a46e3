use Rattle.std.proofs.Common.{◌≡◌, [], take}
use Rattle.qm_postings.specs.LentRow.{lent_row}
use Rattle.cases_postings.proofs.built_rows.push_parts.Given as goal

abbrev pub invariant-loop-place : goal.invariant-loop-place
invariant-loop-place l = record {
  rows : l.rows.rows ≡ l.fn.rows.rows;
  documents : l.rows.documents ≡ take l.place (lent_row l.row).documents;
  frequencies : l.rows.frequencies ≡ take l.place (lent_row l.row).frequencies;
  positions : l.rows.positions ≡ [];
}

abbrev pub invariant-loop-position : goal.invariant-loop-position
invariant-loop-position l = record {
  rows : l.rows.rows ≡ l.fn.rows.rows;
  documents : l.rows.documents ≡ (lent_row l.row).documents;
  frequencies : l.rows.frequencies ≡ (lent_row l.row).frequencies;
  positions : l.rows.positions ≡ take l.position-index (lent_row l.row).positions;
}
