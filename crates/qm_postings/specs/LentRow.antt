-- A row as a segment lends it.
use Rattle.qm_postings.specs.Frequencies.{listed}
use Rattle.qm_postings.specs.Rows.{Row}
use Rattle.qm_postings.specs.declared.term_row.TermRowRef.{TermRowRef}

-- the row that is lent
abbrev pub lent_row : TermRowRef → Row
lent_row r = record { term = r.term.now; documents = r.documents.now; frequencies = listed r.frequencies; positions = r.positions.now }
