use Rattle.std.proofs.Common.{◌≡◌, ◌≤◌, ◌++◌, drop, take}
use Rattle.std.specs.Prelude.{All}
use Rattle.qm_postings.specs.LentRow.{lent_row}
use Rattle.qm_postings.specs.Segment.{AscendFrom}
use Rattle.qm_store.specs.RowBytes.{postings_bytes}
use Rattle.qm_store.proofs.row_bytes.push_postings.Given as goal

abbrev pub invariant-loop-place : goal.invariant-loop-place
invariant-loop-place l =
    let r = lent_row l.row in
    record {
      added : l.out.items ++ postings_bytes l.low (drop l.place r.documents) (drop l.place r.frequencies)
          ≡ l.fn.out.items ++ postings_bytes 0 r.documents r.frequencies;
      ascending : AscendFrom l.low (drop l.place r.documents);
      small : All (λ f. f ≤ 4294967295) (take l.place r.frequencies);
    }
