use Rattle.std.proofs.Common.{◌≡◌, ◌+◌, ◌++◌, ◌≤◌, take, vec_capacity, vec_len}
use Rattle.qm_postings.specs.Positions.{shifted}
use Rattle.cases_postings.proofs.own_postings.OwnPostingsPostings.append_positions_with_offset.Given as goal

abbrev pub invariant-loop-position : goal.invariant-loop-position
invariant-loop-position l = record {
  items : l.output.items ≡ l.fn.output.items ++ shifted l.offset (take l.position-index l.fn.self.positions.items);
  longer : vec_len l.output ≡ vec_len l.fn.output + l.position-index;
  capacity : vec_capacity l.fn.output ≤ vec_capacity l.output;
}
