use Rattle.std.proofs.Common.{◌≡◌, ℕ, ◌+◌, ◌≤◌, ◌||◌, take, vec_capacity, vec_len}
use Rattle.std.specs.List.{sum_by}
use Rattle.qm_docset.specs.Lists.{ArePlaced, bounds, lists}
use Rattle.qm_postings.specs.Positions.{is_in}
use Rattle.qm_phrase.specs.PostingUnions.{entries_at}
use Rattle.qm_phrase.proofs.UnitedMembers.{has_shifted}
use Rattle.qm_phrase.proofs.union.members.append_positions.Given as goal

abbrev pub invariant-loop-member : goal.invariant-loop-member
invariant-loop-member g l = record {
  placed : ArePlaced g.P.DocSet l.members;
  entries : lists g.P.DocSet l.members ≡ lists g.P.DocSet l.fn.members;
  limits : bounds g.P.DocSet l.members ≡ bounds g.P.DocSet l.fn.members;
  added : (x : ℕ) →
      is_in x l.output.items ≡ (is_in x l.fn.output.items || has_shifted l.offset (entries_at l.doc (take l.member-index (lists g.P.DocSet l.fn.members))) x);
  longer : vec_len l.output ≤ vec_len l.fn.output + sum_by (λ limits. limits.room) (take l.member-index (bounds g.P.DocSet l.fn.members));
  capacity : vec_capacity l.fn.output ≤ vec_capacity l.output;
}
