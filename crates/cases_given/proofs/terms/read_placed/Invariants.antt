use Rattle.std.proofs.Common.{All, IfSome, ◌≤◌}
use Rattle.cases_given.proofs.terms.read_placed.Given as goal

abbrev pub invariant-loop-word : goal.invariant-loop-word
invariant-loop-word l = record {
  next : IfSome l.offset (λ place. place ≤ l.greatest);
  read : All (λ pair. pair.0 ≤ l.greatest) l.terms.items;
}
