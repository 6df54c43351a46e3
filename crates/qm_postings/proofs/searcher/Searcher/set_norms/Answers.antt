-- The test of neighbours decides whether the norms fall.
use Rattle.std.proofs.Common.{rules}
use Rattle.qm_postings.proofs.NormLemmas.{ascending, falling}
use Rattle.qm_postings.proofs.searcher.Searcher.set_norms.Goals as goal

pub returns-then-not-is_sorted-clause-bad_norms : goal.returns-then-not-is_sorted-clause-bad_norms
returns-then-not-is_sorted-clause-bad_norms c = (λ _. falling c.args.norms.now c.if-not-is_sorted.ensures.cases, λ _. search rules)

pub invariant_of-self : goal.invariant_of-self
invariant_of-self c = (c.self.invariant.0, ascending c.args.norms.now c.if-not-is_sorted.ensures.cases)

pub returns-clause-bad_norms : goal.returns-clause-bad_norms
returns-clause-bad_norms c = (λ e. cc, λ h. absurd (h (ascending c.args.norms.now c.if-not-is_sorted.ensures.cases)))
