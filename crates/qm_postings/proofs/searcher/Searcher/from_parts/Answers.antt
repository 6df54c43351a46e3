-- The test of neighbours decides whether the norms fall, and each refusal comes where its test fails.
use Rattle.std.proofs.Common.{arith, rules}
use Rattle.qm_postings.proofs.NormLemmas.{ascending, falling}
use Rattle.qm_postings.proofs.searcher.Searcher.from_parts.Goals as goal

pub returns-then-not-is_sorted-clause-bad_norms : goal.returns-then-not-is_sorted-clause-bad_norms
returns-then-not-is_sorted-clause-bad_norms c = (λ _. falling c.args.norms c.if-not-is_sorted.ensures.cases, λ _. search rules)

pub returns-then-not-is_sorted-clause-many : goal.returns-then-not-is_sorted-clause-many
returns-then-not-is_sorted-clause-many c = (λ e. cc, λ h. absurd (falling c.args.norms c.if-not-is_sorted.ensures.cases h.0))

pub returns-then-len-gt4294967295-clause-bad_norms : goal.returns-then-len-gt4294967295-clause-bad_norms
returns-then-len-gt4294967295-clause-bad_norms c = (λ e. cc, λ h. absurd (h (ascending c.args.norms c.if-not-is_sorted.ensures.cases)))

pub returns-then-len-gt4294967295-clause-many : goal.returns-then-len-gt4294967295-clause-many
returns-then-len-gt4294967295-clause-many c = (
  λ _. (
    ascending c.args.norms c.if-not-is_sorted.ensures.cases,
    omega (arith, c.len.ensures, c.if-len-gt4294967295.true, c.args.segments.ok.0),
  ),
  λ _. search rules,
)

pub invariant_of-result : goal.invariant_of-result
invariant_of-result c =
    (omega (arith, c.len.ensures, c.if-len-gt4294967295.false, c.args.segments.ok.0), ascending c.args.norms c.if-not-is_sorted.ensures.cases)

pub returns-clause-good : goal.returns-clause-good
returns-clause-good c =
    (ascending c.args.norms c.if-not-is_sorted.ensures.cases, omega (arith, c.len.ensures, c.if-len-gt4294967295.false, c.args.segments.ok.0))

pub returns-clause-bad_norms : goal.returns-clause-bad_norms
returns-clause-bad_norms c = (λ e. cc, λ h. absurd (h (ascending c.args.norms c.if-not-is_sorted.ensures.cases)))
