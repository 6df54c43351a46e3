-- All that a buffer has room for is below the bound, or the place of the first that is not is searched for.
use Rattle.std.proofs.Common.{ℕ, ◌+◌, ◌-◌, ◌<◌, ◌≤◌, drop, get_or, length, arith, inl, inr}
use Rattle.std.proofs.lemmas.Bool.{cases_lt}
use Rattle.std.proofs.lemmas.List.{get_or-take, length-take-le}
use Rattle.qm_docset.specs.BelowFacts.{length-below-most}
use Rattle.qm_docset.proofs.GallopFacts.{rises}
use Rattle.qm_docset.proofs.PlacesLeft.{below_least, below_up_to, count_left}
use Rattle.qm_postings.proofs.end_below.end_below.Goals as goal
use Rattle.qm_postings.proofs.end_below.end_below.Goals.{then-most-eq0-via-then-most-eq0, then-most-eq0-via-else-most-eq0+then-docs-end}

pub returns-then-most-eq0-clause-place : goal.returns-then-most-eq0-clause-place
returns-then-most-eq0-clause-place c = λ es limits named entries.
    let start = c.args.start in
    let docs = c.args.docs.now in
    let few = length-below-most c.args.bound (drop start es) in
    let all = count_left start es docs named in
    elim c.then-most-eq0.branch [
      | then-most-eq0-via-then-most-eq0 w ↦ omega (arith, few, all, w.if-most-eq0.true, c.min-most.ensures)
      | then-most-eq0-via-else-most-eq0+then-docs-end w ↦
          let end = start + c.min-most.result in
          let rising = rises docs c.requires.documents.ascending in
          let least = below_least c.args.bound start end es docs named (omega arith) (omega (arith, c.min-most.ensures, c.requires.start))
          (λ k up less. omega (
            arith,
            rising k (end - 1) (omega arith) (omega (arith, c.min-most.ensures, c.requires.start)),
            w.if-docs-end.true,
          )) in
          omega (arith, few, all, least, c.min-most.ensures)
    ]

pub returns-clause-place : goal.returns-clause-place
returns-clause-place c = λ es limits named entries.
    let start = c.args.start in
    let docs = c.args.docs.now in
    let found = c.gallop.ensures in
    let place = c.gallop.result in
    let end = start + c.min-most.result in
    let most : end ≤ length docs = omega (arith, c.min-most.ensures, c.requires.start) in
    let long = length-take-le end docs most in
    let passed : (k : ℕ) → start ≤ k → k < place → get_or docs k 0 < c.args.bound = λ k up less.
    omega (arith, found.passed k up less, get_or-take end docs k 0 (omega (arith, found.within, long))) in
    let inside : place < end = elim (cases_lt place end) [
      | inl less ↦ less
      | inr past ↦ absurd (omega (arith, passed (end - 1) (omega (arith, c.if-most-eq0.false)) (omega (arith, c.if-most-eq0.false)), c.if-docs-end.false))
    ] in
    let count = below_up_to c.args.bound start place es docs named found.from_start (omega (arith, inside, most)) passed
    limits entries (λ more. omega (arith, found.reached (omega (arith, long, inside)), get_or-take end docs place 0 inside)) in
    omega (arith, count, found.from_start, inside, c.min-most.ensures)
