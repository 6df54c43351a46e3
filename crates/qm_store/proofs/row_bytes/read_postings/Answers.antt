use Rattle.std.proofs.Common.{◌≡◌, ◌<◌, ◌≤◌, ◌+◌, ◌-◌, ap, sym, ◌∙◌, arith, inl, inr}
use Rattle.qm_store.specs.RowBytes.{behind_both, postings_at}
use Rattle.qm_store.proofs.RowSteps.{ends, goes-on, passes, stops}
use Rattle.qm_store.proofs.row_bytes.read_postings.Goals as goal
use Rattle.qm_store.proofs.row_bytes.read_postings.Goals.{then-document-ge-LIMIT-via-then-document-ge-LIMIT, then-document-ge-LIMIT-via-else-document-ge-LIMIT+then-frequency-gt-LIMIT}

pub returns-in_default-clause-read : goal.returns-in_default-clause-read
returns-in_default-clause-read c =
    let at = c.loop-place in
    stops at.rows.documents at.rows.frequencies at.rest.now (c.args.count - at.place) at.low _ at.invariant.whole
    (omega (arith, c.loop-place-test.true)) (sym c.in_default.ensures.read)

pub returns-then-document-ge-LIMIT-clause-read : goal.returns-then-document-ge-LIMIT-clause-read
returns-then-document-ge-LIMIT-clause-read c =
    let at = c.loop-place in
    passes at.rows.documents at.rows.frequencies at.rest.now (c.args.count - at.place) at.low _ at.invariant.whole
    (omega (arith, c.loop-place-test.true)) c.in-Some.gap c.in-Some.frequency c.in-Some.behind.now (sym c.in-Some.ensures.read)
    (elim c.then-document-ge-LIMIT.branch [
      | then-document-ge-LIMIT-via-then-document-ge-LIMIT w ↦ inl w.if-document-ge-LIMIT.true
      | then-document-ge-LIMIT-via-else-document-ge-LIMIT+then-frequency-gt-LIMIT w ↦ inr w.if-frequency-gt-LIMIT.true
    ])

pub loop-place-preserved : goal.loop-place-preserved
loop-place-preserved c =
    let at = c.loop-place in
    let left = c.args.count - at.place in
    let less : at.low + c.in-Some.gap < 4294967295 = omega (arith, c.if-document-ge-LIMIT.false) in
    let few : c.in-Some.frequency ≤ 4294967295 = omega (arith, c.if-frequency-gt-LIMIT.false) in
    let e : c.args.count - (at.place + 1) ≡ left - 1 = omega arith in
    let low = at.low + c.in-Some.gap + 1 in
    let more = c.in_ok-push_posting.ensures.added in
    record {
      whole =
          (λ i. behind_both (more i).documents (more i).frequencies (postings_at (e i) low c.in-Some.behind.now))
          ∙ goes-on at.rows.documents at.rows.frequencies at.rest.now left at.low _ at.invariant.whole
          (omega (arith, c.loop-place-test.true)) c.in-Some.gap c.in-Some.frequency c.in-Some.behind.now (sym c.in-Some.ensures.read) less few;
      kept = record {
        rows = ap (λ b. b.rows) more ∙ at.invariant.kept.rows;
        positions = ap (λ b. b.positions) more ∙ at.invariant.kept.positions;
      };
      small = omega (arith, less);
    }

pub returns-clause-read : goal.returns-clause-read
returns-clause-read c =
    let at = c.loop-place in
    ends at.rows.documents at.rows.frequencies at.rest.now (c.args.count - at.place) at.low _ at.invariant.whole
    (omega (arith, c.loop-place-test.false, at.auto.place-end))
