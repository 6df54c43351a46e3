use Rattle.std.proofs.Common.{◌≡◌, ◌+◌, ◌-◌, ap, sym, ◌∙◌, arith}
use Rattle.qm_store.specs.RowBytes.{gaps_at, in_front_of_all}
use Rattle.qm_store.proofs.GapBytes.{ends, goes-on, stops}
use Rattle.qm_store.proofs.row_bytes.read_positions.Goals as goal

pub returns-in_default-clause-read : goal.returns-in_default-clause-read
returns-in_default-clause-read c =
    let at = c.loop-place in
    stops at.rows.positions at.rest.now (c.args.count - at.place) at.low _ at.invariant.whole (omega (arith, c.loop-place-test.true)) (sym c.in_default.ensures.read)

pub loop-place-preserved : goal.loop-place-preserved
loop-place-preserved c =
    let at = c.loop-place in
    let left = c.args.count - at.place in
    let position = c.in-Some.position in
    let behind = c.in-Some.behind.now in
    let more = c.in_ok-push_position.ensures.added in
    let e : c.args.count - (at.place + 1) ≡ left - 1 = omega arith in
    record {
      whole =
          (λ i. in_front_of_all (more i).positions (gaps_at (e i) (position + 1) behind))
          ∙ goes-on at.rows.positions at.rest.now left at.low _ at.invariant.whole (omega (arith, c.loop-place-test.true)) position behind
          (sym c.in-Some.ensures.read);
      kept = record {
        rows = ap (λ b. b.rows) more ∙ at.invariant.kept.rows;
        documents = ap (λ b. b.documents) more ∙ at.invariant.kept.documents;
        frequencies = ap (λ b. b.frequencies) more ∙ at.invariant.kept.frequencies;
      };
    }

pub returns-clause-read : goal.returns-clause-read
returns-clause-read c =
    let at = c.loop-place in
    ends at.rows.positions at.rest.now (c.args.count - at.place) at.low _ at.invariant.whole (omega (arith, c.loop-place-test.false, at.auto.place-end))
