-- The block behind a quiet one is quiet where its bound is not above the threshold, and is one block more.
use Rattle.std.proofs.Common.{◌≡◌, ◌∙◌, ℕ, ◌+◌, ◌≤ℤ◌, ap, arith, inl, inr, pos, refl, of_z, subst, suc, sym, to_z, w64}
use Rattle.std.proofs.lemmas.Bool.{cases_lt}
use Rattle.std.proofs.lemmas.Int.{to_z-of_z}
use Rattle.qm_term.specs.Members.{Block, bound_at, end_at}
use Rattle.qm_term.specs.Pivot.{head, looked_at}
use Rattle.qm_term.specs.RunScorers.{wand_member}
use Rattle.qm_term.specs.SingleRun.{PassesBlocks}
use Rattle.qm_term.proofs.BlocksLeft.{fills_bounded}
use Rattle.qm_term.proofs.BlocksPassed.{passes_block, passes_first}
use Rattle.qm_term.proofs.RunRows.{law, same_end, top_le}
use Rattle.qm_term.proofs.WandBounds.{end_at_le}
use Rattle.qm_term.proofs.WandSingle.{looks_behind, quiet_block}
use Rattle.qm_term.proofs.wand.single.quiet_blocks.Goals as goal

pub loop-end-init : goal.loop-end-init
loop-end-init g c =
    let m = wand_member c.args.scorer.now in
    let r = c.requires in
    let is : to_z w64 (of_z w64 c.args.threshold) ≡ c.args.threshold = to_z-of_z w64 c.args.threshold c.ranges.threshold in
    record {
      valid = r.valid;
      same = refl;
      from = omega arith;
      on = omega (arith, r.end, end_at_le (head m) m.blocks (omega (arith, r.below)));
      stop = ap (λ d. end_at d m.blocks) r.end
          ∙ same_end (head m) (end_at (head m) m.blocks) m.blocks (end_at_le (head m) m.blocks (omega (arith, r.below))) (omega arith) ∙ sym r.end;
      some = omega arith;
      few = omega arith;
      passed = rw is (subst (λ (d : ℕ). PassesBlocks c.args.threshold (suc d) 1 m) (sym r.end)
          (passes_first c.args.threshold m (law c.args.scorer.now r.valid) r.below (rw (← r.bound) r.low)));
      quiet = λ d from to. rw is (quiet_block c.args.threshold (head m) m (rw (← r.bound) r.low) d from (omega (arith, r.end)));
    }

pub is_above-requires : goal.is_above-requires
is_above-requires g c =
    let m = wand_member c.args.scorer.now in
    let had = c.loop-end.invariant in
    let old = had.same in
    let looks = c.seek_block.ensures.looked ∙ ap (looked_at (c.loop-end.end + 1)) old
    ∙ looks_behind (c.loop-end.end + 1) m (omega (arith, had.on)) (omega (arith, c.requires.below)) in
    let h = law c.args.scorer.now c.requires.valid in
    omega (arith, c.look-next.ensures.bound, ap (λ (b : Block). b.bound) looks, h.bounds (c.loop-end.end + 1), top_le c.args.scorer.now)

pub loop-end-smaller : goal.loop-end-smaller
loop-end-smaller g c =
    let m = wand_member c.args.scorer.now in
    let had = c.loop-end.invariant in
    let old = had.same in
    let looks = c.seek_block.ensures.looked ∙ ap (looked_at (c.loop-end.end + 1)) old
    ∙ looks_behind (c.loop-end.end + 1) m (omega (arith, had.on)) (omega (arith, c.requires.below)) in
    omega (
      arith,
      c.look-next.ensures.end,
      ap (λ (b : Block). b.last) looks,
      end_at_le (c.loop-end.end + 1) m.blocks (omega (arith, c.loop-end-test.true)),
      c.loop-end-test.true,
    )

pub loop-end-preserved : goal.loop-end-preserved
loop-end-preserved g c =
    let m = wand_member c.args.scorer.now in
    let th = c.args.threshold in
    let is : to_z w64 (of_z w64 th) ≡ th = to_z-of_z w64 th c.ranges.threshold in
    let had = c.loop-end.invariant in
    let next = c.loop-end.end + 1 in
    let old = had.same in
    let looks = c.seek_block.ensures.looked ∙ ap (looked_at next) old
    ∙ looks_behind next m (omega (arith, had.on)) (omega (arith, c.requires.below)) in
    let end : c.look-next.result.end ≡ end_at next m.blocks = c.look-next.ensures.end ∙ ap (λ (b : Block). b.last) looks in
    let bound : c.look-next.result.bound ≡ bound_at next m.blocks = c.look-next.ensures.bound ∙ ap (λ (b : Block). b.bound) looks in
    let low : pos (bound_at next m.blocks) ≤ℤ to_z w64 (of_z w64 th) = rw (← bound) (c.is_above.ensures.no c.if-is_above.false) in
    let up = end_at_le next m.blocks (omega (arith, c.loop-end-test.true)) in
    let fills = fills_bounded c.args.scorer.now c.requires.valid c.loop-end.end had.on c.loop-end-test.true had.stop in
    let behind : next ≡ suc c.loop-end.end = omega arith in
    let there : end_at next m.blocks ≡ end_at (suc c.loop-end.end) m.blocks = ap (λ d. end_at d m.blocks) behind in
    let stands : suc (end_at (suc c.loop-end.end) m.blocks) ≡ suc c.look-next.result.end = omega (arith, end, there) in
    let count : suc c.loop-end.blocks ≡ c.loop-end.blocks + 1 = omega arith in
    record {
      valid = c.seek_block.ensures.valid;
      same = c.seek_block.ensures.member ∙ old;
      from = omega (arith, had.from, end, up);
      on = omega (arith, had.on, end, up);
      stop = ap (λ d. end_at d m.blocks) end ∙ same_end next (end_at next m.blocks) m.blocks up (omega arith) ∙ sym end;
      some = omega arith;
      few = omega (arith, had.few, end, up);
      passed =
          subst (λ (d : ℕ). PassesBlocks (to_z w64 (of_z w64 th)) d (c.loop-end.blocks + 1) m) stands
          (subst (λ (n : ℕ). PassesBlocks (to_z w64 (of_z w64 th)) (suc (end_at (suc c.loop-end.end) m.blocks)) n m) count
          (passes_block (to_z w64 (of_z w64 th)) (suc c.loop-end.end) c.loop-end.blocks m (law c.args.scorer.now c.requires.valid)
          fills.0 fills.1 (subst (λ (d : ℕ). pos (bound_at d m.blocks) ≤ℤ to_z w64 (of_z w64 th)) behind low) had.passed));
      quiet = λ d from to. elim (cases_lt c.loop-end.end d) [
        | inl behind ↦ quiet_block (to_z w64 (of_z w64 th)) next m low d (omega arith) (omega (arith, end))
        | inr before ↦ had.quiet d from before
      ];
    }

pub returns-after-loop-end-clause-quiet : goal.returns-after-loop-end-clause-quiet
returns-after-loop-end-clause-quiet g c =
    let is : to_z w64 (of_z w64 c.args.threshold) ≡ c.args.threshold = to_z-of_z w64 c.args.threshold c.ranges.threshold in
    λ d from to. rw is at (c.loop-end.invariant.quiet d from to)

pub returns-after-loop-end-clause-passed : goal.returns-after-loop-end-clause-passed
returns-after-loop-end-clause-passed g c =
    let is : to_z w64 (of_z w64 c.args.threshold) ≡ c.args.threshold = to_z-of_z w64 c.args.threshold c.ranges.threshold in
    subst (λ t. PassesBlocks t (suc c.loop-end.end) c.loop-end.blocks (wand_member c.args.scorer.now)) is c.loop-end.invariant.passed

pub returns-then-is_above-clause-quiet : goal.returns-then-is_above-clause-quiet
returns-then-is_above-clause-quiet g c =
    let is : to_z w64 (of_z w64 c.args.threshold) ≡ c.args.threshold = to_z-of_z w64 c.args.threshold c.ranges.threshold in
    λ d from to. rw is at (c.loop-end.invariant.quiet d from to)

pub returns-then-is_above-clause-passed : goal.returns-then-is_above-clause-passed
returns-then-is_above-clause-passed g c =
    let is : to_z w64 (of_z w64 c.args.threshold) ≡ c.args.threshold = to_z-of_z w64 c.args.threshold c.ranges.threshold in
    subst (λ t. PassesBlocks t (suc c.loop-end.end) c.loop-end.blocks (wand_member c.args.scorer.now)) is c.loop-end.invariant.passed
