-- Blocks whose bounds are not above the threshold are passed, or documents are scored.
use Rattle.std.proofs.Common.{◌≡◌, ◌∙◌, ◌≤◌, ◌<ℤ◌, length, pos, refl, ap, arith, inl, of_z, to_z, subst, w64}
use Rattle.std.proofs.lemmas.Int.{to_z-of_z}
use Rattle.qm_term.specs.Members.{IsMember, Member, bound_at, end_at}
use Rattle.qm_term.specs.Pivot.{cut, head}
use Rattle.qm_term.specs.RunScorers.{wand_member}
use Rattle.qm_term.specs.SingleRun.{PassesBlocks}
use Rattle.qm_term.proofs.BlocksPassed.{passes_fewer, passes_to}
use Rattle.qm_docset.proofs.Gathering.{head_document-from}
use Rattle.qm_term.proofs.RunRows.{law, top_le}
use Rattle.qm_term.proofs.WandBounds.{end_at_le}
use Rattle.qm_term.proofs.wand.single.single_turn.Goals as goal

pub is_above-requires : goal.is_above-requires
is_above-requires g c =
    let m = wand_member c.args.scorer.now in
    let h = law c.args.scorer.now c.requires.valid in
    omega (arith, c.requires.bound, h.bounds c.args.doc, top_le c.args.scorer.now)

pub quiet_blocks-quiet-requires : goal.quiet_blocks-quiet-requires
quiet_blocks-quiet-requires g c =
    let m = wand_member c.args.scorer.now in
    record {
      valid = c.requires.valid;
      below = omega (arith, c.requires.below, c.requires.here);
      end = c.requires.end ∙ ap (λ d. end_at d m.blocks) c.requires.here;
      bound = c.requires.bound ∙ ap (λ d. bound_at d m.blocks) c.requires.here;
      low = c.is_above.ensures.no c.if-is_above.false;
    }

pub returns-clause-fewer : goal.returns-clause-fewer
returns-clause-fewer g c =
    let m = wand_member c.args.scorer.now in
    let th = c.args.threshold in
    let is : to_z w64 (of_z w64 th) ≡ th = to_z-of_z w64 th c.ranges.threshold in
    let h : IsMember m = law c.args.scorer.now c.requires.valid in
    let passed = c.quiet_blocks-quiet.ensures in
    let quiet = c.quiet_blocks-quiet.result in
    let t = c.min.result in
    let list : wand_member c.seek.new.self ≡ cut t m = c.seek.ensures.member ∙ ap (cut t) passed.same in
    let to : PassesBlocks (to_z w64 (of_z w64 th)) t quiet.blocks m =
    passes_to (to_z w64 (of_z w64 th)) quiet.end t quiet.blocks m h (omega (arith, c.min.ensures, c.saturating_add.ensures)) passed.passed in
    omega (arith, ap (λ (n : Member). length n.entries) list, passes_fewer (to_z w64 (of_z w64 th)) t quiet.blocks m h to)

pub returns-clause-later : goal.returns-clause-later
returns-clause-later g c =
    let m = wand_member c.args.scorer.now in
    let h : IsMember m = law c.args.scorer.now c.requires.valid in
    let passed = c.quiet_blocks-quiet.ensures in
    let list : wand_member c.seek.new.self ≡ cut c.min.result m = c.seek.ensures.member ∙ ap (cut c.min.result) passed.same in
    let far : head m ≤ end_at (head m) m.blocks = end_at_le (head m) m.blocks (omega (arith, c.requires.below, c.requires.here)) in
    let end : c.args.known.end ≡ end_at (head m) m.blocks = c.requires.end ∙ ap (λ d. end_at d m.blocks) c.requires.here in
    omega (
      arith,
      ap head list,
      head_document-from c.min.result m.entries
          (omega (arith, c.min.ensures)),
      c.min.ensures,
      c.saturating_add.ensures,
      end,
      far,
      passed.from,
      c.requires.below,
      c.requires.here,
    )

pub returns-clause-turn : goal.returns-clause-turn
returns-clause-turn g c =
    let m = wand_member c.args.scorer.now in
    let th = c.args.threshold in
    let is : to_z w64 (of_z w64 th) ≡ th = to_z-of_z w64 th c.ranges.threshold in
    let h : IsMember m = law c.args.scorer.now c.requires.valid in
    let passed = c.quiet_blocks-quiet.ensures in
    let quiet = c.quiet_blocks-quiet.result in
    let t = c.min.result in
    let list : wand_member c.seek.new.self ≡ cut t m = c.seek.ensures.member ∙ ap (cut t) passed.same in
    let low = rw is at passed.quiet in
    let blocks = rw is at passed.passed in
    inl (record {
      quiet = (is, refl, refl);
      target = t;
      list = list;
      low = λ d from to. low d from (omega (arith, c.min.ensures, c.saturating_add.ensures));
      blocks = passes_to th quiet.end t quiet.blocks m h (omega (arith, c.min.ensures, c.saturating_add.ensures)) blocks;
    })

pub block_turn-requires-clause-above : goal.block_turn-requires-clause-above
block_turn-requires-clause-above g c =
    subst (λ n. to_z w64 (of_z w64 c.args.threshold) <ℤ pos n) c.requires.bound (c.is_above.ensures.yes c.if-is_above.true)

pub returns-then-is_above-clause-turn : goal.returns-then-is_above-clause-turn
returns-then-is_above-clause-turn g c = rw (to_z-of_z w64 c.args.threshold c.ranges.threshold) at c.block_turn.ensures.turn
