-- What the block looked at bounds.
use Rattle.std.proofs.Common.{◌≡◌, ◌∙◌, ap, arith}
use Rattle.qm_combine.proofs.EachMember.{score_cast}
use Rattle.qm_term.specs.Members.{Block}
use Rattle.qm_term.specs.Pivot.{looked_at}
use Rattle.qm_term.specs.TermBlocks.{member_of, scored_looked}
use Rattle.qm_term.proofs.SharedRuns.{looks_bounds, looks_on}
use Rattle.qm_term.proofs.WandMembers.{IsMember-scorer, looks-member}
use Rattle.qm_term.proofs.wand.conjunction.look_from.Goals as goal

pub returns-clause-past : goal.returns-clause-past
returns-clause-past g c =
    let s = c.args.scorer.now in
    let looks : scored_looked c.seek_block.new.self ≡ looked_at c.args.doc (member_of s) = c.seek_block.ensures.looked ∙ looks-member c.args.doc s in
    omega (
      arith,
      c.min.ensures,
      c.saturating_add.ensures,
      c.last_doc_in_block.ensures,
      ap (λ (b : Block). b.last) looks,
      looks_on c.args.doc (member_of s) c.requires.below,
      c.requires.below,
    )

pub returns-clause-bounded : goal.returns-clause-bounded
unfolding member_of
returns-clause-bounded g c = λ k d l past within.
    let s = c.args.scorer.now in
    let looks : scored_looked c.seek_block.new.self ≡ looked_at c.args.doc (member_of s) = c.seek_block.ensures.looked ∙ looks-member c.args.doc s in
    let all = looks_bounds c.args.doc (member_of s) (IsMember-scorer s c.requires.valid) in
    omega (
      arith,
      score_cast c.block_max_score.result _ c.block_max_score.ensures.bound c.block_max_score.type_inv,
      ap (λ (b : Block). b.bound) looks,
      all k d l past (omega (arith, within, c.min.ensures, c.saturating_add.ensures, c.last_doc_in_block.ensures, ap (λ (b : Block). b.last) looks)),
    )
