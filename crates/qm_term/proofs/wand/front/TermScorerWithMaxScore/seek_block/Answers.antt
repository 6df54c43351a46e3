use Rattle.std.proofs.Common.{◌∙◌, ap, sym}
use Rattle.qm_term.specs.RunScorers.{looked_by, wand_member}
use Rattle.qm_term.proofs.WandMembers.{looks-member, same-member}
use Rattle.qm_term.specs.TermScorerFacts.{ScoresAs-self}
use Rattle.qm_term.proofs.wand.front.TermScorerWithMaxScore.seek_block.Goals as goal

pub returns-clause-valid : goal.returns-clause-valid
returns-clause-valid g c = record { valid = c.seek_block.ensures.valid; top = c.requires.valid.top ∙ ap (λ l. l.top) (sym c.seek_block.ensures.limits) }

pub returns-clause-member : goal.returns-clause-member
unfolding wand_member
returns-clause-member g c = same-member c.args.self.now.scorer c.seek_block.new.self
    (c.seek_block.ensures.kept c.args.self.now.scorer (ScoresAs-self c.args.self.now.scorer)).blocks c.seek_block.ensures.limits c.seek_block.ensures.entries

pub returns-clause-looked : goal.returns-clause-looked
unfolding wand_member looked_by
returns-clause-looked g c = c.seek_block.ensures.looked ∙ looks-member c.args.target c.args.self.now.scorer
