use Rattle.std.proofs.Common.{◌∙◌, ap, sym}
use Rattle.qm_term.specs.RunScorers.{looked_by, wand_member}
use Rattle.qm_term.proofs.WandMembers.{head-member, looks-member, cut-member}
use Rattle.qm_term.specs.TermScorerFacts.{ScoresAs-self}
use Rattle.qm_term.proofs.wand.front.TermScorerWithMaxScore.seek.Goals as goal

pub returns-clause-valid : goal.returns-clause-valid
returns-clause-valid g c = record { valid = c.seek.ensures.valid; top = c.requires.valid.top ∙ ap (λ l. l.top) (sym c.seek.ensures.limits) }

pub returns-clause-member : goal.returns-clause-member
unfolding wand_member
returns-clause-member g c = cut-member c.args.self.now.scorer c.seek.new.self
    (c.seek.ensures.kept c.args.self.now.scorer (ScoresAs-self c.args.self.now.scorer)).blocks c.seek.ensures.limits c.args.target c.seek.ensures.entries

pub returns-clause-looked : goal.returns-clause-looked
unfolding wand_member looked_by
returns-clause-looked g c = c.seek.ensures.looked ∙ looks-member 0 c.seek.new.self

pub returns-clause-answer : goal.returns-clause-answer
unfolding wand_member
returns-clause-answer g c = c.seek.ensures.head ∙ sym (head-member c.seek.new.self)
