use Rattle.std.proofs.Common.{◌∙◌, ap, sym}
use Rattle.qm_term.specs.RunScorers.{looked_by, wand_member}
use Rattle.qm_term.proofs.WandMembers.{head-member, looks-member, next-member}
use Rattle.qm_term.specs.TermScorerFacts.{ScoresAs-self}
use Rattle.qm_term.proofs.wand.front.TermScorerWithMaxScore.advance.Goals as goal

pub returns-clause-valid : goal.returns-clause-valid
returns-clause-valid g c = record { valid = c.advance.ensures.valid; top = c.requires.valid.top ∙ ap (λ l. l.top) (sym c.advance.ensures.limits) }

pub returns-clause-member : goal.returns-clause-member
unfolding wand_member
returns-clause-member g c = next-member c.args.self.now.scorer c.advance.new.self
    (c.advance.ensures.kept c.args.self.now.scorer (ScoresAs-self c.args.self.now.scorer)).blocks c.advance.ensures.limits c.advance.ensures.entries

pub returns-clause-looked : goal.returns-clause-looked
unfolding wand_member looked_by
returns-clause-looked g c = c.advance.ensures.looked ∙ looks-member 0 c.advance.new.self

pub returns-clause-answer : goal.returns-clause-answer
unfolding wand_member
returns-clause-answer g c = c.advance.ensures.head ∙ sym (head-member c.advance.new.self)

pub returns-clause-boost : goal.returns-clause-boost
returns-clause-boost g c = (c.advance.ensures.kept c.args.self.now.scorer (ScoresAs-self c.args.self.now.scorer)).boost
