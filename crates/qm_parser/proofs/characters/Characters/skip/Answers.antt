use Rattle.qm_parser.proofs.CharacterLemmas.{further}
use Rattle.qm_parser.proofs.characters.Characters.skip.Goals as goal

pub returns-then-self : goal.returns-then-self
returns-then-self c = further c.args.self.now.next c.args.self.now.characters.now
