-- It stands on the least of its members' documents.
use Rattle.std.proofs.Common.{◌∙◌}
use Rattle.qm_phrase.proofs.UnitedLists.{head_document-united}
use Rattle.qm_phrase.proofs.union.simple_union.SimpleUnionDocSet.doc.Goals as goal

pub returns : goal.returns
returns g c =
    let h = c.requires.valid in
    h.first ∙ head_document-united g.D.DocSet.valid g.D.DocSet.limits g.D.DocSet.entries g.met.D.DocSet.ascending c.args.self.now.members.items h.members.valid
