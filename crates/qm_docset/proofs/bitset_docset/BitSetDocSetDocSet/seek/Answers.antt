use Rattle.std.proofs.Common.{map, sym, ap, ◌∙◌}
use Rattle.qm_docset.specs.BitSet.{set_members_from}
use Rattle.qm_docset.specs.Entry.{plain}
use Rattle.qm_docset.proofs.BitSetMembers.{members-from}
use Rattle.qm_docset.proofs.bitset_docset.BitSetDocSetDocSet.seek.Goals as goal

pub returns-clause-entries : goal.returns-clause-entries
returns-clause-entries c =
    let docs = c.args.self.now.docs in
    c.go_to.ensures.entries ∙ ap (λ low. map plain (set_members_from docs low)) c.max.ensures ∙ sym (members-from docs c.args.self.now.doc c.args.target)
