-- The first member is taken out of those from the target on.
use Rattle.std.proofs.Common.{◌≡◌, ◌/◌}
use Rattle.qm_docset.specs.BitSet.{set_members_from, members_left}
use Rattle.qm_docset.proofs.BitSetMembers.{Lands}
use Rattle.qm_docset.proofs.MembersLeft.{left-from, lands_on_first, behind_first}
use Rattle.qm_docset.proofs.bitset_docset.BitSetDocSet.go_to.Goals as goal
use Rattle.qm_docset.proofs.bitset_docset.BitSetDocSet.go_to.Goals.{After-unwrap_or-self}

-- all members from the target on were left
left : (c : After-unwrap_or-self) →
    members_left c.args.self.now.docs (c.args.target / 64) c.word_from-self.result ≡ set_members_from c.args.self.now.docs c.args.target
left c = left-from c.args.self.now.docs c.args.target c.word_from-self.result c.word_from-self.ensures.members

landed : (c : After-unwrap_or-self) → Lands c.args.self.now.docs c.args.target c.unwrap_or-self.result
landed c =
    rw c.unwrap_or-self.ensures (lands_on_first c.args.self.now.docs c.requires.documents c.args.target
    (c.args.target / 64) c.word_from-self.result (left c) c.take_next.result c.take_next.ensures.next)

pub returns-clause-entries : goal.returns-clause-entries
returns-clause-entries c = (landed (goal.at.returns-clause-entries c).After-unwrap_or-self).entries

pub returns-clause-valid : goal.returns-clause-valid
returns-clause-valid c = record { documents = c.requires.documents; within = (landed (goal.at.returns-clause-valid c).After-unwrap_or-self).within }

pub returns-clause-placed : goal.returns-clause-placed
returns-clause-placed c =
    let at = (goal.at.returns-clause-placed c).After-unwrap_or-self in
    record {
      here = (landed at).placed;
      behind = behind_first c.args.self.now.docs c.requires.documents c.args.target (c.args.target / 64) c.word_from-self.result
          (left at) c.unwrap_or-self.result c.take_next.new.bucket c.take_next.new.word (landed at) c.take_next.ensures.left;
      bucket = c.take_next.ensures.bucket;
    }
