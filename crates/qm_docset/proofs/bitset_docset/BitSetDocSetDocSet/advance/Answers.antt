-- The first of the members behind the document is taken.
use Rattle.std.proofs.Common.{◌≡◌, drop, map, arith, ap, sym, ◌∙◌}
use Rattle.std.proofs.lemmas.List.{drop-map}
use Rattle.qm_docset.specs.BitSet.{members_left, set_members_from}
use Rattle.qm_docset.specs.BitSetDocSet.{remaining_members}
use Rattle.qm_docset.specs.BitSetDocSetFacts.{AreEntries-remaining}
use Rattle.qm_docset.specs.Entry.{head_document, no_limits, plain}
use Rattle.qm_docset.specs.EntryFacts.{AreEntries-drop, head_document-bounds}
use Rattle.qm_docset.proofs.BitSetMembers.{members-drop, head-of_entries}
use Rattle.qm_docset.proofs.bitset_docset.BitSetDocSetDocSet.advance.Goals as goal
use Rattle.qm_docset.proofs.bitset_docset.BitSetDocSetDocSet.advance.Goals.{After-unwrap_or-self}

next : (c : After-unwrap_or-self) → c.unwrap_or-self.result ≡ head_document (drop 1 (remaining_members c.args.self.now))
next c =
    let self = c.args.self.now in
    c.unwrap_or-self.ensures ∙ head-of_entries (members_left self.docs self.bucket self.word)
    (drop 1 (remaining_members self)) c.take_next.result c.requires.placed.behind c.take_next.ensures.next

left : (c : After-unwrap_or-self) → map plain (set_members_from c.args.self.now.docs c.unwrap_or-self.result) ≡ drop 1 (remaining_members c.args.self.now)
left c = rw (next c) (members-drop c.args.self.now.docs c.args.self.now.doc 1 c.requires.valid.documents)

here : (c : After-unwrap_or-self) → c.unwrap_or-self.result ≡ head_document (map plain (set_members_from c.args.self.now.docs c.unwrap_or-self.result))
here c = next c ∙ sym (ap head_document (left c))

pub returns-clause-head : goal.returns-clause-head
returns-clause-head c = here (goal.at.returns-clause-head c).After-unwrap_or-self

pub returns-clause-entries : goal.returns-clause-entries
returns-clause-entries c = left (goal.at.returns-clause-entries c).After-unwrap_or-self

pub returns-clause-valid : goal.returns-clause-valid
returns-clause-valid c =
    let self = c.args.self.now in
    let es = remaining_members self in
    let ends = head_document-bounds 0 no_limits (drop 1 es) (omega arith) (AreEntries-drop 1 0 no_limits es (AreEntries-remaining self c.requires.valid)) in
    record { documents = c.requires.valid.documents; within = omega (arith, next (goal.at.returns-clause-valid c).After-unwrap_or-self, ends.1) }

pub returns-clause-placed : goal.returns-clause-placed
returns-clause-placed c =
    let self = c.args.self.now in
    let at = (goal.at.returns-clause-placed c).After-unwrap_or-self in
    record {
      here = here at;
      behind = ap (map plain) c.take_next.ensures.left ∙ sym (drop-map plain 1 (members_left self.docs self.bucket self.word))
          ∙ ap (drop 1) (c.requires.placed.behind ∙ sym (left at));
      bucket = c.take_next.ensures.bucket;
    }
