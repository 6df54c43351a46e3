use Rattle.std.proofs.Common.{◌≡◌, take}
use Rattle.qm_docset.specs.Lists.{lists}
use Rattle.qm_phrase.specs.PostingUnions.{entries_at, united_frequency}
use Rattle.qm_phrase.proofs.union.members.frequency_at.Given as goal

abbrev pub invariant-loop-postings : goal.invariant-loop-postings
invariant-loop-postings g l = l.frequency ≡ united_frequency (entries_at l.doc (take l.postings-index (lists g.P.DocSet l.members)))
