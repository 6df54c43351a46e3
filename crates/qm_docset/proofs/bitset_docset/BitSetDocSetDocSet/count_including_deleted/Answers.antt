use Rattle.std.proofs.Common.{◌≡◌, ◌+◌, ◌*◌, ◌≤◌, length, arith, ◌∙◌}
use Rattle.qm_docset.specs.BitSet.{set_has, set_max_value}
use Rattle.qm_docset.specs.Members.{members_between}
use Rattle.qm_docset.proofs.BitSetLemmas.{length-word_more}
use Rattle.qm_docset.proofs.CountMembers.{length-from, count_all, none_at_end}
use Rattle.qm_docset.proofs.MembersLemmas.{length-members_between}
use Rattle.qm_docset.proofs.bitset_docset.BitSetDocSetDocSet.count_including_deleted.Goals as goal
use Rattle.qm_docset.proofs.bitset_docset.BitSetDocSetDocSet.count_including_deleted.Goals.{After-len-count-in-loop-bucket}

pub loop-bucket-init : goal.loop-bucket-init
loop-bucket-init c = c.len-count.ensures ∙ length-from c.args.self.now.docs c.args.self.now.doc c.word_from.result c.word_from.ensures.members

more : (c : After-len-count-in-loop-bucket) → c.loop-bucket.count + c.len-count-in-loop-bucket.result
    ≡ length (members_between (set_has c.args.self.now.docs) c.args.self.now.doc (64 * (c.loop-bucket.bucket + 1)))
more c =
    let set = c.args.self.now in
    let next = length-word_more (set_has set.docs) c.tinyset.result set.doc c.loop-bucket.bucket (omega arith) c.tinyset.ensures in
    omega arith

pub overflow_add-count : goal.overflow_add-count
overflow_add-count c =
    let set = c.args.self.now in
    let all = more (goal.at.overflow_add-count c).After-len-count-in-loop-bucket in
    let short = length-members_between (set_has set.docs) set.doc (64 * (c.loop-bucket.bucket + 1)) in
    omega (arith, c.requires.valid.documents, c.max_value.ensures, c.div_ceil-bucket-end.ensures)

pub loop-bucket-preserved : goal.loop-bucket-preserved
loop-bucket-preserved c = more (goal.at.loop-bucket-preserved c).After-len-count-in-loop-bucket

pub returns-clause-count : goal.returns-clause-count
returns-clause-count c =
    let set = c.args.self.now in
    let past : set_max_value set.docs ≤ 64 * c.loop-bucket.bucket = omega (arith, c.max_value.ensures, c.div_ceil-bucket-end.ensures) in
    c.loop-bucket.invariant ∙ count_all set.docs set.doc (64 * c.loop-bucket.bucket) past

pub returns-clause-entries : goal.returns-clause-entries
returns-clause-entries c = c.go_to.ensures.entries ∙ none_at_end c.args.self.now.docs c.requires.valid.documents
