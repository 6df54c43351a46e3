use Rattle.std.proofs.Common.{◌≡◌, ◌+◌, ◌*◌, ◌≤◌, ◌&&◌, length, arith, ap₂, ◌∙◌}
use Rattle.qm_docset.specs.AliveBitSet.{alive_docs}
use Rattle.qm_docset.specs.BitSet.{set_max_value}
use Rattle.qm_docset.specs.Members.{members_between}
use Rattle.qm_docset.proofs.BitSetLemmas.{length-word_more}
use Rattle.qm_docset.proofs.CountMembers.{both_have, both-word, length-both_from, count_alive, none_at_end}
use Rattle.qm_docset.proofs.MembersLemmas.{length-members_between}
use Rattle.qm_docset.proofs.bitset_docset.BitSetDocSetDocSet.count.Goals as goal
use Rattle.qm_docset.proofs.bitset_docset.BitSetDocSetDocSet.count.Goals.{After-len-count-in-loop-bucket}

pub loop-bucket-init : goal.loop-bucket-init
loop-bucket-init c =
    let set = c.args.self.now in
    c.len-count.ensures
    ∙ length-both_from set.docs (alive_docs c.args.alive.now) set.doc c.intersect.result
    (λ x. c.intersect.ensures x ∙ ap₂ (λ a b. a && b) (c.word_from.ensures.has x) (c.tinyset.ensures x))

more : (c : After-len-count-in-loop-bucket) → c.loop-bucket.count + c.len-count-in-loop-bucket.result
    ≡ length (members_between (both_have c.args.self.now.docs (alive_docs c.args.alive.now)) c.args.self.now.doc (64 * (c.loop-bucket.bucket + 1)))
more c =
    let set = c.args.self.now in
    let alive = alive_docs c.args.alive.now in
    let next = length-word_more (both_have set.docs alive) c.intersect-in-loop-bucket.result set.doc c.loop-bucket.bucket (omega arith)
    (λ x. c.intersect-in-loop-bucket.ensures x ∙ ap₂ (λ a b. a && b) (c.tinyset-in-loop-bucket.ensures x) (c.tinyset-in-loop-bucket-2.ensures x)
    ∙ both-word set.docs alive c.loop-bucket.bucket x) in
    omega arith

pub overflow_add-count : goal.overflow_add-count
overflow_add-count c =
    let set = c.args.self.now in
    let all = more (goal.at.overflow_add-count c).After-len-count-in-loop-bucket in
    let short = length-members_between (both_have set.docs (alive_docs c.args.alive.now)) set.doc (64 * (c.loop-bucket.bucket + 1)) in
    omega (arith, c.requires.valid.documents, c.max_value.ensures, c.div_ceil-bucket-end.ensures)

pub loop-bucket-preserved : goal.loop-bucket-preserved
loop-bucket-preserved c = more (goal.at.loop-bucket-preserved c).After-len-count-in-loop-bucket

pub returns-clause-count : goal.returns-clause-count
returns-clause-count c =
    let set = c.args.self.now in
    let past : set_max_value set.docs ≤ 64 * c.loop-bucket.bucket = omega (arith, c.max_value.ensures, c.div_ceil-bucket-end.ensures) in
    c.loop-bucket.invariant ∙ count_alive set.docs c.args.alive.now set.doc (64 * c.loop-bucket.bucket) past

pub returns-clause-entries : goal.returns-clause-entries
returns-clause-entries c = c.go_to.ensures.entries ∙ none_at_end c.args.self.now.docs c.requires.valid.documents
