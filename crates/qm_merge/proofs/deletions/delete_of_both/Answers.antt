use Rattle.std.proofs.Common.{◌≡◌, ◌+◌, ◌<◌, ap, arith, length, sym, ◌∙◌}
use Rattle.qm_docset.specs.Members.{members_between}
use Rattle.qm_postings.specs.Reading.{Reader}
use Rattle.qm_postings.specs.Segment.{without}
use Rattle.qm_merge.specs.Merging.{was_deleted}
use Rattle.qm_merge.proofs.DeletedOfBoth.{delete-next, delete-none, delete-start, deleted-of_both}
use Rattle.qm_merge.proofs.deletions.delete_of_both.Goals as goal
use Rattle.qm_merge.proofs.deletions.delete_of_both.Goals.{else-was_deleted, then-was_deleted+in_ok-delete}

pub loop-doc-init : goal.loop-doc-init
loop-doc-init c = delete-start (was_deleted c.args.first.now.segment c.args.second.now.segment) c.args.segment.now.segment c.requires.none

pub loop-doc-preserved : goal.loop-doc-preserved
loop-doc-preserved c =
    let was = was_deleted c.args.first.now.segment c.args.second.now.segment in
    let base = c.args.segment.now.segment in
    let doc = c.loop-doc.doc in
    let below : doc < length base.documents = omega (arith, c.loop-doc-test.true, c.max_doc-doc-end.ensures.number) in
    elim c.if-was_deleted.branch [
      | then-was_deleted+in_ok-delete w ↦ rw w.segment-is (ap (λ (r : Reader). r.segment) w.in_ok-delete.ensures.deleted
          ∙ delete-next was c.loop-doc.segment.segment base doc c.loop-doc.invariant below (sym c.was_deleted.ensures ∙ w.if-was_deleted.true))
      | else-was_deleted w ↦ rw w.segment-is
          (delete-none was c.loop-doc.segment.segment base doc c.loop-doc.invariant (sym c.was_deleted.ensures ∙ w.if-was_deleted.false))
    ]

pub returns-clause-deleted : goal.returns-clause-deleted
returns-clause-deleted c =
    let s = c.args.first.now.segment in
    let t = c.args.second.now.segment in
    let end : c.loop-doc.doc ≡ length s.documents + length t.documents =
    omega (arith, c.loop-doc-test.false, c.loop-doc.auto.doc-end, c.max_doc-doc-end.ensures.number, c.requires.both) in
    c.loop-doc.invariant
    ∙ ap (λ ds. without ds c.args.segment.now.segment) (ap (members_between (was_deleted s t) 0) end ∙ deleted-of_both s t c.alive_bitset-in_first.ensures.ascending c.alive_bitset-in_second.ensures.ascending)
