use Rattle.std.proofs.Common.{refl, ap, ◌∙◌, arith}
use Rattle.qm_postings.specs.Segment.{with_deleted, without}
use Rattle.qm_index.proofs.Marks.{marked_before, marked_before-all, marked_before-more, marked_before-none, marked_before-same}
use Rattle.qm_index.proofs.open_document.delete_marked.Goals as goal
use Rattle.qm_index.proofs.open_document.delete_marked.Goals.{then-document+in_ok-delete, else-document}

pub loop-document-init : goal.loop-document-init
loop-document-init c = record { number = refl; deleted = marked_before-none c.args.documents.now c.args.builder.now c.requires.none }

pub loop-document-preserved : goal.loop-document-preserved
loop-document-preserved c =
    let ds = c.args.documents.now in
    let i = c.loop-document.document-index in
    let x = c.document-item.result in
    let before = c.args.builder.now in
    record {
      number = omega (arith, c.loop-document.invariant.number);
      deleted = elim c.if-document.branch [
        | then-document+in_ok-delete w ↦ w.builder-is ∙ w.in_ok-delete.ensures.deleted
            ∙ ap (λ b. with_deleted b c.loop-document.doc) c.loop-document.invariant.deleted
            ∙ ap (with_deleted (without (marked_before ds i) before)) c.loop-document.invariant.number
            ∙ marked_before-more ds i x c.loop-document-test.true c.document-item.is before c.requires.all w.if-document.true
        | else-document w ↦ w.builder-is ∙ c.loop-document.invariant.deleted
            ∙ marked_before-same ds i x c.loop-document-test.true c.document-item.is before w.if-document.false
      ];
    }

pub returns-clause-deleted : goal.returns-clause-deleted
returns-clause-deleted c =
    c.loop-document.invariant.deleted
    ∙ marked_before-all c.args.documents.now c.loop-document.document-index c.args.builder.now (omega arith)
