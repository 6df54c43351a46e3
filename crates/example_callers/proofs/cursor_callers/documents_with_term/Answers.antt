-- The index shows of the term what the segment has of it.
use Rattle.std.proofs.Common.{◌≡◌, ap, sym, ◌∙◌}
use Rattle.std.proofs.lemmas.Result.{IfOk-weaker}
use Rattle.qm_docset.specs.Entry.{documents}
use Rattle.qm_docset.proofs.Plain.{documents-plain}
use Rattle.qm_postings.specs.FieldIndex.{FieldIndex, shown}
use Rattle.qm_postings.specs.Segment.{holders}
use Rattle.qm_weight.proofs.Leaves.{nothing_left}
use Rattle.example_callers.proofs.cursor_callers.documents_with_term.Goals as goal
use Rattle.example_callers.proofs.cursor_callers.documents_with_term.Goals.{After-read_documents}

holders-same : (c : After-read_documents) → holders (shown c.inverted_index.result).reader.segment c.args.term.now ≡ holders c.args.reader.now.segment c.args.term.now
holders-same c = λ i. holders (c.inverted_index.ensures i).reader.segment c.args.term.now

pub returns-in-Some : goal.returns-in-Some
returns-in-Some c =
    let cursor = c.in-Some.ensures.lists in
    IfOk-weaker c.documents_left.result _ _
    (λ found is. is ∙ ap documents cursor.entries ∙ documents-plain _ ∙ holders-same (goal.at.returns-in-Some c).After-read_documents)
    c.documents_left.ensures

pub returns-in-None : goal.returns-in-None
returns-in-None c =
    let field = sym c.field.ensures ∙ sym (ap (λ (u : FieldIndex). u.field) c.inverted_index.ensures) in
    let same = holders-same (goal.at.returns-in-None c).After-read_documents in
    c.new.ensures.items ∙ sym (nothing_left _ (λ some. c.in-None.ensures.held.1 (field, λ none. some (sym same ∙ none))))
