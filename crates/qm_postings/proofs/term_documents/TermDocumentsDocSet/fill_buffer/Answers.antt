-- The buffer takes what is left of the documents, or 64 of them.
use Rattle.std.proofs.Common.{◌≡◌, length, map, take, drop, ap, arith, ◌∙◌, length-drop, take_all}
use Rattle.std.proofs.lemmas.List.{take-append-le, length-map, length-take}
use Rattle.qm_docset.specs.Entry.{plain}
use Rattle.qm_docset.proofs.Plain.{documents-plain}
use Rattle.qm_docset.proofs.PlacesLeft.{left_behind, taken}
use Rattle.qm_postings.proofs.term_documents.TermDocumentsDocSet.fill_buffer.Goals as goal

pub returns-clause-documents : goal.returns-clause-documents
returns-clause-documents c =
    let docs = c.args.self.now.documents.now in
    let at = c.args.self.now.cursor in
    let count = c.min-count.result in
    let copy = c.copy_from_slice.new.self in
    let part : copy ≡ take count (drop at docs) = c.copy_from_slice.ensures.after ∙ ap (λ n. take n (drop at docs)) (omega arith) in
    let long : length copy ≡ count = ap length part ∙ length-take count (drop at docs) ∙ omega (arith, length-drop at docs) in
    take-append-le count copy _ (omega arith) ∙ take_all count copy (omega arith) ∙ part
    ∙ taken 64 at count (map plain docs) docs (documents-plain docs) (omega arith)

pub returns-clause-left : goal.returns-clause-left
returns-clause-left c = record {
  entries = left_behind 64 c.args.self.now.cursor c.min-count.result (map plain c.args.self.now.documents.now)
      (omega (arith, length-map c.args.self.now.documents.now plain));
  valid = record { within = omega arith; documents = c.requires.documents };
}
