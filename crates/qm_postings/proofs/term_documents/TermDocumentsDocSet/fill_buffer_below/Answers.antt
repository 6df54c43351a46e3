-- The buffer takes the documents up to the place that was found.
use Rattle.std.proofs.Common.{◌≡◌, ◌-◌, ◌+◌, length, map, take, drop, ap, arith, sym, ◌∙◌, length-drop, take_all}
use Rattle.std.proofs.lemmas.List.{take-append-le, length-take}
use Rattle.qm_docset.specs.DocumentsFacts.{AreEntries-documents}
use Rattle.qm_docset.specs.Entry.{no_limits, plain}
use Rattle.qm_docset.proofs.Plain.{documents-plain}
use Rattle.qm_docset.proofs.PlacesLeft.{left_on, taken}
use Rattle.qm_postings.proofs.term_documents.TermDocumentsDocSet.fill_buffer_below.Goals as goal

pub returns-clause-count : goal.returns-clause-count
returns-clause-count c =
    let docs = c.args.self.now.documents.now in
    omega (
      arith,
      c.end_below-end.ensures.place (map plain docs) no_limits (documents-plain docs) (AreEntries-documents 0 docs c.requires.valid.documents),
    )

pub returns-clause-documents : goal.returns-clause-documents
returns-clause-documents c =
    let docs = c.args.self.now.documents.now in
    let at = c.args.self.now.cursor in
    let count = c.end_below-end.result - at in
    let copy = c.copy_from_slice.new.self in
    let part : copy ≡ take count (drop at docs) = c.copy_from_slice.ensures.after in
    let long : length copy ≡ count = ap length part ∙ length-take count (drop at docs) ∙ omega (arith, length-drop at docs, c.end_below-end.ensures.within) in
    take-append-le count copy _ (omega (arith, long)) ∙ take_all count copy (omega (arith, long)) ∙ part
    ∙ taken count at count (map plain docs) docs (documents-plain docs) (omega (arith, c.end_below-end.ensures.within))

pub returns-clause-left : goal.returns-clause-left
returns-clause-left c =
    let es = map plain c.args.self.now.documents.now in
    let at = c.args.self.now.cursor in
    let on : at + (c.end_below-end.result - at) ≡ c.end_below-end.result = omega (arith, c.end_below-end.ensures.from_start) in
    record {
      entries = ap (λ n. drop n es) (sym on) ∙ left_on (c.end_below-end.result - at) at es;
      valid = record { within = c.end_below-end.ensures.within; documents = c.requires.valid.documents };
    }
