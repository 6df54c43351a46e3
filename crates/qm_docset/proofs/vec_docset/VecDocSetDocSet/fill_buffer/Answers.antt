-- The buffer takes what is left of the list, or 64 documents of it.
use Rattle.std.proofs.Common.{◌≡◌, ◌-◌, ◌+◌, length, take, drop, ap, refl, arith, ◌∙◌, length-drop, take_all}
use Rattle.std.proofs.lemmas.List.{take-append-le, length-take}
use Rattle.qm_docset.proofs.Plain.{taken, left_behind}
use Rattle.qm_docset.proofs.vec_docset.VecDocSetDocSet.fill_buffer.Goals as goal

pub returns-clause-documents : goal.returns-clause-documents
returns-clause-documents c =
    let docs = c.args.self.now.docs.items in
    let at = c.args.self.now.cursor in
    let count = c.min-count.result in
    let copy = c.copy_from_slice.new.self in
    let width : at + count - at ≡ count = omega arith in
    let part : copy ≡ take count (drop at docs) = c.copy_from_slice.ensures.after
    ∙ ap (λ n. take n (drop at c.deref.result.now)) width ∙ ap (λ ds. take count (drop at ds)) c.deref.ensures.value in
    let long : length copy ≡ count = ap length part ∙ length-take count (drop at docs) ∙ omega (arith, length-drop at docs, c.args.self.now.docs.ok.0) in
    take-append-le count copy _ (omega arith) ∙ take_all count copy (omega arith) ∙ part ∙ taken 64 at count docs (omega (arith, c.args.self.now.docs.ok.0))

pub returns-clause-left : goal.returns-clause-left
returns-clause-left c = record {
  entries = left_behind 64 c.args.self.now.cursor c.min-count.result c.args.self.now.docs.items (omega (arith, c.args.self.now.docs.ok.0));
  valid = record { within = omega (arith, c.args.self.now.docs.ok.0); documents = c.requires.documents };
  len = refl;
}
