use Rattle.std.proofs.Common.{◌-◌, List, All, ap, arith, drop, length, subst, sym, take}
use Rattle.std.proofs.lemmas.List.Elements.{All-drop, All-take}
use Rattle.qm_index.specs.OpenDocuments.{IsBadDraft}
use Rattle.qm_index.specs.declared.open_document.OpenDocument.{OpenDocument}
use Rattle.qm_index.proofs.index.Index.reopen.Goals as goal

pub add_good-requires-clause-good : goal.add_good-requires-clause-good
add_good-requires-clause-good c =
    let self = c.args.self.now in
    let ds = self.documents.items in
    let document = c.document-item.result in
    let IsTaken : OpenDocument → Type 0 = λ d. ¬ IsBadDraft self.searcher.schema d.given in
    let taken : All IsTaken (drop self.built ds) = All-drop IsTaken self.built ds self.good in
    let row : List OpenDocument → List OpenDocument = λ l. take (length l - self.built) (drop self.built l) in
    let all : All IsTaken (row c.deref.result.now) =
    subst (λ l. All IsTaken (row l)) (sym c.deref.ensures.value) (All-take IsTaken (length ds - self.built) (drop self.built ds) taken) in
    let own : IsTaken document = subst IsTaken (sym c.document-item.is) (all c.loop-document.document-index document (omega arith)) in
    subst (λ schema. ¬ IsBadDraft schema document.given) (sym (ap (λ s. s.schema) c.loop-document.invariant)) own
